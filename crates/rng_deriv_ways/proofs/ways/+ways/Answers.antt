use Rattle.std.proofs.Common.{◌∙◌, ◌<◌, ◌≤◌, ℕ, All, [], ◌++◌, length, map, refl, sym, ap, subst, arith, rules, IsTrue}
use Rattle.std.proofs.lemmas.Bool.{not-false, not-true}
use Rattle.std.proofs.lemmas.Result.{IfOk-weaker as if_ok}
use Rattle.rng_model.specs.simple.Tree.{Simple, group, s_joined, s_not_allowed}
use Rattle.rng_deriv_laws.specs.plain.Derivatives.{behind, is_nullable}
use Rattle.rng_deriv_laws.proofs.SameWays.{choice_all}
use Rattle.rng_deriv_laws.specs.plain.Taking.{Takes}
use Rattle.rng_deriv_table.specs.plain.Copies.{IsBehindCopies, IsOfCopies}
use Rattle.rng_deriv_table.specs.views.PatternTable.{Longer}
use Rattle.rng_deriv_table.specs.views.Skips.{members_at}
use Rattle.rng_deriv_table.specs.views.Trees.{choice_over, tree_of}
use Rattle.rng_deriv_table.specs.declared.pattern.Facts.{Facts}
use Rattle.rng_deriv_table.specs.declared.pattern.PatternNumber.{PatternNumber}
use Rattle.rng_deriv_table.proofs.Trees.{Longer-length, Longer-refl, Longer-trans, tree_stays}
use Rattle.rng_deriv_ways.specs.plain.Kinds.{connector_of, weight}
use Rattle.rng_model.specs.matching.GrammarMatching.{reading_of}
use Rattle.rng_deriv_ways.specs.views.KnownWays.{AreKnown}
use Rattle.rng_deriv_ways.specs.plain.FewerWays.{AreRepeated, AreUncovered}
use Rattle.rng_deriv_ways.specs.plain.Ways.{AreInside, AreWaysOf, StandFor, filled, ways_by}
use Rattle.rng_deriv_ways.specs.declared.way.Hole.TheVariants as holes
use Rattle.rng_deriv_ways.specs.declared.way.Joint.TheVariants as joints
use Rattle.rng_deriv_ways.proofs.WaysOfSides.{both_made, copies_made, first_made, made, over_hands_on}
use Rattle.rng_deriv_ways.proofs.WaysOfSides.{no_order_between, none_made, over_same, side_law, ways_of_same}
use Rattle.rng_deriv_ways.proofs.FewerWaysLaws.{alone_made, left_inside, more_copies, repeated_made, uncovered_made}
use Rattle.rng_deriv_ways.proofs.Copies.{behind_weight, opened_gives, opened_takes, opened_weight}
use Rattle.rng_deriv_ways.proofs.KnownWays.{known_longer, known_more, those_known}
use Rattle.rng_deriv_ways.proofs.WayLists.{inside_longer}
use Rattle.rng_deriv_ways.proofs.PatternNodes.{is_over, other_single, parts_there, single_alone}
use Rattle.rng_deriv_ways.proofs.AttributeTakers.{candidates_longer}
use Rattle.rng_deriv_ways.proofs.IdleMembers.{all_idle, members_are, next_below, next_less, next_taken, next_within}
use Rattle.rng_deriv_ways.proofs.SideWeights.{right_less}
use Rattle.rng_deriv_ways.proofs.ways.+ways.Goals as goal

pub new_ways-ways_of_choice-requires : goal.new_ways-ways_of_choice-requires
new_ways-ways_of_choice-requires t c =
    let t0 = c.args.search.now.grammar.now in
    let ns = c.args.table.now in
    let members = c.in-Choice.field-0 in
    let ms = map (λ (m : PatternNumber). m.0) members.items in
    let is = is_over t0 ns c.args.number.0 c.pattern.result.now _ c.pattern.ensures.table c.pattern.ensures.found c.in-Choice.is in
    let there = members_are ns c.args.number.0 c.pattern.result.now members c.pattern.ensures.found c.in-Choice.is in
    let below = parts_there ns c.args.number.0 c.pattern.result.now _ c.pattern.ensures.table c.pattern.ensures.found c.in-Choice.is in
    let w = ap weight (is ∙ ap (choice_over (tree_of t0 ns)) (sym there)) in
    let d = c.decreases in
    let inside = c.requires.inside in
    let member : All (λ m. m < length ns) ms = λ k d h. let one = below.1 k d h in omega (arith, one, inside) in (
      omega (arith, w, d),
      (
        subst (All (λ m. m < length ns)) (sym there) member,
        (subst (λ ms. 2 ≤ length ms) (sym there) below.0, (inside, (c.requires.known, c.requires.candidates))),
      ),
    )

pub new_ways-returns-in-Choice-clause-ways : goal.new_ways-returns-in-Choice-clause-ways
new_ways-returns-in-Choice-clause-ways t c =
    let t0 = c.args.search.now.grammar.now in
    let ns = c.args.table.now in
    let members = c.in-Choice.field-0 in
    let there = members_are ns c.args.number.0 c.pattern.result.now members c.pattern.ensures.found c.in-Choice.is in
    let is = ap (choice_over (tree_of t0 ns)) there
    ∙ sym (is_over t0 ns c.args.number.0 c.pattern.result.now _ c.pattern.ensures.table c.pattern.ensures.found c.in-Choice.is) in
    if_ok c.ways_of_choice.result _ _ (λ ws h. subst (λ p. AreWaysOf t0 c.ways_of_choice.new.table c.args.search.now.kind p ws.items) is h)
    c.ways_of_choice.ensures.ways

pub ways_of_choice-next_member-requires : goal.ways_of_choice-next_member-requires
ways_of_choice-next_member-requires t c =
    let n0 = c.args.table.now in
    let inside = c.requires.number in
    let more = Longer-length n0 c.members.table c.members.invariant.longer in
    record {
      inside = omega (arith, inside, more);
      candidates = (
        c.args.search.now.grammar.now,
        c.args.search.now.kind,
        candidates_longer c.args.search.now.grammar.now n0 c.members.table c.members.invariant.longer c.args.search.now.kind c.args.search.now.candidates
            c.requires.candidates,
      );
    }

pub ways_of_choice-ways-requires : goal.ways_of_choice-ways-requires
ways_of_choice-ways-requires t c =
    let t0 = c.args.search.now.grammar.now in
    let n0 = c.args.table.now in
    let before = c.members.table in
    let next : ℕ × PatternNumber = (c.in-Some.behind, c.in-Some.member) in
    let less = next_less t0 n0 before c.members.invariant.longer c.args.search.now.kind c.args.search.now.candidates c.args.number.0 c.requires.number
    c.requires.inside
    c.requires.two c.members.next next c.in-Some.ensures in
    let inside = next_below t0 n0 before c.members.invariant.longer c.args.search.now.kind c.args.search.now.candidates c.args.number.0 c.requires.number
    c.requires.inside
    c.members.next next c.in-Some.ensures in
    let more = Longer-length n0 before c.members.invariant.longer in
    let d = c.decreases in (
      omega (arith, less, d),
      (
        omega (arith, inside, more),
        (
          c.members.invariant.known,
          candidates_longer t0 n0 before c.members.invariant.longer c.args.search.now.kind c.args.search.now.candidates c.requires.candidates,
        ),
      ),
    )

pub ways_of_choice-members-preserved : goal.ways_of_choice-members-preserved
ways_of_choice-members-preserved t c =
    let t0 = c.args.search.now.grammar.now in
    let n0 = c.args.table.now in
    let before = c.members.table in
    let n1 = c.ways.new.table in
    let next : ℕ × PatternNumber = (c.in-Some.behind, c.in-Some.member) in
    let right = candidates_longer t0 n0 before c.members.invariant.longer c.args.search.now.kind c.args.search.now.candidates c.requires.candidates in
    record {
      longer = Longer-trans n0 before n1 c.members.invariant.longer c.in_ok-ways.ensures.longer;
      known = c.in_ok-ways.ensures.known;
      within = (next_within t0 n0 before c.members.invariant.longer c.args.search.now.kind c.args.search.now.candidates c.args.number.0 c.requires.number
          c.requires.inside
          c.members.next next c.in-Some.ensures).1;
      ways = next_taken t0 n0 before c.members.invariant.longer c.args.search.now.kind c.args.search.now.candidates c.args.number.0 c.requires.number
          c.requires.inside
          right c.members.all.items n1 c.in_ok-ways.ensures.longer c.members.next next c.in-Some.ensures c.members.invariant.ways c.as_slice.result.now
          c.extend_from_slice.new.self.items
          (subst (AreWaysOf t0 n1 c.args.search.now.kind (tree_of t0 before c.in-Some.member.0)) (sym c.as_slice.ensures) c.in_ok-ways.ensures.ways)
          c.in_ok-extend_from_slice.ensures.items;
    }

pub ways_of_choice-members-preserved-in_ok-extend_from_slice : goal.ways_of_choice-members-preserved-in_ok-extend_from_slice
ways_of_choice-members-preserved-in_ok-extend_from_slice t c =
    let t0 = c.args.search.now.grammar.now in
    let n0 = c.args.table.now in
    let before = c.members.table in
    let n1 = c.ways.new.table in
    let next : ℕ × PatternNumber = (c.in-Some.behind, c.in-Some.member) in
    let right = candidates_longer t0 n0 before c.members.invariant.longer c.args.search.now.kind c.args.search.now.candidates c.requires.candidates in
    record {
      longer = Longer-trans n0 before n1 c.members.invariant.longer c.in_ok-ways.ensures.longer;
      known = c.in_ok-ways.ensures.known;
      within = (next_within t0 n0 before c.members.invariant.longer c.args.search.now.kind c.args.search.now.candidates c.args.number.0 c.requires.number
          c.requires.inside
          c.members.next next c.in-Some.ensures).1;
      ways = next_taken t0 n0 before c.members.invariant.longer c.args.search.now.kind c.args.search.now.candidates c.args.number.0 c.requires.number
          c.requires.inside
          right c.members.all.items n1 c.in_ok-ways.ensures.longer c.members.next next c.in-Some.ensures c.members.invariant.ways c.as_slice.result.now
          c.extend_from_slice.new.self.items
          (subst (AreWaysOf t0 n1 c.args.search.now.kind (tree_of t0 before c.in-Some.member.0)) (sym c.as_slice.ensures) c.in_ok-ways.ensures.ways)
          c.in_ok-extend_from_slice.ensures.items;
    }

pub ways_of_choice-members-smaller : goal.ways_of_choice-members-smaller
ways_of_choice-members-smaller t c =
    let next : ℕ × PatternNumber = (c.in-Some.behind, c.in-Some.member) in
    let within = next_within c.args.search.now.grammar.now c.args.table.now c.members.table c.members.invariant.longer c.args.search.now.kind
    c.args.search.now.candidates c.args.number.0
    c.requires.number c.requires.inside c.members.next next c.in-Some.ensures in
    let further = within.0 in
    let there = within.1 in
    omega (arith, further, there)

pub ways_of_choice-members-smaller-in_ok-extend_from_slice : goal.ways_of_choice-members-smaller-in_ok-extend_from_slice
ways_of_choice-members-smaller-in_ok-extend_from_slice t c =
    let next : ℕ × PatternNumber = (c.in-Some.behind, c.in-Some.member) in
    let within = next_within c.args.search.now.grammar.now c.args.table.now c.members.table c.members.invariant.longer c.args.search.now.kind
    c.args.search.now.candidates c.args.number.0
    c.requires.number c.requires.inside c.members.next next c.in-Some.ensures in
    let further = within.0 in
    let there = within.1 in
    omega (arith, further, there)

pub ways_of_choice-returns-clause-ways : goal.ways_of_choice-returns-clause-ways
ways_of_choice-returns-clause-ways t c =
    let t0 = c.args.search.now.grammar.now in
    let n0 = c.args.table.now in
    let before = c.members.table in
    let f : ℕ → Simple ℕ = tree_of t0 n0 in
    let numbers = members_at n0 c.args.number.0 in
    let right = candidates_longer t0 n0 before c.members.invariant.longer c.args.search.now.kind c.args.search.now.candidates c.requires.candidates in
    let h = all_idle t0 n0 before c.members.invariant.longer c.args.search.now.kind c.args.search.now.candidates c.args.number.0 c.requires.number
    c.requires.inside
    right c.members.all.items c.members.next c.members.invariant.within c.next_member.result c.next_member.ensures c.in_default.not-Some
    c.members.invariant.ways in
    let whole = ways_of_same t0 before c.args.search.now.kind (choice_all (map f numbers)) (choice_over f numbers) c.members.all.items
    (over_same (reading_of t0) f numbers) (over_hands_on f numbers) h in
    let seen = subst (AreWaysOf t0 before c.args.search.now.kind (choice_over f numbers)) (sym c.as_slice-2.ensures.value) whole in
    if_ok c.joined_ways.result _ _ (λ ws s. made t0 c.joined_ways.new.table c.args.search.now.kind (choice_over f numbers) ws.items _ s seen.law seen.kept)
    c.joined_ways.ensures.ways

pub new_ways-ways_of_group-requires : goal.new_ways-ways_of_group-requires
new_ways-ways_of_group-requires t c =
    let t0 = c.args.search.now.grammar.now in
    let w = ap weight (is_over t0 c.args.table.now c.args.number.0 c.pattern.result.now _ c.pattern.ensures.table c.pattern.ensures.found c.in-Group.is) in
    let below = parts_there c.args.table.now c.args.number.0 c.pattern.result.now _ c.pattern.ensures.table c.pattern.ensures.found c.in-Group.is in
    let first = below.0 in
    let second = below.1 in
    let d = c.decreases in
    let inside = c.requires.inside in
    (omega (arith, w, d), (omega (arith, first, inside), (omega (arith, second, inside), (c.requires.known, c.requires.candidates))))

pub new_ways-ways_of_both-requires : goal.new_ways-ways_of_both-requires
new_ways-ways_of_both-requires t c =
    let t0 = c.args.search.now.grammar.now in
    let w = ap weight (is_over t0 c.args.table.now c.args.number.0 c.pattern.result.now _ c.pattern.ensures.table c.pattern.ensures.found c.in-Interleave.is) in
    let below = parts_there c.args.table.now c.args.number.0 c.pattern.result.now _ c.pattern.ensures.table c.pattern.ensures.found c.in-Interleave.is in
    let first = below.0 in
    let second = below.1 in
    let d = c.decreases in
    let inside = c.requires.inside in (
      omega (arith, w, d),
      (no_order_between c.args.search.now.kind, (omega (arith, first, inside), (omega (arith, second, inside), (c.requires.known, c.requires.candidates)))),
    )

pub new_ways-ways_of_copies-requires : goal.new_ways-ways_of_copies-requires
new_ways-ways_of_copies-requires t c =
    let t0 = c.args.search.now.grammar.now in
    let below = parts_there c.args.table.now c.args.number.0 c.pattern.result.now _ c.pattern.ensures.table c.pattern.ensures.found c.in-OneOrMore.is in
    let d = c.decreases in
    let inside = c.requires.inside in (
      omega (arith, d),
      (
        inside,
        (
          omega (arith, below, inside),
          (
            is_over t0 c.args.table.now c.args.number.0 c.pattern.result.now _ c.pattern.ensures.table
                c.pattern.ensures.found c.in-OneOrMore.is,
            (c.requires.known, c.requires.candidates),
          ),
        ),
      ),
    )

pub new_ways-ways_of_leaf-requires : goal.new_ways-ways_of_leaf-requires
new_ways-ways_of_leaf-requires t c = record {
  inside = c.requires.inside;
  candidates = c.requires.candidates;
  leaf = single_alone c.args.search.now.grammar.now c.args.table.now c.args.number.0 c.pattern.result.now c.pattern.result.now c.pattern.ensures.table
      c.pattern.ensures.found refl
      (other_single c.pattern.result.now c.in_default.not-Choice c.in_default.not-Group c.in_default.not-Interleave c.in_default.not-OneOrMore);
}

pub new_ways-returns-in-Group-clause-ways : goal.new_ways-returns-in-Group-clause-ways
new_ways-returns-in-Group-clause-ways t c =
    let t0 = c.args.search.now.grammar.now in
    let is = sym (is_over t0 c.args.table.now c.args.number.0 c.pattern.result.now _ c.pattern.ensures.table c.pattern.ensures.found c.in-Group.is) in
    if_ok c.ways_of_group.result _ _ (λ ws h. subst (λ p. AreWaysOf t0 c.ways_of_group.new.table c.args.search.now.kind p ws.items) is h)
    c.ways_of_group.ensures.ways

pub new_ways-returns-in-Interleave-clause-ways : goal.new_ways-returns-in-Interleave-clause-ways
new_ways-returns-in-Interleave-clause-ways t c =
    let t0 = c.args.search.now.grammar.now in
    let is = sym (is_over t0 c.args.table.now c.args.number.0 c.pattern.result.now _ c.pattern.ensures.table c.pattern.ensures.found c.in-Interleave.is) in
    if_ok c.ways_of_both.result _ _ (λ ws h. subst (λ p. AreWaysOf t0 c.ways_of_both.new.table c.args.search.now.kind p ws.items) is h)
    c.ways_of_both.ensures.ways

pub ways_of_both-ways-requires-2 : goal.ways_of_both-ways-requires-2
ways_of_both-ways-requires-2 t c =
    let t0 = c.args.search.now.grammar.now in
    let stays = ap weight (tree_stays t0 c.args.table.now c.ways.new.table c.args.sides.second.0 c.in_ok-firsts.ensures.longer c.requires.second) in
    let less = right_less (connector_of c.args.sides.joint) (tree_of t0 c.args.table.now c.args.sides.first.0) (tree_of t0 c.args.table.now
    c.args.sides.second.0) in
    let d = c.decreases in
    let inside = c.requires.second in
    let long = Longer-length c.args.table.now c.ways.new.table c.in_ok-firsts.ensures.longer in (
      omega (arith, stays, less, d),
      (
        omega (arith, inside, long),
        (
          c.in_ok-firsts.ensures.known,
          candidates_longer t0 c.args.table.now c.ways.new.table c.in_ok-firsts.ensures.longer c.args.search.now.kind c.args.search.now.candidates
              c.requires.candidates,
        ),
      ),
    )

pub ways_of_both-returns-clause-ways : goal.ways_of_both-returns-clause-ways
ways_of_both-returns-clause-ways t c =
    let t0 = c.args.search.now.grammar.now in
    let n0 = c.args.table.now in
    let n1 = c.ways.new.table in
    let n2 = c.ways-2.new.table in
    let n3 = c.add_filled.new.table in
    let p = tree_of t0 n0 c.args.sides.first.0 in
    let q = tree_of t0 n0 c.args.sides.second.0 in
    let longer2 = Longer-trans n0 n1 n2 c.in_ok-firsts.ensures.longer c.in_ok-seconds.ensures.longer in
    let longer3 = Longer-trans n0 n2 n3 longer2 c.in_ok-add_filled.ensures.longer in
    let second_is = tree_stays t0 n0 n1 c.args.sides.second.0 c.in_ok-firsts.ensures.longer c.requires.second in
    let a = side_law t0 n1 n2 c.args.search.now.kind p c.in_ok-firsts.firsts.items c.in_ok-seconds.ensures.longer c.in_ok-firsts.ensures.ways in
    let b = side_law t0 n2 n3 c.args.search.now.kind q c.in_ok-seconds.seconds.items c.in_ok-add_filled.ensures.longer
    (subst (λ q. AreWaysOf t0 n2 c.args.search.now.kind q c.in_ok-seconds.seconds.items) second_is c.in_ok-seconds.ensures.ways) in
    both_made t0 n2 n3 c.add_filled-2.new.table c.args.search.now.kind c.args.sides.joint c.args.sides.first c.args.sides.second p q c.as_slice.result.now
    c.as_slice-2.result.now
    c.new-all.result.items c.add_filled.new.all.items c.add_filled-2.new.all.items c.requires.order c.new-all.ensures.items
    (tree_stays t0 n0 n3 c.args.sides.first.0 longer3 c.requires.first) (tree_stays t0 n0 n2 c.args.sides.second.0 longer2 c.requires.second)
    (subst (AreWaysOf t0 n2 c.args.search.now.kind p) (sym c.as_slice.ensures) a) (subst (AreWaysOf t0 n3 c.args.search.now.kind q) (sym
    c.as_slice-2.ensures) b)
    c.in_ok-add_filled.ensures.ways c.in_ok-add_filled-2.ensures.ways

pub item_ways_of_group-returns-then-not-facts-clause-ways : goal.item_ways_of_group-returns-then-not-facts-clause-ways
item_ways_of_group-returns-then-not-facts-clause-ways t c =
    let t0 = c.args.search.now.grammar.now in
    let n0 = c.args.table.now in
    let n1 = c.ways.new.table in
    let n2 = c.add_filled.new.table in
    let p = tree_of t0 n0 c.args.first.0 in
    let q = tree_of t0 n0 c.args.second.0 in
    let longer2 = Longer-trans n0 n1 n2 c.in_ok-firsts.ensures.longer c.in_ok-add_filled.ensures.longer in
    let first_is = ap is_nullable (tree_stays t0 n0 n2 c.args.first.0 longer2 c.requires.first) in
    let told = ap (λ (f : Facts). f.nullable) (c.facts.ensures.exact t0) in
    let a = subst (AreWaysOf t0 n1 c.args.search.now.kind p) (sym c.as_slice.ensures) c.in_ok-firsts.ensures.ways in
    first_made t0 n1 n2 c.args.search.now.kind c.args.second p q c.as_slice.result.now c.new-all.result.items c.add_filled.new.all.items c.requires.kind
    (sym first_is ∙ sym told ∙ not-true _ c.if-not-facts.true) c.new-all.ensures.items
    (tree_stays t0 n0 n1 c.args.second.0 c.in_ok-firsts.ensures.longer c.requires.second) a c.in_ok-add_filled.ensures.ways

pub item_ways_of_group-ways-requires-2 : goal.item_ways_of_group-ways-requires-2
item_ways_of_group-ways-requires-2 t c =
    let t0 = c.args.search.now.grammar.now in
    let n0 = c.args.table.now in
    let n2 = c.add_filled.new.table in
    let longer = Longer-trans n0 c.ways.new.table n2 c.in_ok-firsts.ensures.longer c.in_ok-add_filled.ensures.longer in
    let stays = ap weight (tree_stays t0 n0 n2 c.args.second.0 longer c.requires.second) in
    let less = right_less group (tree_of t0 n0 c.args.first.0) (tree_of t0 n0 c.args.second.0) in
    let rest = behind_weight (tree_of t0 n2 c.args.first.0) (tree_of t0 n2 c.args.second.0) (tree_of t0 n2 c.in-Some.rest.0) (c.in-Some.ensures.behind t0) in
    let d = c.decreases in (
      omega (arith, stays, less, rest, d),
      (
        c.in-Some.ensures.inside,
        (
          known_longer t0 c.ways.new.table n2 c.args.search.now.kind c.in_ok-add_filled.ensures.longer c.ways.new.known c.in_ok-firsts.ensures.known,
          candidates_longer t0 n0 n2 longer c.args.search.now.kind c.args.search.now.candidates c.requires.candidates,
        ),
      ),
    )

pub item_ways_of_group-uncovered-requires : goal.item_ways_of_group-uncovered-requires
item_ways_of_group-uncovered-requires t c =
    let n1 = c.ways.new.table in
    let n2 = c.add_filled.new.table in
    let n3 = c.ways-2.new.table in
    let longer = Longer-trans n1 n2 n3 c.in_ok-add_filled.ensures.longer c.in_ok-seconds.ensures.longer in
    let long = Longer-length n2 n3 c.in_ok-seconds.ensures.longer in
    let inside = c.in-Some.ensures.inside in
    record {
      second = omega (arith, inside, long);
      firsts = inside_longer n1 n3 c.as_slice-2.result.now longer (subst (AreInside n1) (sym c.as_slice-2.ensures) c.in_ok-firsts.ensures.ways.inside);
      seconds = c.in_ok-seconds.ensures.ways.inside;
    }

pub item_ways_of_group-returns-clause-ways : goal.item_ways_of_group-returns-clause-ways
item_ways_of_group-returns-clause-ways t c =
    let t0 = c.args.search.now.grammar.now in
    let n0 = c.args.table.now in
    let n1 = c.ways.new.table in
    let n2 = c.add_filled.new.table in
    let p = tree_of t0 n0 c.args.first.0 in
    let q = tree_of t0 n0 c.args.second.0 in
    let longer2 = Longer-trans n0 n1 n2 c.in_ok-firsts.ensures.longer c.in_ok-add_filled.ensures.longer in
    let first_is = tree_stays t0 n0 n2 c.args.first.0 longer2 c.requires.first in
    let second_is = tree_stays t0 n0 n2 c.args.second.0 longer2 c.requires.second in
    let told : IsTrue c.facts.result.nullable = not-false _ c.if-not-facts.false in
    let ends = subst (λ p. Takes (reading_of t0) p [] []) first_is ((c.facts.ensures.nullable t0 (reading_of t0)).0 told) in
    let n3 = c.ways-2.new.table in
    let longer23 = c.in_ok-seconds.ensures.longer in
    let longer13 = Longer-trans n1 n2 n3 c.in_ok-add_filled.ensures.longer longer23 in
    let rest = c.in-Some.rest in
    let s = tree_of t0 n2 rest.0 in
    let copies = subst (λ p. IsBehindCopies p q s) first_is
    (subst (λ q. IsBehindCopies (tree_of t0 n2 c.args.first.0) q s) second_is (c.in-Some.ensures.behind t0)) in
    let firsts = c.in_ok-firsts.firsts.items in
    let seconds = c.in_ok-seconds.seconds.items in
    let left = subst (AreUncovered n3 rest c.as_slice-2.result.now seconds) (sym c.as_slice-3.ensures) c.in_ok-seconds-2.ensures in
    let uncovered = subst (λ ws. AreUncovered n3 rest ws seconds c.as_slice-3.result.now) c.as_slice-2.ensures left in
    let some = subst (λ ws. StandFor n2 c.add_filled.new.all.items (λ t. ways_by (tree_of t n1) c.new-all.result.items
    ++ behind (filled (tree_of t n1) (holes.First joints.Group c.args.second)) (ways_by (tree_of t n1) ws))) c.as_slice.ensures
    c.in_ok-add_filled.ensures.ways in
    uncovered_made t0 n1 n3 longer13 rest s firsts seconds c.as_slice-3.result.now (tree_stays t0 n2 n3 rest.0 longer23 c.in-Some.ensures.inside)
    c.in_ok-firsts.ensures.ways.inside uncovered n2 c.add_filled-2.new.table c.args.search.now.kind c.args.second p q c.new-all.result.items
    c.add_filled.new.all.items c.add_filled-2.new.all.items c.requires.kind ends copies c.new-all.ensures.items
    (tree_stays t0 n0 n1 c.args.second.0 c.in_ok-firsts.ensures.longer c.requires.second) c.in_ok-firsts.ensures.ways c.in_ok-seconds.ensures.ways
    longer23 some c.in_ok-add_filled-2.ensures.ways

pub ways_of_choice-returns-clause-known : goal.ways_of_choice-returns-clause-known
ways_of_choice-returns-clause-known t c =
    let t0 = c.args.search.now.grammar.now in
    let base = c.members.table in
    let new = c.joined_ways.new.table in
    if_ok c.joined_ways.result (λ ws. Longer base new) (λ ws. AreKnown t0 new c.args.search.now.kind c.members.known)
    (λ ws longer. known_longer t0 base new c.args.search.now.kind longer c.members.known c.members.invariant.known) c.joined_ways.ensures.longer

pub ways_of_copies-returns-clause-ways : goal.ways_of_copies-returns-clause-ways
ways_of_copies-returns-clause-ways t c =
    let t0 = c.args.search.now.grammar.now in
    let n0 = c.args.table.now in
    let n1 = c.ways.new.table in
    let n2 = c.empty.new.self in
    let n3 = c.choice.new.self in
    let p = tree_of t0 n0 c.args.body.0 in
    let more = c.in_ok-more.more in
    let longer2 = Longer-trans n0 n1 n2 c.in_ok-copies.ensures.longer c.in_ok-empty.ensures.longer in
    let longer13 = Longer-trans n1 n2 n3 c.in_ok-empty.ensures.longer c.in_ok-more.ensures.longer in
    let copies = more_copies t0 n2 n3 c.args.number c.in_ok-empty.empty more p
    (tree_stays t0 n0 n2 c.args.number.0 longer2 c.requires.number ∙ c.requires.copies) (c.in_ok-empty.ensures.tree.is t0)
    (λ g xs ns. c.in_ok-more.ensures.matches t0 g xs ns) (c.in_ok-more.ensures.alternatives t0) in
    let a = side_law t0 n1 n3 c.args.search.now.kind p c.in_ok-copies.copies.items longer13 c.in_ok-copies.ensures.ways in
    let n4 = c.add_filled.new.table in
    subst (λ q. AreWaysOf t0 n4 c.args.search.now.kind q c.add_filled.new.all.items) (sym c.requires.copies)
    (copies_made t0 n3 n4 c.args.search.now.kind more p c.as_slice-2.result.now c.new-all.result.items c.add_filled.new.all.items c.new-all.ensures.items
    copies.0 copies.1
    (subst (AreWaysOf t0 n3 c.args.search.now.kind p) (sym c.as_slice-2.ensures) a) c.in_ok-add_filled.ensures.ways)

pub item_ways_of_group-add_filled-requires-2-clause-ways : goal.item_ways_of_group-add_filled-requires-2-clause-ways
item_ways_of_group-add_filled-requires-2-clause-ways t c =
    let n3 = c.ways-2.new.table in
    subst (AreInside n3) (sym c.as_slice-3.ensures)
    (left_inside n3 c.in-Some.rest c.as_slice-2.result.now c.in_ok-seconds.seconds.items c.in_ok-seconds-2.seconds.items c.in_ok-seconds-2.ensures
    c.in_ok-seconds.ensures.ways.inside)

pub item_ways_of_group-add_filled-requires-2-clause-all : goal.item_ways_of_group-add_filled-requires-2-clause-all
item_ways_of_group-add_filled-requires-2-clause-all t c =
    inside_longer c.add_filled.new.table c.ways-2.new.table c.add_filled.new.all.items c.in_ok-seconds.ensures.longer c.in_ok-add_filled.ensures.ways.inside

pub ways_of_copies-returns-in-Attribute-clause-known : goal.ways_of_copies-returns-in-Attribute-clause-known
ways_of_copies-returns-in-Attribute-clause-known t c =
    let n1 = c.ways.new.table in
    let n2 = c.empty.new.self in
    let n3 = c.choice.new.self in
    let longer = Longer-trans n1 n2 n3 c.in_ok-empty.ensures.longer c.in_ok-more.ensures.longer in
    if_ok c.repeated_ways.result _ _ (λ ws h. known_longer c.args.search.now.grammar.now n1 n3 c.args.search.now.kind longer c.ways.new.known
    c.in_ok-copies.ensures.known)
    c.repeated_ways.ensures

pub ways_of_copies-returns-in-Attribute-clause-ways : goal.ways_of_copies-returns-in-Attribute-clause-ways
ways_of_copies-returns-in-Attribute-clause-ways t c =
    let t0 = c.args.search.now.grammar.now in
    let n0 = c.args.table.now in
    let n1 = c.ways.new.table in
    let n2 = c.empty.new.self in
    let n3 = c.choice.new.self in
    let p = tree_of t0 n0 c.args.body.0 in
    let more = c.in_ok-more.more in
    let longer2 = Longer-trans n0 n1 n2 c.in_ok-copies.ensures.longer c.in_ok-empty.ensures.longer in
    let longer13 = Longer-trans n1 n2 n3 c.in_ok-empty.ensures.longer c.in_ok-more.ensures.longer in
    let copies = more_copies t0 n2 n3 c.args.number c.in_ok-empty.empty more p
    (tree_stays t0 n0 n2 c.args.number.0 longer2 c.requires.number ∙ c.requires.copies) (c.in_ok-empty.ensures.tree.is t0)
    (λ g xs ns. c.in_ok-more.ensures.matches t0 g xs ns) (c.in_ok-more.ensures.alternatives t0) in
    let a = side_law t0 n1 n3 c.args.search.now.kind p c.in_ok-copies.copies.items longer13 c.in_ok-copies.ensures.ways in
    if_ok c.repeated_ways.result _ _ (λ ws h. subst (λ q. AreWaysOf t0 n3 c.args.search.now.kind q ws.items) (sym c.requires.copies)
    (repeated_made t0 n3 c.in_ok-copies.copies.items ws.items more (subst (λ cs. AreRepeated n3 cs more ws.items) c.as_slice.ensures h) c.args.search.now.kind _
    c.in-Attribute.is p c.in_ok-more.ensures.inside copies.0 copies.1 a)) c.repeated_ways.ensures

pub ways_of_copies-repeated_ways-requires : goal.ways_of_copies-repeated_ways-requires
ways_of_copies-repeated_ways-requires t c =
    let n1 = c.ways.new.table in
    let n2 = c.empty.new.self in
    let n3 = c.choice.new.self in
    subst (AreInside n3) (sym c.as_slice.ensures) (inside_longer n1 n3 c.in_ok-copies.copies.items
    (Longer-trans n1 n2 n3 c.in_ok-empty.ensures.longer c.in_ok-more.ensures.longer) c.in_ok-copies.ensures.ways.inside)

pub ways_of_copies-add_filled-requires : goal.ways_of_copies-add_filled-requires
ways_of_copies-add_filled-requires t c =
    let n1 = c.ways.new.table in
    let n2 = c.empty.new.self in
    let n3 = c.choice.new.self in
    let none : AreInside n3 [] = λ k d lt. absurd (omega (arith, lt)) in
    record {
      hole = c.in_ok-more.ensures.inside;
      ways = subst (AreInside n3) (sym c.as_slice-2.ensures) (inside_longer n1 n3 c.in_ok-copies.copies.items
          (Longer-trans n1 n2 n3 c.in_ok-empty.ensures.longer c.in_ok-more.ensures.longer) c.in_ok-copies.ensures.ways.inside);
      all = subst (AreInside n3) (sym c.new-all.ensures.items) none;
    }

pub ways_of_both-returns-clause-known : goal.ways_of_both-returns-clause-known
ways_of_both-returns-clause-known t c =
    let n2 = c.ways-2.new.table in
    let n3 = c.add_filled.new.table in
    let n4 = c.add_filled-2.new.table in
    known_longer c.args.search.now.grammar.now n2 n4 c.args.search.now.kind
    (Longer-trans n2 n3 n4 c.in_ok-add_filled.ensures.longer c.in_ok-add_filled-2.ensures.longer) c.ways-2.new.known c.in_ok-seconds.ensures.known

pub item_ways_of_group-returns-then-not-facts-clause-known : goal.item_ways_of_group-returns-then-not-facts-clause-known
item_ways_of_group-returns-then-not-facts-clause-known t c =
    known_longer c.args.search.now.grammar.now c.ways.new.table c.add_filled.new.table c.args.search.now.kind c.in_ok-add_filled.ensures.longer c.ways.new.known
    c.in_ok-firsts.ensures.known

pub item_ways_of_group-returns-clause-known : goal.item_ways_of_group-returns-clause-known
item_ways_of_group-returns-clause-known t c =
    known_longer c.args.search.now.grammar.now c.ways-2.new.table c.add_filled-2.new.table c.args.search.now.kind c.in_ok-add_filled-2.ensures.longer
    c.ways-2.new.known
    c.in_ok-seconds.ensures.known

pub ways_of_copies-returns-clause-known : goal.ways_of_copies-returns-clause-known
ways_of_copies-returns-clause-known t c =
    let n1 = c.ways.new.table in
    let n2 = c.empty.new.self in
    let n3 = c.choice.new.self in
    let n4 = c.add_filled.new.table in
    let longer = Longer-trans n1 n2 n3 c.in_ok-empty.ensures.longer c.in_ok-more.ensures.longer in
    known_longer c.args.search.now.grammar.now n1 n4 c.args.search.now.kind (Longer-trans n1 n3 n4 longer c.in_ok-add_filled.ensures.longer) c.ways.new.known
    c.in_ok-copies.ensures.known

pub ways-returns-clause-known : goal.ways-returns-clause-known
ways-returns-clause-known t c =
    let t0 = c.args.search.now.grammar.now in
    let n0 = c.args.table.now in
    let n1 = c.new_ways-2.new.table in
    let ws = c.as_slice.result.now in
    known_more t0 n1 c.args.search.now.kind c.new_ways-2.new.known c.keep.new.known c.args.number ws c.in_ok-ways.ensures.known
    (those_known t0 n0 n1 c.args.search.now.kind c.in_ok-ways.ensures.longer c.args.number ws c.requires.inside
    (subst (AreWaysOf t0 n1 c.args.search.now.kind (tree_of t0 n0 c.args.number.0)) (sym c.as_slice.ensures) c.in_ok-ways.ensures.ways))
    c.in_ok-keep.ensures

pub ways-returns-then-is_idle-clause-ways : goal.ways-returns-then-is_idle-clause-ways
ways-returns-then-is_idle-clause-ways t c =
    let t0 = c.args.search.now.grammar.now in
    let p = tree_of t0 c.args.table.now c.args.number.0 in
    subst (AreWaysOf t0 c.args.table.now c.args.search.now.kind p) (sym c.new.ensures.items)
    (c.is_idle.ensures c.if-is_idle.true t0 c.args.search.now.kind c.requires.candidates)

pub new_ways-returns-in_default : goal.new_ways-returns-in_default
new_ways-returns-in_default t c = record {
  longer = c.ways_of_leaf.ensures.longer;
  known = if_ok c.ways_of_leaf.result _ _ (λ ws longer. known_longer c.args.search.now.grammar.now c.args.table.now c.ways_of_leaf.new.table
      c.args.search.now.kind
      longer c.args.known.now c.requires.known) c.ways_of_leaf.ensures.longer;
  ways = c.ways_of_leaf.ensures.ways;
}

pub item_ways_of_group-returns-in_default-clause-known : goal.item_ways_of_group-returns-in_default-clause-known
item_ways_of_group-returns-in_default-clause-known t c =
    known_longer c.args.search.now.grammar.now c.ways.new.table c.add_filled.new.table c.args.search.now.kind c.in_ok-add_filled.ensures.longer c.ways.new.known
    c.in_ok-firsts.ensures.known

pub item_ways_of_group-returns-in_default-clause-ways : goal.item_ways_of_group-returns-in_default-clause-ways
item_ways_of_group-returns-in_default-clause-ways t c =
    let t0 = c.args.search.now.grammar.now in
    let n0 = c.args.table.now in
    let n1 = c.ways.new.table in
    let n2 = c.add_filled.new.table in
    let p = tree_of t0 n0 c.args.first.0 in
    let q = tree_of t0 n0 c.args.second.0 in
    let longer2 = Longer-trans n0 n1 n2 c.in_ok-firsts.ensures.longer c.in_ok-add_filled.ensures.longer in
    let first_is = tree_stays t0 n0 n2 c.args.first.0 longer2 c.requires.first in
    let second_is = tree_stays t0 n0 n2 c.args.second.0 longer2 c.requires.second in
    let told : IsTrue c.facts.result.nullable = not-false _ c.if-not-facts.false in
    let ends = subst (λ p. Takes (reading_of t0) p [] []) first_is ((c.facts.ensures.nullable t0 (reading_of t0)).0 told) in
    let copies = subst (λ p. IsOfCopies p q) first_is
    (subst (λ q. IsOfCopies (tree_of t0 n2 c.args.first.0) q) second_is (c.in_default.ensures.alone t0)) in
    let a = subst (AreWaysOf t0 n1 c.args.search.now.kind p) (sym c.as_slice.ensures) c.in_ok-firsts.ensures.ways in
    alone_made t0 n1 n2 c.args.search.now.kind c.args.second p q c.as_slice.result.now c.new-all.result.items c.add_filled.new.all.items c.requires.kind ends
    copies
    c.new-all.ensures.items (tree_stays t0 n0 n1 c.args.second.0 c.in_ok-firsts.ensures.longer c.requires.second) a c.in_ok-add_filled.ensures.ways

pub ways_of_choice-members-init : goal.ways_of_choice-members-init
ways_of_choice-members-init t c =
    let t0 = c.args.search.now.grammar.now in
    let n0 = c.args.table.now in
    record {
      longer = Longer-refl n0;
      known = c.requires.known;
      within = omega arith;
      ways = subst (AreWaysOf t0 n0 c.args.search.now.kind s_not_allowed) (sym c.new-all.ensures.items) (none_made t0 n0 c.args.search.now.kind);
    }

pub ways_of_group-item_ways_of_group-requires : goal.ways_of_group-item_ways_of_group-requires
ways_of_group-item_ways_of_group-requires t c =
    let t0 = c.args.search.now.grammar.now in
    let n0 = c.args.table.now in
    let n1 = c.reassociated.new.self in
    let longer = c.in_ok-first.ensures.longer in
    let less = opened_weight (tree_of t0 n0 c.args.first.0) (tree_of t0 n0 c.args.second.0) (tree_of t0 n1 c.in_ok-first.first.0)
    (tree_of t0 n1 c.in_ok-first.rest.0) (c.in_ok-first.ensures.opened t0) in
    let d = c.decreases in (
      omega (arith, less, d),
      (
        search rules,
        (
          c.in_ok-first.ensures.inside.0,
          (
            c.in_ok-first.ensures.inside.1,
            (
              known_longer t0 n0 n1 c.args.search.now.kind longer c.args.known.now c.requires.known,
              candidates_longer t0 n0 n1 longer c.args.search.now.kind c.args.search.now.candidates c.requires.candidates,
            ),
          ),
        ),
      ),
    )

pub ways_of_group-returns : goal.ways_of_group-returns
ways_of_group-returns t c =
    let t0 = c.args.search.now.grammar.now in
    let n0 = c.args.table.now in
    let n1 = c.reassociated.new.self in
    let n2 = c.item_ways_of_group.new.table in
    let p = tree_of t0 n0 c.args.first.0 in
    let q = tree_of t0 n0 c.args.second.0 in
    let x = tree_of t0 n1 c.in_ok-first.first.0 in
    let y = tree_of t0 n1 c.in_ok-first.rest.0 in
    let opened = c.in_ok-first.ensures.opened t0 in
    record {
      longer = if_ok c.item_ways_of_group.result _ _ (λ ws h. Longer-trans n0 n1 n2 c.in_ok-first.ensures.longer h) c.item_ways_of_group.ensures.longer;
      known = c.item_ways_of_group.ensures.known;
      ways = if_ok c.item_ways_of_group.result _ _
          (λ ws h. ways_of_same t0 n2 c.args.search.now.kind (s_joined group x y) (s_joined group p q) ws.items (opened_takes (reading_of t0) p q x y opened)
          (opened_gives p q x y opened) h) c.item_ways_of_group.ensures.ways;
    }
