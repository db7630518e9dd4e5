use Rattle.std.proofs.Common.{◌≡◌, ◌∙◌, ◌<◌, ◌+◌, ◌↔◌, All, List, length, map, take, get_or, refl, sym, ap, subst, arith, rules, true, false}
use Rattle.std.proofs.lemmas.Bool.{not-false, not-true}
use Rattle.std.proofs.Math.ListN.{get_or-map}
use Rattle.std.proofs.lemmas.List.{length-map, take_all}
use Rattle.std.proofs.lemmas.Result.{IfOk-weaker as if_ok}
use Rattle.rng_model.specs.simple.Table.{Table}
use Rattle.rng_model.specs.matching.Document.{Attribute, Item}
use Rattle.rng_model.specs.matching.GrammarMatching.{Reading}
use Rattle.rng_deriv_laws.specs.plain.Taking.{Takes}
use Rattle.rng_deriv_laws.specs.plain.Restricted.{HasTexts, MayBeListed}
use Rattle.rng_deriv_laws.specs.plain.Derivatives.{closed}
use Rattle.rng_deriv_laws.proofs.SameWays.{choice_all}
use Rattle.rng_deriv_table.specs.plain.Reduced.{has_attribute}
use Rattle.rng_deriv_table.specs.views.Choices.{SomeTakes}
use Rattle.rng_deriv_table.specs.views.Trees.{choice_over, tree_of}
use Rattle.rng_deriv_table.specs.declared.pattern.Facts.{Facts}
use Rattle.rng_deriv_table.specs.declared.pattern.PatternNumber.{PatternNumber}
use Rattle.rng_deriv_table.proofs.Trees.{Longer-length, Longer-trans}
use Rattle.rng_deriv_ways.specs.plain.Closing.{IsBareOfAttributes}
use Rattle.rng_deriv_ways.proofs.PatternsWithoutAttributes.{bare_there, closed_same}
use Rattle.rng_deriv_ways.specs.declared.way.Joint.TheVariants as joints
use Rattle.rng_deriv_ways.proofs.ClosedTags.{both_closed, both_ok, choice_closed, copies_closed, inside_more, none_closed, takes_more, bare_more}
use Rattle.rng_deriv_ways.specs.views.KnownRests.{HasRest}
use Rattle.rng_deriv_ways.proofs.KnownRests.{rests_longer, rests_more}
use Rattle.rng_deriv_ways.proofs.PatternNodes.{is_over, other_single, parts_there, single_alone}
use Rattle.rng_deriv_ways.proofs.closing.+closing.Goals as goal

pub rest_of-returns-then-not-facts-clause-closed : goal.rest_of-returns-then-not-facts-clause-closed
rest_of-returns-then-not-facts-clause-closed t c =
    let none : (t0 : Table) → has_attribute (tree_of t0 c.args.table.now c.args.number.0) ≡ false = λ t0.
    sym (ap (λ (f : Facts). f.attributes) (c.facts.ensures.exact t0)) ∙ not-true _ c.if-not-facts.true in
    record {
      inside = c.requires.inside;
      same = λ t0 g. closed_same g (tree_of t0 c.args.table.now c.args.number.0) (none t0);
      bare = λ t0 o. bare_there (tree_of t0 c.args.table.now c.args.number.0) (none t0) o;
    }

pub close_parts-rest_of-requires : goal.close_parts-rest_of-requires
close_parts-rest_of-requires t c =
    let below = (parts_there c.args.table.now c.args.number.0 c.pattern.result.now _ c.pattern.ensures.table c.pattern.ensures.found c.in-Group.is).0 in
    let d = c.decreases in
    let inside = c.requires.inside in
    (omega (arith, below, d), (omega (arith, below, inside), c.requires.known))

pub close_parts-rest_of-requires-in-Group : goal.close_parts-rest_of-requires-in-Group
close_parts-rest_of-requires-in-Group t c =
    let below = (parts_there c.args.table.now c.args.number.0 c.pattern.result.now _ c.pattern.ensures.table c.pattern.ensures.found c.in-Group.is).1 in
    let d = c.decreases in
    let inside = c.requires.inside in
    let long = Longer-length c.args.table.now c.rest_of.new.table c.in_ok-first-in-Group.ensures.longer in
    (omega (arith, below, d), (omega (arith, below, inside, long), c.in_ok-first-in-Group.ensures.known))

pub close_parts-rest_of-requires-in-Interleave : goal.close_parts-rest_of-requires-in-Interleave
close_parts-rest_of-requires-in-Interleave t c =
    let below = (parts_there c.args.table.now c.args.number.0 c.pattern.result.now _ c.pattern.ensures.table c.pattern.ensures.found c.in-Interleave.is).0 in
    let d = c.decreases in
    let inside = c.requires.inside in
    (omega (arith, below, d), (omega (arith, below, inside), c.requires.known))

pub close_parts-rest_of-requires-in-Interleave-2 : goal.close_parts-rest_of-requires-in-Interleave-2
close_parts-rest_of-requires-in-Interleave-2 t c =
    let below = (parts_there c.args.table.now c.args.number.0 c.pattern.result.now _ c.pattern.ensures.table c.pattern.ensures.found c.in-Interleave.is).1 in
    let d = c.decreases in
    let inside = c.requires.inside in
    let long = Longer-length c.args.table.now c.rest_of-in-Interleave.new.table c.in_ok-first-in-Interleave.ensures.longer in
    (omega (arith, below, d), (omega (arith, below, inside, long), c.in_ok-first-in-Interleave.ensures.known))

pub close_parts-rest_of-requires-in-OneOrMore : goal.close_parts-rest_of-requires-in-OneOrMore
close_parts-rest_of-requires-in-OneOrMore t c =
    let below = parts_there c.args.table.now c.args.number.0 c.pattern.result.now _ c.pattern.ensures.table c.pattern.ensures.found c.in-OneOrMore.is in
    let d = c.decreases in
    let inside = c.requires.inside in
    (omega (arith, below, d), (omega (arith, below, inside), c.requires.known))

pub close_parts-returns-in_ok-second-in-Group-clause-closed : goal.close_parts-returns-in_ok-second-in-Group-clause-closed
close_parts-returns-in_ok-second-in-Group-clause-closed t c =
    let old = c.args.table.now in
    let n1 = c.rest_of.new.table in
    let n2 = c.rest_of-in-Group.new.table in
    let below = (parts_there c.args.table.now c.args.number.0 c.pattern.result.now _ c.pattern.ensures.table c.pattern.ensures.found c.in-Group.is).1 in
    let inside = c.requires.inside in
    if_ok c.group.result _ _ (λ n adds. both_closed joints.Group old n1 n2 c.group.new.self c.args.number c.in-Group.first c.in-Group.second
    c.in_ok-first-in-Group.first c.in_ok-second-in-Group.second n (λ t0. is_over t0 c.args.table.now c.args.number.0 c.pattern.result.now _
    c.pattern.ensures.table c.pattern.ensures.found c.in-Group.is) (omega (arith, below, inside))
    c.in_ok-first-in-Group.ensures.longer c.in_ok-second-in-Group.ensures.longer c.in_ok-first-in-Group.ensures.closed
    c.in_ok-second-in-Group.ensures.closed adds)
    c.group.ensures.tree

pub close_parts-returns-in_ok-second-in-Interleave-clause-closed : goal.close_parts-returns-in_ok-second-in-Interleave-clause-closed
close_parts-returns-in_ok-second-in-Interleave-clause-closed t c =
    let old = c.args.table.now in
    let n1 = c.rest_of-in-Interleave.new.table in
    let n2 = c.rest_of-in-Interleave-2.new.table in
    let below = (parts_there c.args.table.now c.args.number.0 c.pattern.result.now _ c.pattern.ensures.table c.pattern.ensures.found c.in-Interleave.is).1 in
    let inside = c.requires.inside in
    if_ok c.interleave.result _ _ (λ n adds. both_closed joints.Interleave old n1 n2 c.interleave.new.self c.args.number c.in-Interleave.first
    c.in-Interleave.second
    c.in_ok-first-in-Interleave.first c.in_ok-second-in-Interleave.second n (λ t0. is_over t0 c.args.table.now c.args.number.0 c.pattern.result.now _
    c.pattern.ensures.table c.pattern.ensures.found c.in-Interleave.is) (omega (arith, below, inside))
    c.in_ok-first-in-Interleave.ensures.longer c.in_ok-second-in-Interleave.ensures.longer c.in_ok-first-in-Interleave.ensures.closed
    c.in_ok-second-in-Interleave.ensures.closed adds)
    c.interleave.ensures.tree

pub close_parts-returns-in_ok-body-in-OneOrMore-clause-closed : goal.close_parts-returns-in_ok-body-in-OneOrMore-clause-closed
close_parts-returns-in_ok-body-in-OneOrMore-clause-closed t c =
    if_ok c.one_or_more.result _ _ (λ n adds. copies_closed c.args.table.now c.rest_of-in-OneOrMore.new.table c.one_or_more.new.self c.args.number
    c.in-OneOrMore.body c.in_ok-body-in-OneOrMore.body n (λ t0. is_over t0 c.args.table.now c.args.number.0 c.pattern.result.now _ c.pattern.ensures.table
    c.pattern.ensures.found c.in-OneOrMore.is) c.in_ok-body-in-OneOrMore.ensures.closed adds)
    c.one_or_more.ensures.tree

pub close_parts-returns-in_default : goal.close_parts-returns-in_default
close_parts-returns-in_default t c =
    let old = c.args.table.now in
    let new = c.not_allowed.new.self in
    record {
      longer = if_ok c.not_allowed.result _ _ (λ n h. c.not_allowed.ensures.longer) c.not_allowed.ensures.tree;
      known = if_ok c.not_allowed.result _ _ (λ n h. rests_longer old new c.not_allowed.ensures.longer c.args.known.now c.requires.known)
          c.not_allowed.ensures.tree;
      closed = if_ok c.not_allowed.result _ _ (λ n adds. none_closed old new c.args.number n
          (λ t0. single_alone t0 old c.args.number.0 c.pattern.result.now c.pattern.result.now c.pattern.ensures.table c.pattern.ensures.found refl
          (other_single c.pattern.result.now c.in_default.not-Choice c.in_default.not-Group c.in_default.not-Interleave c.in_default.not-OneOrMore))
          c.requires.attribute adds) c.not_allowed.ensures.tree;
    }

pub rest_of-close_parts-requires : goal.rest_of-close_parts-requires
rest_of-close_parts-requires t c =
    let d = c.decreases in
    let there : (t0 : Table) → has_attribute (tree_of t0 c.args.table.now c.args.number.0) ≡ true = λ t0.
    sym (ap (λ (f : Facts). f.attributes) (c.facts.ensures.exact t0)) ∙ not-false _ c.if-not-facts.false in
    (omega (arith, d), (c.requires.inside, (c.requires.known, there)))

pub rest_of-returns-in-Some-clause-closed : goal.rest_of-returns-in-Some-clause-closed
rest_of-returns-in-Some-clause-closed t c =
    let has : HasRest c.args.known.now c.args.number c.in-Some.rest.now = search rules in
    (c.requires.known c.args.number c.in-Some.rest.now has).closed

pub rest_of-returns-clause-known : goal.rest_of-returns-clause-known
rest_of-returns-clause-known t c =
    rests_more c.args.table.now c.close_parts.new.table c.in_ok-rest.ensures.longer c.close_parts.new.known c.keep_rest.new.known c.args.number
    c.in_ok-rest.rest c.requires.inside c.in_ok-rest.ensures.known c.in_ok-rest.ensures.closed c.in_ok-keep_rest.ensures

pub close_parts-returns-in_ok-second-in-Group-clause-known : goal.close_parts-returns-in_ok-second-in-Group-clause-known
close_parts-returns-in_ok-second-in-Group-clause-known t c =
    if_ok c.group.result _ _ (λ n h. rests_longer c.rest_of-in-Group.new.table c.group.new.self c.group.ensures.longer c.rest_of-in-Group.new.known
    c.in_ok-second-in-Group.ensures.known) c.group.ensures.tree

pub close_parts-returns-in_ok-second-in-Interleave-clause-known : goal.close_parts-returns-in_ok-second-in-Interleave-clause-known
close_parts-returns-in_ok-second-in-Interleave-clause-known t c =
    if_ok c.interleave.result _ _ (λ n h. rests_longer c.rest_of-in-Interleave-2.new.table c.interleave.new.self c.interleave.ensures.longer
    c.rest_of-in-Interleave-2.new.known c.in_ok-second-in-Interleave.ensures.known) c.interleave.ensures.tree

pub close_parts-returns-in_ok-body-in-OneOrMore-clause-known : goal.close_parts-returns-in_ok-body-in-OneOrMore-clause-known
close_parts-returns-in_ok-body-in-OneOrMore-clause-known t c =
    if_ok c.one_or_more.result _ _ (λ n h. rests_longer c.rest_of-in-OneOrMore.new.table c.one_or_more.new.self c.one_or_more.ensures.longer
    c.rest_of-in-OneOrMore.new.known c.in_ok-body-in-OneOrMore.ensures.known) c.one_or_more.ensures.tree

pub close_choice-returns-clause-known : goal.close_choice-returns-clause-known
close_choice-returns-clause-known t c =
    if_ok c.choice.result _ _ (λ n h. rests_longer c.members.table c.choice.new.self c.choice.ensures.longer c.members.known c.members.invariant.known)
    c.choice.ensures.inside

pub close_choice-rest_of-requires : goal.close_choice-rest_of-requires
close_choice-rest_of-requires t c =
    let ms : List PatternNumber = c.deref-member-items.result.now in
    let i = c.members.member-index in
    let none : PatternNumber = record { 0 = 0 } in
    let e : ms ≡ c.in-Choice.members.items = c.deref-member-items.ensures.value ∙ c.in_ok-members.ensures ∙ c.as_slice.ensures.value in
    let below = (parts_there c.args.table.now c.args.number.0 c.pattern.result.now _ c.pattern.ensures.table c.pattern.ensures.found c.in-Choice.is).1 in
    let long = length-map ms (λ (m : PatternNumber). m.0) in
    let within = c.members-test.true in
    let one = subst (λ ms. All (λ m. m < c.args.number.0) (map (λ (m : PatternNumber). m.0) ms)) (sym e) below i 0 (omega (arith, long, within)) in
    let at = get_or-map (λ (m : PatternNumber). m.0) ms i none in
    let more = Longer-length c.args.table.now c.members.table c.members.invariant.longer in
    let d = c.decreases in
    let inside = c.requires.inside in
    (omega (arith, one, at, d), (omega (arith, one, at, inside, more), c.members.invariant.known))

pub close_choice-members-preserved : goal.close_choice-members-preserved
close_choice-members-preserved t c =
    let n0 = c.args.table.now in
    let before = c.members.table in
    let n1 = c.rest_of.new.table in
    let ms : List PatternNumber = c.deref-member-items.result.now in
    let i = c.members.member-index in
    let none : PatternNumber = record { 0 = 0 } in
    let e : ms ≡ c.in-Choice.members.items = c.deref-member-items.ensures.value ∙ c.in_ok-members.ensures ∙ c.as_slice.ensures.value in
    let below = (parts_there c.args.table.now c.args.number.0 c.pattern.result.now _ c.pattern.ensures.table c.pattern.ensures.found c.in-Choice.is).1 in
    let long = length-map ms (λ (m : PatternNumber). m.0) in
    let within = c.members-test.true in
    let one = subst (λ ms. All (λ m. m < c.args.number.0) (map (λ (m : PatternNumber). m.0) ms)) (sym e) below i 0 (omega (arith, long, within)) in
    let at = get_or-map (λ (m : PatternNumber). m.0) ms i none in
    let whole = c.requires.inside in
    let inside : (get_or ms i none).0 < length n0 = omega (arith, one, at, whole) in
    let closes : List PatternNumber = c.members.closed.items in
    let rest = c.in_ok-rest_of.field-0 in
    let added = sym c.in_ok-push.ensures.items in
    let inv = c.members.invariant in
    record {
      longer = Longer-trans n0 before n1 inv.longer c.in_ok-rest_of.ensures.longer;
      known = c.in_ok-rest_of.ensures.known;
      inside = subst (λ (xs : List PatternNumber). All (λ (m : PatternNumber). m.0 < length n1) xs) added
          (inside_more n0 before n1 ms i none closes rest within inside inv.longer c.in_ok-rest_of.ensures.longer c.in_ok-rest_of.ensures.closed
          inv.inside inv.takes inv.bare);
      takes = λ t0 g xs ns. subst (λ (rs : List PatternNumber). SomeTakes g (tree_of t0 n1) rs xs ns
          ↔ Takes g (choice_all (map (λ (m : PatternNumber). closed (tree_of t0 n0 m.0)) (take (i + 1) ms))) xs ns) added
          (takes_more n0 before n1 ms i none closes rest within inside inv.longer c.in_ok-rest_of.ensures.longer c.in_ok-rest_of.ensures.closed
          inv.inside inv.takes inv.bare t0 g xs ns);
      bare = λ t0 each. subst (λ (rs : List PatternNumber). All (λ (m : PatternNumber). IsBareOfAttributes (tree_of t0 n1 m.0)) rs) added
          (bare_more n0 before n1 ms i none closes rest within inside inv.longer c.in_ok-rest_of.ensures.longer c.in_ok-rest_of.ensures.closed
          inv.inside inv.takes inv.bare t0 each);
    }

pub close_choice-returns-clause-closed : goal.close_choice-returns-clause-closed
close_choice-returns-clause-closed t c =
    let old = c.args.table.now in
    let before = c.members.table in
    let new = c.choice.new.self in
    let ms : List PatternNumber = c.deref-member-items.result.now in
    let closes : List PatternNumber = c.members.closed.items in
    let slice : List PatternNumber = c.as_slice-2.result.now in
    let e : ms ≡ c.in-Choice.members.items = c.deref-member-items.ensures.value ∙ c.in_ok-members.ensures ∙ c.as_slice.ensures.value in
    let all = take_all c.members.member-index ms c.members-test.false in
    let inv = c.members.invariant in
    let takes = λ (t0 : Table) (g : Reading) (xs : List Attribute) (ns : List Item). subst
    (λ (ps : List PatternNumber). SomeTakes g (tree_of t0 before) slice xs ns
    ↔ Takes g (choice_all (map (λ (m : PatternNumber). closed (tree_of t0 old m.0)) ps)) xs ns) all
    (subst (λ (rs : List PatternNumber). SomeTakes g (tree_of t0 before) rs xs ns
    ↔ Takes g (choice_all (map (λ (m : PatternNumber). closed (tree_of t0 old m.0)) (take c.members.member-index ms))) xs ns)
    (sym c.as_slice-2.ensures.value) (inv.takes t0 g xs ns)) in
    let bare = λ (t0 : Table) (each : All (λ (m : PatternNumber). HasTexts MayBeListed (tree_of t0 old m.0)) ms).
    subst (λ (rs : List PatternNumber). All (λ (m : PatternNumber). IsBareOfAttributes (tree_of t0 before m.0)) rs)
    (sym c.as_slice-2.ensures.value) (inv.bare t0 each) in
    let is = λ (t0 : Table). is_over t0 old c.args.number.0 c.pattern.result.now _ c.pattern.ensures.table c.pattern.ensures.found c.in-Choice.is
    ∙ sym (ap (λ (ps : List PatternNumber). choice_over (tree_of t0 old) (map (λ (m : PatternNumber). m.0) ps)) e) in
    if_ok c.choice.result _ _ (λ n h. choice_closed old before new c.args.number n ms slice is h.0 takes bare h.1.0 h.1.1)
    (both_ok c.choice.result _ _ c.choice.ensures.inside (both_ok c.choice.result _ _ c.choice.ensures.alternatives c.choice.ensures.matches))
