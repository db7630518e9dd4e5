use Rattle.std.proofs.Common.{◌≡◌, ◌∙◌, ◌↔◌, ◌<◌, ◌+◌, ◌++◌, [], ◌∷◌, suc, All, Contains, List, Option, Some, true, false, take}
use Rattle.std.proofs.Common.{get_or, length, length-append, refl, sym, ap, subst, arith, rules}
use Rattle.std.specs.Prelude.{IfSome}
use Rattle.std.proofs.lemmas.Option.{slice_get-get_or, slice_get_within}
use Rattle.std.proofs.Math.Seq.{take-suc}
use Rattle.std.proofs.lemmas.Result.{IfOk-weaker as if_ok}
use Rattle.rng_names.proofs.Holding.{decides_holds}
use Rattle.rng_model.specs.simple.Table.{Table, tree_at}
use Rattle.rng_model.specs.datatypes.Texts.{pieces, is_blank}
use Rattle.rng_model.specs.names.NameViews.{class_of, name_of}
use Rattle.rng_names.specs.plain.Holding.{holds}
use Rattle.rng_model.specs.views.PiecesView.{pieces_left}
use Rattle.rng_model.specs.matching.Document.{a_text}
use Rattle.rng_deriv_laws.specs.plain.Restricted.{IsRestricted}
use Rattle.rng_deriv_laws.specs.plain.Taking.{WeaklyTakes}
use Rattle.rng_deriv_table.specs.plain.AskedFor.{as_part}
use Rattle.rng_deriv_table.specs.views.Taking.{tree_by}
use Rattle.rng_deriv_table.specs.views.Trees.{attribute_found, data_found, tree_of}
use Rattle.rng_deriv_table.specs.declared.pattern.PatternNumber.{PatternNumber}
use Rattle.rng_deriv_table.proofs.Trees.{Longer-length, Longer-refl, Longer-trans}
use Rattle.rng_deriv_texts.specs.plain.After.{AreRests, IsLeft, TellsTaken}
use Rattle.rng_deriv_texts.specs.plain.Settling.{AreLeft}
use Rattle.rng_deriv_texts.proofs.SettledRests.{rest_inside, told}
use Rattle.rng_deriv_ways.specs.plain.Kinds.{Obeys}
use Rattle.rng_model.specs.matching.GrammarMatching.{reading_of}
use Rattle.rng_deriv_ways.specs.plain.Ways.{AreInside}
use Rattle.rng_deriv_texts.specs.declared.first.First.TheVariants as firsts
use Rattle.rng_deriv_ways.specs.declared.way.Place.TheVariants as places
use Rattle.rng_deriv_ways.specs.declared.way.LeafWay as numbered
use Rattle.rng_deriv_texts.proofs.RestsOfWays.{leaf_covered, leaf_leaves, leaf_leaves_none, leaf_left_later, left_behind, rank}
use Rattle.rng_deriv_ways.proofs.ClosedTags.{both_ok}
use Rattle.rng_deriv_ways.proofs.KnownWays.{all_longer}
use Rattle.rng_deriv_ways.proofs.PatternNodes.{is_over, parts_there}
use Rattle.rng_deriv_texts.proofs.ListPieces.{either_blank, either_none, either_true, list_told, one_piece_more, value_told}
use Rattle.rng_deriv_ways.proofs.StartBodies.{ready_longer}
use Rattle.rng_deriv_texts.proofs.LeafKinds.{no_attribute_found, tells_of_attribute, tells_of_list, tells_of_no_attribute}
use Rattle.rng_deriv_texts.proofs.LeafKinds.{tells_of_no_leaf, tells_of_no_string, tells_of_other_name, tells_of_text}
use Rattle.rng_deriv_ways.specs.views.Plans.{IsOutcome, IsPlan}
use Rattle.rng_deriv_ways.proofs.KnownPlans.{plan_longer}
use Rattle.rng_deriv_ways.proofs.WayLists.{inside_longer}
use Rattle.rng_deriv_ways.proofs.WaysOfSides.{side_law}
use Rattle.rng_deriv_texts.proofs.NarrowedWays.{few_inside, rests_of_all}
use Rattle.rng_deriv_texts.specs.plain.Asking.{AreTests, IsAskedBy}
use Rattle.rng_deriv_texts.proofs.PlannedRests.{asked_inside, new_settled, new_plan_right, left_earlier, no_tests, number_asked, one_more_test, outcome_left}
use Rattle.rng_deriv_texts.proofs.PlannedRests.{plan_again, planned_ways, tests_later, ways_for_later}
use Rattle.rng_deriv_texts.proofs.after.+after.Goals as goal
use Rattle.rng_deriv_texts.proofs.after.+after.Goals.{rests-then-branch+in_ok-push, rests-else-branch}

pub after-after_leaf-requires : goal.after-after_leaf-requires
after-after_leaf-requires t c =
    let d = c.decreases in (
      omega (arith, d),
      (
        c.requires.inside,
        (c.requires.ready, (c.requires.known, c.is_leaf_for.ensures c.if-is_leaf_for.true c.args.context.now.grammar.now)),
      ),
    )

pub after_leaf-returns-in-Some-clause-known : goal.after_leaf-returns-in-Some-clause-known
after_leaf-returns-in-Some-clause-known t c =
    if_ok c.left_of_leaf.result _ _ (λ n h. all_longer c.args.context.now.grammar.now c.args.context.now.keys.now c.args.table.now c.left_of_leaf.new.table
    c.left_of_leaf.ensures.longer c.args.known.now c.requires.known) c.left_of_leaf.ensures.left

pub after_leaf-returns-in-Some-clause-left : goal.after_leaf-returns-in-Some-clause-left
after_leaf-returns-in-Some-clause-left t c =
    if_ok c.left_of_leaf.result _ _ (λ n h. h c.args.context.now.grammar.now c.args.first c.requires.leaf c.in-Some.ensures) c.left_of_leaf.ensures.left

pub after_leaf-returns-clause-known : goal.after_leaf-returns-clause-known
after_leaf-returns-clause-known t c =
    if_ok c.left_of_leaf-2.result _ _ (λ n h. all_longer c.args.context.now.grammar.now c.args.context.now.keys.now c.takes.new.table
    c.left_of_leaf-2.new.table c.left_of_leaf-2.ensures.longer c.takes.new.known c.in_ok-taken.ensures.known) c.left_of_leaf-2.ensures.left

pub after_leaf-returns-clause-left : goal.after_leaf-returns-clause-left
after_leaf-returns-clause-left t c =
    let t0 = c.args.context.now.grammar.now in
    if_ok c.left_of_leaf-2.result _ _ (λ n h. leaf_left_later t0 c.args.table.now c.takes.new.table c.left_of_leaf-2.new.table c.args.leaf n c.args.first
    c.in_ok-taken.taken c.in_ok-taken.ensures.longer c.requires.inside c.requires.leaf c.in_ok-taken.ensures.taken (h t0 c.args.first))
    c.left_of_leaf-2.ensures.left

pub attribute_takes-returns-in_default-row : goal.attribute_takes-returns-in_default-row
attribute_takes-returns-in_default-row t c =
    let t0 = c.args.context.now.grammar.now in
    let found = sym c.in-Some.ensures.value in record {
      longer = Longer-refl c.args.table.now;
      known = c.requires.known;
      taken = tells_of_no_attribute (reading_of t0) c.args.attr _ (ap (attribute_found t0) found
          ∙ no_attribute_found t0 c.in-Some.row.now c.in_default-row.not-Attribute);
    }

pub attribute_takes-returns-then-not-contains-clause-taken : goal.attribute_takes-returns-then-not-contains-clause-taken
attribute_takes-returns-then-not-contains-clause-taken t c =
    let t0 = c.args.context.now.grammar.now in
    let found = sym c.in-Some.ensures.value ∙ ap Some c.in-Attribute.is in
    tells_of_other_name (reading_of t0) c.args.attr _ (class_of c.in-Attribute.class.value) (tree_at t0.patterns c.in-Attribute.body)
    (ap (attribute_found t0) found)
    (sym (decides_holds c.contains.result (class_of c.deref.result.now) (name_of c.args.attr.now.name) c.contains.ensures
    ∙ ap (λ class. holds (class_of class) (name_of c.args.attr.now.name)) c.deref.ensures)
    ∙ c.if-not-contains.true)

pub attribute_takes-value_takes-requires : goal.attribute_takes-value_takes-requires
attribute_takes-value_takes-requires t c =
    let d = c.decreases in
    let found = sym c.in-Some.ensures.value in
    let within = slice_get_within c.args.context.now.grammar.now.patterns c.args.position.0 _ found in
    let below : c.in-Attribute.body.0 < c.args.position.0 = search rules in
    let long = c.requires.ready.long in
    (omega (arith, d), (omega (arith, within, below, long), (c.requires.ready, c.requires.known)))

pub attribute_takes-returns-clause-taken : goal.attribute_takes-returns-clause-taken
attribute_takes-returns-clause-taken t c =
    let t0 = c.args.context.now.grammar.now in
    let found = sym c.in-Some.ensures.value ∙ ap Some c.in-Attribute.is in
    if_ok c.value_takes.result _ _ (λ b h. tells_of_attribute (reading_of t0) c.args.attr _ (class_of c.in-Attribute.class.value)
    (tree_at t0.patterns c.in-Attribute.body) b (ap (attribute_found t0) found)
    (sym (decides_holds c.contains.result (class_of c.deref.result.now) (name_of c.args.attr.now.name) c.contains.ensures
    ∙ ap (λ class. holds (class_of class) (name_of c.args.attr.now.name)) c.deref.ensures)
    ∙ c.if-not-contains.false) (subst (λ s. IsRestricted (tree_at t0.patterns c.in-Attribute.body) → (b ≡ true)
    ↔ WeaklyTakes (reading_of t0) (tree_at t0.patterns c.in-Attribute.body) [] (a_text s ∷ [])) c.as_str.ensures.value
    (h (as_part c.args.position.0 _ found refl)))) c.value_takes.ensures.taken

pub list_takes-pieces-init : goal.list_takes-pieces-init
list_takes-pieces-init t c =
    let t0 = c.args.context.now.grammar.now in
    let old = c.args.table.now in
    let At : PatternNumber → Type 0 = λ n. n.0 < length old in
    let is = ap (λ (n : PatternNumber). tree_of t0 old n.0) c.number_at-rest.ensures in
    let all : pieces_left c.into_iter-piece-iterator.result ≡ pieces c.args.text.now = search rules in record {
      longer = Longer-refl old;
      known = c.requires.1.1.1.1;
      inside = subst At (sym c.number_at-rest.ensures) (c.requires.1.1.1.0.taken.inside c.args.body.0 c.requires.1.1.0);
      kept = λ o. subst (Obeys places.List) (sym is) o;
      takes = λ o. rw (is, all) (λ h. h, λ h. h);
    }

pub list_takes-after-requires : goal.list_takes-after-requires
list_takes-after-requires t c = (
  search rules,
  (
    c.pieces.invariant.inside,
    (
      ready_longer c.args.context.now.grammar.now c.args.table.now c.pieces.table c.args.context.now.numbers.now c.pieces.invariant.longer c.requires.1.1.1.0,
      c.pieces.invariant.known,
    ),
  ),
)

pub list_takes-pieces-preserved : goal.list_takes-pieces-preserved
list_takes-pieces-preserved t c =
    let t0 = c.args.context.now.grammar.now in
    let inv = c.pieces.invariant in record {
      longer = Longer-trans c.args.table.now c.pieces.table c.after.new.table inv.longer c.in_ok-rest.ensures.longer;
      known = c.in_ok-rest.ensures.known;
      inside = c.in_ok-rest.ensures.left.inside;
      kept = λ o. c.in_ok-rest.ensures.left.kept (inv.kept o);
      takes = λ o. one_piece_more t0 c.pieces.table c.after.new.table c.pieces.rest c.in_ok-rest.rest
          (tree_by t0 c.args.table.now c.args.context.now.numbers.now c.args.body) (pieces c.args.text.now) _ _ c.in-Some.piece c.in-Some.ensures.steps
          c.in_ok-rest.ensures.left (inv.kept o) (inv.takes o);
    }

pub list_takes-facts-requires : goal.list_takes-facts-requires
list_takes-facts-requires t c = c.pieces.invariant.inside

pub list_takes-returns-clause-longer : goal.list_takes-returns-clause-longer
list_takes-returns-clause-longer t c = c.pieces.invariant.longer

pub list_takes-returns-clause-taken : goal.list_takes-returns-clause-taken
list_takes-returns-clause-taken t c =
    let t0 = c.args.context.now.grammar.now in
    λ asked. list_told t0 c.args.table.now c.pieces.table c.args.context.now.numbers.now c.args.body c.pieces.rest (pieces c.args.text.now) _ _
    c.requires.1.1.1.0 c.requires.1.1.0 asked (search rules) c.pieces.invariant.takes (c.facts.ensures.nullable t0 (reading_of t0))

pub rests-takes-requires : goal.rests-takes-requires
rests-takes-requires t c =
    let d = c.decreases in
    let d0 : numbered.LeafWay = record { leaf = record { 0 = 0 }; rest = record { 0 = 0 } } in
    let there = (c.requires.inside c.ways.way-index d0 c.ways-test.true).0 in
    let long = Longer-length c.args.table.now c.ways.table c.ways.invariant.longer in (
      omega (arith, d),
      (
        omega (arith, there, long),
        (
          ready_longer c.args.context.now.grammar.now c.args.table.now c.ways.table c.args.context.now.numbers.now c.ways.invariant.longer c.requires.ready,
          c.ways.invariant.known,
        ),
      ),
    )

pub rests-ways-preserved-then-is_last : goal.rests-ways-preserved-then-is_last
rests-ways-preserved-then-is_last t c =
    let t0 = c.args.context.now.grammar.now in
    let old = c.args.table.now in
    let ws : List numbered.LeafWay = c.args.ways.now in
    let i = c.ways.way-index in
    let d : numbered.LeafWay = record { leaf = record { 0 = 0 }; rest = record { 0 = 0 } } in
    let inv = c.ways.invariant in
    let next : i + 1 ≡ suc i = omega arith in
    let cut : take (i + 1) ws ≡ take i ws ++ get_or ws i d ∷ [] = ap (λ k. take k ws) next ∙ take-suc ws i d c.ways-test.true in
    let has = subst (λ (rs : List PatternNumber). Contains rs (get_or ws i d).rest) c.as_slice.ensures (c.is_last.ensures c.if-is_last.true) in
    record {
      longer = inv.longer;
      known = inv.known;
      rests = subst (λ (vs : List numbered.LeafWay). AreRests t0 old c.ways.table c.args.first vs c.ways.rests.items) (sym cut)
          (leaf_covered t0 old c.ways.table c.ways.table c.args.first (take i ws) (get_or ws i d) c.ways.rests.items inv.longer
          (Longer-refl c.ways.table) (c.requires.inside i d c.ways-test.true) inv.rests (get_or ws i d).rest has refl);
    }

pub rests-ways-preserved : goal.rests-ways-preserved
rests-ways-preserved t c =
    let t0 = c.args.context.now.grammar.now in
    let old = c.args.table.now in
    let new = c.takes.new.table in
    let ws : List numbered.LeafWay = c.args.ways.now in
    let i = c.ways.way-index in
    let d : numbered.LeafWay = record { leaf = record { 0 = 0 }; rest = record { 0 = 0 } } in
    let inv = c.ways.invariant in
    let next : i + 1 ≡ suc i = omega arith in
    let cut : take (i + 1) ws ≡ take i ws ++ get_or ws i d ∷ [] = ap (λ k. take k ws) next ∙ take-suc ws i d c.ways-test.true in
    let inside = c.requires.inside i d c.ways-test.true in
    record {
      longer = Longer-trans old c.ways.table new inv.longer c.in_ok-takes.ensures.longer;
      known = c.in_ok-takes.ensures.known;
      rests = subst (λ (vs : List numbered.LeafWay). AreRests t0 old new c.args.first vs c.if-branch.rests.items) (sym cut) (elim c.if-branch.branch [
        | rests-then-branch+in_ok-push w ↦ leaf_leaves t0 old c.ways.table new c.args.first (take i ws) (get_or ws i d) c.ways.rests.items inv.longer
            c.in_ok-takes.ensures.longer inside inv.rests c.in_ok-takes.field-0 c.if-branch.rests.items
            w.if-branch.true (search rules) c.in_ok-takes.ensures.taken
        | rests-else-branch w ↦ subst (λ (rs : List PatternNumber). AreRests t0 old new c.args.first (take i ws ++ get_or ws i d ∷ []) rs) (search rules)
            (leaf_leaves_none t0 old c.ways.table new c.args.first (take i ws) (get_or ws i d) c.ways.rests.items inv.longer
            c.in_ok-takes.ensures.longer inside inv.rests c.in_ok-takes.field-0 w.if-branch.false c.in_ok-takes.ensures.taken)
      ]);
    }

pub takes-returns-in-Text-Text-clause-taken : goal.takes-returns-in-Text-Text-clause-taken
takes-returns-in-Text-Text-clause-taken t c =
    let t0 = c.args.context.now.grammar.now in
    let l = tree_of t0 c.args.table.now c.args.leaf.0 in
    subst (λ first. TellsTaken (reading_of t0) first l true) (sym c.in-Text-Text.is-0)
    (tells_of_text (reading_of t0) c.in-Text-Text.field-0-0 c.in-Text-Text.field-1-0 l
    (is_over t0 c.args.table.now c.args.leaf.0 c.pattern.result.now _ c.pattern.ensures.table c.pattern.ensures.found c.in-Text-Text.is-1))

pub takes-list_takes-requires : goal.takes-list_takes-requires
takes-list_takes-requires t c =
    let d = c.decreases in
    let is : rank c.args.first ≡ 10 = ap rank c.in-Text-Data.is-0 ∙ ap (λ p. rank (firsts.Text p c.in-Text-Data.text)) c.in-Some.ensures.content in
    let inside = c.in-Some.ensures.inside in
    let long = c.requires.ready.long in
    (omega (arith, d, is), (omega (arith, inside, long), (c.requires.ready, c.requires.known)))

pub takes-returns-in-Some-clause-taken : goal.takes-returns-in-Some-clause-taken
takes-returns-in-Some-clause-taken t c =
    let t0 = c.args.context.now.grammar.now in
    let l = tree_of t0 c.args.table.now c.args.leaf.0 in
    let is = is_over t0 c.args.table.now c.args.leaf.0 c.pattern.result.now _ c.pattern.ensures.table c.pattern.ensures.found c.in-Text-Data.is-1 in
    if_ok c.list_takes.result _ _ (λ b h. subst (λ first. TellsTaken (reading_of t0) first l b) (sym c.in-Text-Data.is-0)
    (tells_of_list (reading_of t0) c.in-Text-Data.place c.in-Text-Data.text l (tree_at t0.patterns c.in-Some.body) b c.in-Some.ensures.content
    (is ∙ ap (data_found t0) c.in-Some.ensures.found) (h (as_part _ _ c.in-Some.ensures.found refl)))) c.list_takes.ensures.taken

pub takes-returns-in-None-clause-taken : goal.takes-returns-in-None-clause-taken
takes-returns-in-None-clause-taken t c =
    let t0 = c.args.context.now.grammar.now in
    let l = tree_of t0 c.args.table.now c.args.leaf.0 in
    let is = is_over t0 c.args.table.now c.args.leaf.0 c.pattern.result.now _ c.pattern.ensures.table c.pattern.ensures.found c.in-Text-Data.is-1 in
    if_ok c.data_takes.result _ _ (λ b h. subst (λ first. TellsTaken (reading_of t0) first l b) (sym c.in-Text-Data.is-0)
    (subst (λ p. TellsTaken (reading_of t0) (firsts.Text c.in-Text-Data.place c.in-Text-Data.text) p b) (sym is)
    (h c.in-Text-Data.place c.in-None.ensures.none))) c.data_takes.ensures

pub takes-returns-in-Attribute-Attribute-clause-taken : goal.takes-returns-in-Attribute-Attribute-clause-taken
takes-returns-in-Attribute-Attribute-clause-taken t c =
    let t0 = c.args.context.now.grammar.now in
    let l = tree_of t0 c.args.table.now c.args.leaf.0 in
    let is = is_over t0 c.args.table.now c.args.leaf.0 c.pattern.result.now _ c.pattern.ensures.table c.pattern.ensures.found
    c.in-Attribute-Attribute.is-1 in
    if_ok c.attribute_takes.result _ _ (λ b h. subst (λ first. TellsTaken (reading_of t0) first l b) (sym c.in-Attribute-Attribute.is-0)
    (subst (λ p. TellsTaken (reading_of t0) (firsts.Attribute c.in-Attribute-Attribute.attr) p b) (sym is) h)) c.attribute_takes.ensures.taken

pub takes-returns-in_default : goal.takes-returns-in_default
takes-returns-in_default t c =
    let t0 = c.args.context.now.grammar.now in
    let ns = c.args.table.now in
    let l = tree_of t0 ns c.args.leaf.0 in
    let p = c.pattern.result.now in record {
      longer = Longer-refl ns;
      known = c.requires.known;
      taken = subst (λ first. TellsTaken (reading_of t0) first l false) (sym c.in_default.is-0)
          (tells_of_no_string (reading_of t0) t0 (tree_of t0 ns) c.args.leaf.0 c.in_default.field-0-0 c.in_default.field-1-0 l p
          (is_over t0 ns c.args.leaf.0 p p c.pattern.ensures.table c.pattern.ensures.found refl)
          (parts_there ns c.args.leaf.0 p p c.pattern.ensures.table c.pattern.ensures.found refl) c.in_default.not-Text-1 c.in_default.not-Data-1);
    }

pub takes-returns-in_default-2 : goal.takes-returns-in_default-2
takes-returns-in_default-2 t c =
    let t0 = c.args.context.now.grammar.now in
    let ns = c.args.table.now in
    let l = tree_of t0 ns c.args.leaf.0 in
    let p = c.pattern.result.now in record {
      longer = Longer-refl ns;
      known = c.requires.known;
      taken = subst (λ first. TellsTaken (reading_of t0) first l false) (sym c.in_default.is-0)
          (tells_of_no_leaf (reading_of t0) t0 (tree_of t0 ns) c.args.leaf.0 c.in_default.field-0-0 l p
          (is_over t0 ns c.args.leaf.0 p p c.pattern.ensures.table c.pattern.ensures.found refl)
          (parts_there ns c.args.leaf.0 p p c.pattern.ensures.table c.pattern.ensures.found refl) c.in_default.not-Attribute-1);
    }

pub value_takes-returns-then-facts-clause-taken : goal.value_takes-returns-then-facts-clause-taken
value_takes-returns-then-facts-clause-taken t c =
    let t0 = c.args.context.now.grammar.now in
    λ asked. value_told t0 c.args.table.now c.after.new.table c.args.context.now.numbers.now c.args.body c.number_at-body.result c.in_ok-rest.rest c.args.value
    c.facts.result.nullable c.facts-empty.result.nullable (is_blank c.args.value.now) _ c.requires.1.1.1.0 c.requires.1.1.0 asked c.number_at-body.ensures
    c.in_ok-rest.ensures.left (c.facts.ensures.nullable t0 (reading_of t0)) (c.facts-empty.ensures.nullable t0 (reading_of t0)) refl
    (either_true _ _ c.if-facts.true)

pub value_takes-returns-then-empty-clause-taken : goal.value_takes-returns-then-empty-clause-taken
value_takes-returns-then-empty-clause-taken t c =
    let t0 = c.args.context.now.grammar.now in
    λ asked. value_told t0 c.args.table.now c.after.new.table c.args.context.now.numbers.now c.args.body c.number_at-body.result c.in_ok-rest.rest c.args.value
    c.facts.result.nullable c.facts-empty.result.nullable c.is_blank.result _ c.requires.1.1.1.0 c.requires.1.1.0 asked c.number_at-body.ensures
    c.in_ok-rest.ensures.left (c.facts.ensures.nullable t0 (reading_of t0)) (c.facts-empty.ensures.nullable t0 (reading_of t0)) c.is_blank.ensures
    (either_blank _ _ _ c.if-facts.false c.if-empty.true)

pub value_takes-returns-else-empty-clause-taken : goal.value_takes-returns-else-empty-clause-taken
value_takes-returns-else-empty-clause-taken t c =
    let t0 = c.args.context.now.grammar.now in
    λ asked. value_told t0 c.args.table.now c.after.new.table c.args.context.now.numbers.now c.args.body c.number_at-body.result c.in_ok-rest.rest c.args.value
    c.facts.result.nullable c.facts-empty.result.nullable (is_blank c.args.value.now) _ c.requires.1.1.1.0 c.requires.1.1.0 asked c.number_at-body.ensures
    c.in_ok-rest.ensures.left (c.facts.ensures.nullable t0 (reading_of t0)) (c.facts-empty.ensures.nullable t0 (reading_of t0)) refl
    (either_none _ _ _ c.if-facts.false c.if-empty.false)

pub list_takes-returns-clause-known : goal.list_takes-returns-clause-known
list_takes-returns-clause-known t c = c.pieces.invariant.known

pub rests-returns-clause-known : goal.rests-returns-clause-known
rests-returns-clause-known t c = c.ways.invariant.known

-- ---- by plans

pub after_taken_plan-after_plan-requires : goal.after_taken_plan-after_plan-requires
after_taken_plan-after_plan-requires t c =
    let t0 = c.args.context.now.grammar.now in
    let keys = c.args.context.now.keys.now in
    let d = c.decreases in
    let asks = c.requires.asked in (
      omega (arith, d),
      (
        (planned_ways t0 keys c.args.table.now asks.0 c.args.first c.args.taken.asked c.args.taken.plan asks.1 c.requires.plan).inside,
        (c.requires.plan.right, (c.requires.ready, c.requires.known)),
      ),
    )

pub after_taken_plan-returns : goal.after_taken_plan-returns
after_taken_plan-returns t c =
    let t0 = c.args.context.now.grammar.now in
    let keys = c.args.context.now.keys.now in
    let n1 = c.args.table.now in
    let n2 = c.after_plan.new.table in
    let a = c.args.taken.asked in
    let own = c.requires.plan in
    let told = c.in_ok-rest.ensures in
    let there : (n : PatternNumber) → IsAskedBy keys c.args.first n a → n.0 < length n1 =
    λ n asks. subst (λ m. m < length n1) (number_asked t0 keys n1 n c.args.first a asks) own.inside in
    let left : (n : PatternNumber) → IsAskedBy keys c.args.first n a → IsLeft t0 n1 n2 c.args.first n c.in_ok-rest.rest =
    λ n asks. told.left n (there n asks) (planned_ways t0 keys n1 n c.args.first a c.args.taken.plan asks own) in
    record {
      longer = told.longer;
      known = c.in_ok-keep_plan.ensures t0 keys n2 told.known
          (plan_again t0 keys n1 n2 told.longer a c.args.taken.plan c.after_plan.new.plan own told.ways told.plan);
      left = left;
    }

-- ---- by known ways, by a known plan, or by new ways

pub after_ways-told_by-requires : goal.after_ways-told_by-requires
after_ways-told_by-requires t c =
    let t0 = c.args.context.now.grammar.now in
    record { inside = rest_inside t0 c.args.table.now c.args.first (tree_of t0 c.args.table.now c.args.number.0) c.settled-rest.result c.settled-rest.ensures }

pub after_ways-returns-in-Some-clause-left : goal.after_ways-returns-in-Some-clause-left
after_ways-returns-in-Some-clause-left t c =
    let t0 = c.args.context.now.grammar.now in
    let old = c.args.table.now in
    told t0 old c.told_by.new.table c.args.first c.args.number c.settled-rest.result c.in_ok-rest.field-0 c.in-Some.rest c.in-Some.is
    c.in_ok-rest.ensures.left c.settled-rest.ensures

pub after_ways-returns-in-Some-clause-known : goal.after_ways-returns-in-Some-clause-known
after_ways-returns-in-Some-clause-known t c =
    all_longer c.args.context.now.grammar.now c.args.context.now.keys.now c.args.table.now c.told_by.new.table c.in_ok-rest.ensures.longer
    c.args.known.now c.requires.known

pub after_ways-after_taken_plan-requires : goal.after_ways-after_taken_plan-requires
after_ways-after_taken_plan-requires t c =
    let t0 = c.args.context.now.grammar.now in
    let keys = c.args.context.now.keys.now in
    let old = c.args.table.now in
    let new = c.told_by.new.table in
    let longer = c.in_ok-rest.ensures.longer in
    let known = all_longer t0 keys old new longer c.args.known.now c.requires.known in
    let d = c.decreases in (
      omega (arith, d),
      (
        c.in-Some-take_plan.ensures.plan t0 keys new known,
        ((c.args.number, c.asked-asked.ensures), (ready_longer t0 old new c.args.context.now.numbers.now longer c.requires.ready, c.take_plan.ensures.known t0 keys new known)),
      ),
    )

pub after_ways-returns-in-Some-take_plan-clause-left : goal.after_ways-returns-in-Some-take_plan-clause-left
after_ways-returns-in-Some-take_plan-clause-left t c =
    let t0 = c.args.context.now.grammar.now in
    if_ok c.after_taken_plan.result _ _ (λ rest left. left_earlier t0 c.args.table.now c.told_by.new.table c.after_taken_plan.new.table c.args.first
    c.args.number rest c.in_ok-rest.ensures.longer c.requires.inside (left c.args.number c.asked-asked.ensures)) c.after_taken_plan.ensures.left

pub after_ways-after_new_ways-requires : goal.after_ways-after_new_ways-requires
after_ways-after_new_ways-requires t c =
    let t0 = c.args.context.now.grammar.now in
    let keys = c.args.context.now.keys.now in
    let old = c.args.table.now in
    let new = c.told_by.new.table in
    let longer = c.in_ok-rest.ensures.longer in
    let known = all_longer t0 keys old new longer c.args.known.now c.requires.known in
    let inside = c.requires.inside in
    let long = Longer-length old new longer in
    let d = c.decreases in (
      omega (arith, d),
      (
        omega (arith, inside, long),
        (ready_longer t0 old new c.args.context.now.numbers.now longer c.requires.ready, c.take_plan.ensures.known t0 keys new known),
      ),
    )

pub after_ways-returns-clause-left : goal.after_ways-returns-clause-left
after_ways-returns-clause-left t c =
    let t0 = c.args.context.now.grammar.now in
    if_ok c.after_new_ways.result _ _ (λ rest left. left_earlier t0 c.args.table.now c.told_by.new.table c.after_new_ways.new.table c.args.first
    c.args.number rest c.in_ok-rest.ensures.longer c.requires.inside left) c.after_new_ways.ensures.left

pub after_new_ways-left_by_few-rest-requires-clause-ready : goal.after_new_ways-left_by_few-rest-requires-clause-ready
after_new_ways-left_by_few-rest-requires-clause-ready t c =
    ready_longer c.args.context.now.grammar.now c.args.table.now c.ways_for.new.table c.args.context.now.numbers.now c.in_ok-ways.ensures.longer
    c.requires.ready

pub after_new_ways-returns-in-Some-clause-known : goal.after_new_ways-returns-in-Some-clause-known
after_new_ways-returns-in-Some-clause-known t c =
    all_longer c.args.context.now.grammar.now c.args.context.now.keys.now c.ways_for.new.table c.told_by.new.table c.in_ok-rest.ensures.longer
    c.ways_for.new.known c.in_ok-ways.ensures.known

pub after_new_ways-left_by_few-rest-requires-clause-inside : goal.after_new_ways-left_by_few-rest-requires-clause-inside
after_new_ways-left_by_few-rest-requires-clause-inside t c =
    subst (AreInside c.ways_for.new.table) (sym c.as_slice.ensures) (asked_inside c.args.context.now.grammar.now c.args.context.now.keys.now
    c.args.table.now c.ways_for.new.table c.in_ok-ways.ensures.longer c.args.first c.args.number c.requires.inside c.in_ok-ways.ways.items c.in_ok-ways.ensures.ways)

pub after_new_ways-told_by-requires : goal.after_new_ways-told_by-requires
after_new_ways-told_by-requires t c =
    let t0 = c.args.context.now.grammar.now in
    let new = c.ways_for.new.table in
    let rest = c.left_by_few-rest in
    record {
      inside = rest_inside t0 new c.args.first (tree_of t0 new c.args.number.0) rest.result
          (new_settled t0 c.args.context.now.keys.now c.args.table.now new c.in_ok-ways.ensures.longer c.args.first c.args.number c.requires.inside
          c.in_ok-ways.ways.items c.in_ok-ways.ensures.ways rest.result
          (subst (λ ws. AreLeft t0 new c.args.first ws rest.result) c.as_slice.ensures rest.ensures));
    }

pub after_new_ways-returns-in-Some-clause-left : goal.after_new_ways-returns-in-Some-clause-left
after_new_ways-returns-in-Some-clause-left t c =
    let t0 = c.args.context.now.grammar.now in
    let new = c.ways_for.new.table in
    let rest = c.left_by_few-rest in
    left_earlier t0 c.args.table.now new c.told_by.new.table c.args.first c.args.number c.in-Some.rest c.in_ok-ways.ensures.longer c.requires.inside
    (told t0 new c.told_by.new.table c.args.first c.args.number rest.result c.in_ok-rest.field-0 c.in-Some.rest c.in-Some.is c.in_ok-rest.ensures.left
    (new_settled t0 c.args.context.now.keys.now c.args.table.now new c.in_ok-ways.ensures.longer c.args.first c.args.number c.requires.inside
    c.in_ok-ways.ways.items c.in_ok-ways.ensures.ways rest.result (subst (λ ws. AreLeft t0 new c.args.first ws rest.result) c.as_slice.ensures rest.ensures)))

pub after_new_ways-plan_of-requires : goal.after_new_ways-plan_of-requires
after_new_ways-plan_of-requires t c =
    let t0 = c.args.context.now.grammar.now in
    let keys = c.args.context.now.keys.now in
    let n1 = c.ways_for.new.table in
    let n2 = c.told_by.new.table in record {
      inside = inside_longer n1 n2 c.in_ok-ways.ways.items c.in_ok-rest.ensures.longer (asked_inside t0 keys c.args.table.now n1 c.in_ok-ways.ensures.longer
          c.args.first c.args.number c.requires.inside c.in_ok-ways.ways.items c.in_ok-ways.ensures.ways);
      datatypes = c.in_ok-ways.ensures.known.datatypes;
    }

pub after_new_ways-after_taken_plan-requires : goal.after_new_ways-after_taken_plan-requires
after_new_ways-after_taken_plan-requires t c =
    let t0 = c.args.context.now.grammar.now in
    let keys = c.args.context.now.keys.now in
    let old = c.args.table.now in
    let n1 = c.ways_for.new.table in
    let n2 = c.told_by.new.table in
    let longer = c.in_ok-ways.ensures.longer in
    let longer' = c.in_ok-rest.ensures.longer in
    let ready = ready_longer t0 old n2 c.args.context.now.numbers.now (Longer-trans old n1 n2 longer longer') c.requires.ready in
    let known = all_longer t0 keys n1 n2 longer' c.ways_for.new.known c.in_ok-ways.ensures.known in
    let ws = c.in_ok-ways.ways.items in
    let d = c.decreases in (
      omega (arith, d),
      (
        new_plan_right t0 keys old n2 (Longer-trans old n1 n2 longer longer') c.args.first c.args.number c.requires.inside ws
            (λ a asks kind k. side_law t0 n1 n2 kind (tree_of t0 old c.args.number.0) ws longer' (c.in_ok-ways.ensures.ways a asks kind k))
            c.in_ok-plan.plan c.in_ok-plan.ensures.ways c.in_ok-plan.ensures.plan c.asked-asked.result c.asked-asked.ensures,
        ((c.args.number, c.asked-asked.ensures), (ready, known)),
      ),
    )

pub after_new_ways-returns-clause-left : goal.after_new_ways-returns-clause-left
after_new_ways-returns-clause-left t c =
    let t0 = c.args.context.now.grammar.now in
    let old = c.args.table.now in
    let longer = Longer-trans old c.ways_for.new.table c.told_by.new.table c.in_ok-ways.ensures.longer c.in_ok-rest.ensures.longer in
    if_ok c.after_taken_plan.result _ _ (λ rest left. left_earlier t0 old c.told_by.new.table c.after_taken_plan.new.table c.args.first
    c.args.number rest longer c.requires.inside (left c.args.number c.asked-asked.ensures)) c.after_taken_plan.ensures.left

pub after_plan-tests-requires : goal.after_plan-tests-requires
after_plan-tests-requires t c =
    let d = c.decreases in (
      omega (arith, d),
      (
        subst (All (λ (m : PatternNumber). m.0 < length c.args.table.now)) (sym c.as_slice.ensures) c.requires.plan.leaves,
        (c.requires.ready, c.requires.known),
      ),
    )

pub after_plan-rest_by-requires : goal.after_plan-rest_by-requires
after_plan-rest_by-requires t c =
    inside_longer c.args.table.now c.tests.new.table c.args.plan.now.ways.items c.in_ok-taken.ensures.longer c.requires.inside

pub after_plan-returns-in-Some : goal.after_plan-returns-in-Some
after_plan-returns-in-Some t c =
    let t0 = c.args.context.now.grammar.now in
    let keys = c.args.context.now.keys.now in
    let old = c.args.table.now in
    let n1 = c.tests.new.table in
    let n2 = c.rest_by.new.table in
    let plan = c.args.plan.now in
    let tested = c.in_ok-taken.ensures in
    let told = c.in_ok-rest.ensures in
    let longer = Longer-trans old n1 n2 tested.longer told.longer in
    let right = plan_longer t0 old n1 tested.longer plan c.requires.plan in
    let outcome = subst (λ (o : Option PatternNumber). IfSome o (λ rest. (t : Table) → IsPlan t n1 plan
    → IsOutcome t n2 plan.ways.items plan.leaves.items c.in_ok-taken.taken.items rest)) c.in-Some.is told.rest in
    let tests = tests_later t0 old n2 c.args.first plan.leaves.items longer c.requires.plan.leaves c.in_ok-taken.taken.items
    (subst (λ (ls : List PatternNumber). AreTests t0 old c.args.first ls c.in_ok-taken.taken.items) c.as_slice.ensures tested.tests) in
    record {
      longer = longer;
      known = all_longer t0 keys n1 n2 told.longer c.tests.new.known tested.known;
      ways = told.ways;
      plan = told.plan t0 right;
      left = λ n inside all. outcome_left t0 old n2 c.args.first plan.leaves.items c.in_ok-taken.taken.items n c.in-Some.rest plan.ways.items tests
          (ways_for_later t0 old n2 c.args.first (tree_of t0 old n.0) plan.ways.items longer all) (outcome t0 right);
    }

pub after_plan-rests-requires : goal.after_plan-rests-requires
after_plan-rests-requires t c =
    let t0 = c.args.context.now.grammar.now in
    let keys = c.args.context.now.keys.now in
    let old = c.args.table.now in
    let n1 = c.tests.new.table in
    let n2 = c.rest_by.new.table in
    let tested = c.in_ok-taken.ensures in
    let told = c.in_ok-rest.ensures in
    let longer = Longer-trans old n1 n2 tested.longer told.longer in
    let d = c.decreases in (
      omega (arith, d),
      (
        subst (AreInside n2) (sym c.as_slice-2.ensures)
            (few_inside t0 n2 n2 c.args.first c.rest_by.new.plan.ways.items c.in_ok-ways.ways.items
            (c.in_ok-ways.ensures t0 n2 (told.plan t0 (plan_longer t0 old n1 tested.longer c.args.plan.now c.requires.plan))) n2
            (subst (λ v. AreInside n2 v.items) (sym told.ways) (inside_longer old n2 c.args.plan.now.ways.items longer c.requires.inside))),
        (
          ready_longer t0 old n2 c.args.context.now.numbers.now longer c.requires.ready,
          all_longer t0 keys n1 n2 told.longer c.tests.new.known tested.known,
        ),
      ),
    )

pub after_plan-returns-clause-known : goal.after_plan-returns-clause-known
after_plan-returns-clause-known t c =
    if_ok c.choice.result _ _ (λ n h. all_longer c.args.context.now.grammar.now c.args.context.now.keys.now c.rests.new.table c.choice.new.self
    c.choice.ensures.longer c.rests.new.known c.in_ok-rests.ensures.known) c.choice.ensures.inside

pub after_plan-returns-clause-plan : goal.after_plan-returns-clause-plan
after_plan-returns-clause-plan t c =
    let t0 = c.args.context.now.grammar.now in
    let old = c.args.table.now in
    let n1 = c.tests.new.table in
    let n2 = c.rest_by.new.table in
    let longer = Longer-trans n2 c.rests.new.table c.choice.new.self c.in_ok-rests.ensures.longer c.choice.ensures.longer in
    let right = c.in_ok-rest.ensures.plan t0 (plan_longer t0 old n1 c.in_ok-taken.ensures.longer c.args.plan.now c.requires.plan) in
    if_ok c.choice.result _ _ (λ n h. plan_longer t0 n2 c.choice.new.self longer c.rest_by.new.plan right) c.choice.ensures.inside

pub after_plan-returns-clause-left : goal.after_plan-returns-clause-left
after_plan-returns-clause-left t c =
    let t0 = c.args.context.now.grammar.now in
    let old = c.args.table.now in
    let n2 = c.rest_by.new.table in
    let n3 = c.rests.new.table in
    let told = c.in_ok-rest.ensures in
    let longer = Longer-trans old c.tests.new.table n2 c.in_ok-taken.ensures.longer told.longer in
    let slice : List PatternNumber = c.as_slice-3.result.now in
    let ws : List numbered.LeafWay = c.args.plan.now.ways.items in
    let few : List numbered.LeafWay = c.in_ok-ways.ways.items in
    let middle : List numbered.LeafWay = c.rest_by.new.plan.ways.items in
    let right = told.plan t0 (plan_longer t0 old c.tests.new.table c.in_ok-taken.ensures.longer c.args.plan.now c.requires.plan) in
    let all = rests_of_all t0 n2 n3 c.args.first middle few (c.in_ok-ways.ensures t0 n2 right) c.in_ok-rests.rests.items
    (subst (λ (ws : List numbered.LeafWay). AreRests t0 n2 n3 c.args.first ws c.in_ok-rests.rests.items) c.as_slice-2.ensures c.in_ok-rests.ensures.rests) in
    let some = subst (λ (rs : List PatternNumber). AreRests t0 n2 n3 c.args.first ws rs) (sym c.as_slice-3.ensures)
    (subst (λ (ws : List numbered.LeafWay). AreRests t0 n2 n3 c.args.first ws c.in_ok-rests.rests.items) (ap (λ v. v.items) told.ways) all) in
    if_ok c.choice.result _ _ (λ n h. λ number inside all. left_behind t0 old n2 n3 c.choice.new.self c.args.first number n ws slice
    (ways_for_later t0 old n2 c.args.first (tree_of t0 old number.0) ws longer all) some h.0 (h.1.0 t0) (h.1.1 t0 (reading_of t0)))
    (both_ok c.choice.result _ _ c.choice.ensures.inside (both_ok c.choice.result _ _ c.choice.ensures.alternatives c.choice.ensures.matches))

pub tests-leaves-init : goal.tests-leaves-init
tests-leaves-init t c = record {
  longer = Longer-refl c.args.table.now;
  known = c.requires.known;
  count = ap length c.new-taken.ensures.items;
  tests = no_tests c.args.context.now.grammar.now c.args.table.now c.args.first c.args.leaves.now c.new-taken.result.items c.new-taken.ensures.items;
}

pub tests-takes-requires : goal.tests-takes-requires
tests-takes-requires t c =
    let d = c.decreases in
    let d0 : PatternNumber = record { 0 = 0 } in
    let there = c.requires.inside c.leaves.leaf-index d0 c.leaves-test.true in
    let long = Longer-length c.args.table.now c.leaves.table c.leaves.invariant.longer in (
      omega (arith, d),
      (
        omega (arith, there, long),
        (
          ready_longer c.args.context.now.grammar.now c.args.table.now c.leaves.table c.args.context.now.numbers.now c.leaves.invariant.longer c.requires.ready,
          c.leaves.invariant.known,
        ),
      ),
    )

pub tests-leaves-preserved : goal.tests-leaves-preserved
tests-leaves-preserved t c =
    let t0 = c.args.context.now.grammar.now in
    let old = c.args.table.now in
    let inv = c.leaves.invariant in
    let d : PatternNumber = record { 0 = 0 } in
    let i = c.leaves.leaf-index in
    let ls : List PatternNumber = c.args.leaves.now in
    let b = c.in_ok-takes.field-0 in
    let cut : c.push.new.self.items ≡ c.leaves.taken.items ++ b ∷ [] = search rules in
    let long = ap length cut ∙ length-append c.leaves.taken.items (b ∷ []) in
    let count = inv.count in
    record {
      longer = Longer-trans old c.leaves.table c.takes.new.table inv.longer c.in_ok-takes.ensures.longer;
      known = c.in_ok-takes.ensures.known;
      count = omega (arith, long, count);
      tests = subst (AreTests t0 old c.args.first ls) (sym cut) (one_more_test t0 old c.leaves.table c.args.first ls inv.longer c.requires.inside
          c.leaves.taken.items (get_or ls i d) i b count (slice_get-get_or ls i d c.leaves-test.true) inv.tests c.in_ok-takes.ensures.taken);
    }
