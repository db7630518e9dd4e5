use Rattle.std.proofs.Common.{◌≡◌, ◌↔◌, ◌<◌, sym, ◌∙◌, ap, subst, ℕ, length, Contains, All, slice_get, Some, vec_items}
use Rattle.std.proofs.lemmas.List.{length-map}
use Rattle.std.proofs.lemmas.List.Elements.{All-contains}
use Rattle.rng_rules.specs.plain.NamesMeetReach.{AreBelow, lists}
use Rattle.rng_rules.specs.views.NamesMeetSides.{Climbs}
use Rattle.rng_rules.proofs.NamesMeetBetween.{above_in_table, found_between, told}
use Rattle.rng_rules.proofs.names_meet_sides.Rows.meet.Goals as goal

pub reach-requires-clause-next : goal.reach-requires-clause-next
reach-requires-clause-next c =
    let all = lists c.args.self.now.above.items in
    subst (λ xs. AreBelow (length xs) (lists xs)) (sym c.as_slice.ensures.value)
    (subst (λ n. AreBelow n all) (length-map c.args.self.now.above.items vec_items) (above_in_table c.args.self.now.grammar.now.patterns all c.requires.rows.is_above))

pub reach-requires-2-clause-next : goal.reach-requires-2-clause-next
reach-requires-2-clause-next c =
    let all = lists c.args.self.now.above.items in
    subst (λ xs. AreBelow (length xs) (lists xs)) (sym c.as_slice-2.ensures.value)
    (subst (λ n. AreBelow n all) (length-map c.args.self.now.above.items vec_items) (above_in_table c.args.self.now.grammar.now.patterns all c.requires.rows.is_above))

pub returns-clause-only : goal.returns-clause-only
returns-clause-only c = λ yes.
    let rows = c.args.self.now in
    let above = lists rows.above.items in
    let round = c.args.round in
    let long : length c.as_slice.result.now ≡ length rows.standing.items =
    ap length c.as_slice.ensures.value ∙ sym (length-map rows.above.items vec_items) ∙ c.requires.rows.is_above.long ∙ sym c.requires.rows.long in
    let long-2 : length c.as_slice-2.result.now ≡ length rows.standing.items =
    ap length c.as_slice-2.ensures.value ∙ sym (length-map rows.above.items vec_items) ∙ c.requires.rows.is_above.long ∙ sym c.requires.rows.long in
    let one = subst (λ xs. (k : ℕ) → Climbs (lists xs) c.args.first.now k ↔ (slice_get c.reach.new.marks.items k ≡ Some round)) c.as_slice.ensures.value c.in_ok-reached.ensures.marked in
    let two = subst (λ xs. (k : ℕ) → Climbs (lists xs) c.args.second.now k ↔ (slice_get c.reach-2.new.marks.items k ≡ Some round)) c.as_slice-2.ensures.value c.in_ok-reach.ensures.marked in
    let found = c.is_one_met.ensures.found yes in
    let reached : c.as_slice-3.result.now ≡ c.in_ok-reached.reached.items = c.as_slice-3.ensures.value in
    let inside : found.0 < length rows.standing.items =
    All-contains (λ k. k < length rows.standing.items) c.in_ok-reached.reached.items found.0
    (subst (λ n. All (λ k. k < n) c.in_ok-reached.reached.items) long c.in_ok-reached.ensures.below) (subst (λ xs. Contains xs found.0) reached found.1) in
    found_between rows.of rows.grammar.now above rows.standing.items c.requires.rows c.args.first.now c.args.second.now c.reach.new.marks.items
    c.reach-2.new.marks.items round (c.in_ok-reached.ensures.long ∙ long) (c.in_ok-reach.ensures.long ∙ long-2) one two found.0 inside found.2

pub returns-clause-all : goal.returns-clause-all
returns-clause-all c = λ m.
    let rows = c.args.self.now in
    let above = lists rows.above.items in
    let round = c.args.round in
    let long : length c.as_slice.result.now ≡ length rows.standing.items =
    ap length c.as_slice.ensures.value ∙ sym (length-map rows.above.items vec_items) ∙ c.requires.rows.is_above.long ∙ sym c.requires.rows.long in
    let long-2 : length c.as_slice-2.result.now ≡ length rows.standing.items =
    ap length c.as_slice-2.ensures.value ∙ sym (length-map rows.above.items vec_items) ∙ c.requires.rows.is_above.long ∙ sym c.requires.rows.long in
    let one = subst (λ xs. (k : ℕ) → Climbs (lists xs) c.args.first.now k ↔ (slice_get c.reach.new.marks.items k ≡ Some round)) c.as_slice.ensures.value c.in_ok-reached.ensures.marked in
    let two = subst (λ xs. (k : ℕ) → Climbs (lists xs) c.args.second.now k ↔ (slice_get c.reach-2.new.marks.items k ≡ Some round)) c.as_slice-2.ensures.value c.in_ok-reach.ensures.marked in
    let reached : c.as_slice-3.result.now ≡ c.in_ok-reached.reached.items = c.as_slice-3.ensures.value in
    let rowed = subst (λ xs. (k : ℕ) → Climbs (lists xs) c.args.first.now k ↔ Contains c.in_ok-reached.reached.items k) c.as_slice.ensures.value c.in_ok-reached.ensures.reached in
    let rowing = subst (λ ys. (k : ℕ) → Climbs above c.args.first.now k ↔ Contains ys k) (sym reached) rowed in
    told rows.of rows.grammar.now above rows.standing.items c.requires.rows c.args.first.now c.args.second.now c.reach.new.marks.items
    c.reach-2.new.marks.items round (c.in_ok-reached.ensures.long ∙ long) (c.in_ok-reach.ensures.long ∙ long-2) one two c.is_one_met.result c.as_slice-3.result.now rowing c.is_one_met.ensures.none m
