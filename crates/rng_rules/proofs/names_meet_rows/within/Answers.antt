use Rattle.std.proofs.Common.{◌≡◌, ◌↔◌, ◌<◌, [], ap, sym, ◌∙◌, subst, ℕ, length, map, slice_get, slice_index_or, Some, All, vec_items, arith}
use Rattle.std.proofs.lemmas.List.{length-map}
use Rattle.rng_model.proofs.Members.{all_from_members}
use Rattle.rng_model.proofs.Places.{some_at}
use Rattle.rng_labels.specs.plain.Queues.{IsReachedBy}
use Rattle.rng_rules.specs.plain.NamesMeetReach.{AreBelow, lists}
use Rattle.rng_rules.specs.views.NamesMeetRows.{children}
use Rattle.rng_rules.proofs.NamesMeetTables.{children_in_table}
use Rattle.rng_rules.proofs.names_meet_rows.within.Goals as goal

pub reach-requires-clause-next : goal.reach-requires-clause-next
reach-requires-clause-next c =
    let ps = c.args.grammar.now.patterns in
    let all : lists c.as_slice.result.now ≡ map children ps = ap lists c.as_slice.ensures.value ∙ c.in_ok-below.ensures in
    let long : length ps ≡ length c.as_slice.result.now = omega (arith, ap length all, length-map c.as_slice.result.now vec_items, length-map ps children) in
    subst (λ n. AreBelow n (lists c.as_slice.result.now)) long (subst (AreBelow (length ps)) (sym all) (children_in_table ps c.start.ensures.valid.falls))

pub reach-requires-clause-start : goal.reach-requires-clause-start
reach-requires-clause-start c =
    let ps = c.args.grammar.now.patterns in
    let all : lists c.as_slice.result.now ≡ map children ps = ap lists c.as_slice.ensures.value ∙ c.in_ok-below.ensures in
    let long : length ps ≡ length c.as_slice.result.now = omega (arith, ap length all, length-map c.as_slice.result.now vec_items, length-map ps children) in
    subst (λ n. All (λ k. k < n) c.args.rows.now) long c.requires

pub reach-requires-clause-round : goal.reach-requires-clause-round
reach-requires-clause-round c =
    all_from_members (λ m. m < 1) c.in_ok-marks.marks.items
    (λ m h. let i = some_at c.in_ok-marks.marks.items m h in omega (arith, c.in_ok-marks.ensures.none i.0 m i.2))

pub returns-clause-exact : goal.returns-clause-exact
returns-clause-exact c =
    let ps = c.args.grammar.now.patterns in
    let all : lists c.as_slice.result.now ≡ map children ps = ap lists c.as_slice.ensures.value ∙ c.in_ok-below.ensures in
    subst (λ xs. (k : ℕ) → IsReachedBy (λ j. slice_index_or xs j []) c.args.rows.now k ↔ (slice_get c.reach.new.marks.items k ≡ Some 1)) all
    c.in_ok-reach.ensures.marked
