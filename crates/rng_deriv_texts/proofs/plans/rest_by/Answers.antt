use Rattle.std.proofs.Common.{◌≡◌, ◌<◌, All, Bool, List, Option, Some, length, subst, sym}
use Rattle.std.specs.Prelude.{IfSome}
use Rattle.smallvec.specs.SmallVec.{SmallVec}
use Rattle.rng_deriv_table.specs.declared.pattern.PatternNumber.{PatternNumber}
use Rattle.rng_deriv_ways.specs.declared.way.LeafWay.{LeafWay}
use Rattle.rng_deriv_ways.specs.views.Plans.{AreRestsBy, IsChoiceOf}
use Rattle.rng_deriv_texts.proofs.PlannedRests.{new_outcome, outcome_kept, rests_inside}
use Rattle.rng_deriv_texts.proofs.plans.rest_by.Goals as goal

-- the rests that were gathered are those of the ways whose leaves took what came first
gathered : (leaves ls : List PatternNumber) (taken bs : List Bool) (ways ws : List LeafWay) (o : Option (SmallVec PatternNumber))
    (rests : SmallVec PatternNumber) → leaves ≡ ls → taken ≡ bs → ways ≡ ws → o ≡ Some rests
    → IfSome o (λ rests. AreRestsBy leaves taken ways rests.items) → AreRestsBy ls bs ws rests.items
gathered leaves ls taken bs ways ws o rests e f g is h =
    subst (λ ls. AreRestsBy ls bs ws rests.items) e (subst (λ bs. AreRestsBy leaves bs ws rests.items) f
    (subst (λ ws. AreRestsBy leaves taken ws rests.items) g (subst (λ o. IfSome o (λ rests. AreRestsBy leaves taken ways rests.items)) is h)))

pub choice-requires : goal.choice-requires
choice-requires c =
    let plan = c.args.plan.now in
    let by = gathered c.as_slice-3.result.now plan.leaves.items c.as_slice-4.result.now c.args.taken.items c.as_slice-5.result.now plan.ways.items
    c.in_ok-rests.field-0 c.in-Some-2.rests c.as_slice-3.ensures c.as_slice-4.ensures c.as_slice-5.ensures c.in-Some-2.is c.in_ok-rests.ensures in
    subst (All (λ (m : PatternNumber). m.0 < length c.args.table.now)) (sym c.as_slice-6.ensures)
    (rests_inside c.args.table.now plan.leaves.items c.args.taken.items plan.ways.items c.in-Some-2.rests.items by c.requires)

pub returns-clause-rest : goal.returns-clause-rest
returns-clause-rest c = λ t right.
    let plan = c.args.plan.now in
    let told = c.in_ok-rest.ensures in
    let by = gathered c.as_slice-3.result.now plan.leaves.items c.as_slice-4.result.now c.args.taken.items c.as_slice-5.result.now plan.ways.items
    c.in_ok-rests.field-0 c.in-Some-2.rests c.as_slice-3.ensures c.as_slice-4.ensures c.as_slice-5.ensures c.in-Some-2.is c.in_ok-rests.ensures in
    new_outcome t c.args.table.now c.choice.new.self told.longer plan.ways.items plan.leaves.items c.args.taken.items c.in-Some-2.rests.items
    c.in_ok-rest.rest by c.requires
    (subst (λ (rs : List PatternNumber). IsChoiceOf t c.args.table.now c.choice.new.self rs c.in_ok-rest.rest) c.as_slice-6.ensures
    (record { inside = told.inside; alternatives = told.alternatives t; takes = told.matches t }))

pub returns-clause-plan : goal.returns-clause-plan
returns-clause-plan c = λ t right.
    let kept = c.in_ok-keep_outcome.ensures in
    outcome_kept t c.args.table.now c.choice.new.self c.in_ok-rest.ensures.longer c.args.plan.now c.keep_outcome.new.plan c.args.taken.items c.in_ok-rest.rest
    kept.ways kept.leaves kept.values kept.outcomes (returns-clause-rest c t right) right
