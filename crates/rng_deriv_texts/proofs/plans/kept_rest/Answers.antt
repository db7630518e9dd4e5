use Rattle.std.proofs.Common.{◌∙◌, refl, sym}
use Rattle.std.specs.Cmp.{booleans_Decides}
use Rattle.std.proofs.lemmas.Slice.Eq.{slice_eq-Decides}
use Rattle.rng_deriv_texts.proofs.plans.kept_rest.Goals as goal

pub returns-then-eq : goal.returns-then-eq
returns-then-eq c = (
  c.outcome-item.result,
  (c.outcomes.outcome-index, c.outcomes-test.true, sym c.outcome-item.is),
  sym c.as_slice.ensures ∙ (slice_eq-Decides booleans_Decides c.as_slice.result.now c.args.taken.now c.eq.result c.eq.ensures).0 c.if-eq.true,
  refl,
)
