use Rattle.std.proofs.Common.{ap}
use Rattle.std.proofs.lemmas.Bool.Decides.{Decides-eqb}
use Rattle.std.proofs.lemmas.Slice.Eq.{slice_eq-Decides}
use Rattle.rng_deriv_table.specs.declared.pattern.PatternNumber.{PatternNumber}
use Rattle.rng_deriv_events.proofs.level_table.table.is_same.Goals as goal

pub returns : goal.returns
returns c =
    (slice_eq-Decides (λ (a b : PatternNumber). (
      λ e. ap (λ n. record { 0 = n }) ((Decides-eqb a.0 b.0).0 e),
      λ e. (Decides-eqb a.0 b.0).1 (ap (λ (p : PatternNumber). p.0) e),
    )) c.args.first.now c.args.second.now c.eq.result c.eq.ensures).0
