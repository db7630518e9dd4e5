use Rattle.std.proofs.Common.{subst, sym}
use Rattle.rng_deriv_table.specs.views.Skips.{AreSkipsOf}
use Rattle.rng_deriv_table.proofs.MemberSkips.{skip_set}
use Rattle.rng_deriv_table.proofs.skips.widen.Goals as goal

pub powers-preserved : goal.powers-preserved
powers-preserved c = λ ns ms all.
    let before = c.powers.invariant ns ms all in
    skip_set ns ms c.powers.skips.items c.args.position c.in-Some.wider
    (c.in-Some.ensures.skip ns ms (subst (AreSkipsOf ns ms) (sym c.as_slice.ensures.value) before)) before
