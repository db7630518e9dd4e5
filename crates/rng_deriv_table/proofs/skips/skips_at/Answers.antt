use Rattle.std.proofs.Common.{rules, sym}
use Rattle.rng_deriv_table.proofs.skips.skips_at.Goals as goal

pub returns : goal.returns
returns c = (c.in_ok-get.field-0.now, search rules, sym c.as_slice.ensures.value)
