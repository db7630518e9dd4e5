use Rattle.rng_deriv_table.proofs.MemberSkips.{skips_found}
use Rattle.rng_deriv_table.proofs.skips.Skips.of.Goals as goal

pub returns : goal.returns
returns c = skips_found c.args.self.now c.args.number c.skips_at.result c.skips_at.ensures
