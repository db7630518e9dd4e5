use Rattle.rng_deriv_table.proofs.MemberSkips.{one_kept}
use Rattle.rng_deriv_table.proofs.skips.keep_skips.Goals as goal

pub returns : goal.returns
returns c = λ n s h. one_kept c.args.by_choice.now c.insert.new.self c.args.number c.args.skips n s (c.in_ok-insert.ensures.updates.0 n) h
