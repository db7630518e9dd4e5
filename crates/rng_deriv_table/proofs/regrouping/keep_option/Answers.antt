use Rattle.rng_deriv_table.proofs.Regrouped.{option_put}
use Rattle.rng_deriv_table.proofs.regrouping.keep_option.Goals as goal

pub returns : goal.returns
returns c = λ ns is all. option_put ns c.args.options.now c.insert.new.self c.args.number c.args.option is (λ m. c.in_ok-insert.ensures.updates.0 m) all
