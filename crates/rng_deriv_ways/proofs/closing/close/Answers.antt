use Rattle.std.proofs.lemmas.Result.{IfOk-weaker as if_ok}
use Rattle.rng_deriv_ways.proofs.KnownRests.{closed_before}
use Rattle.rng_deriv_ways.proofs.closing.close.Goals as goal

pub returns-clause-closed : goal.returns-clause-closed
returns-clause-closed c =
    if_ok c.rest_of.result _ _ (λ rest h. closed_before c.args.table.now c.keep_deep_rests.new.table c.rest_of.new.table c.args.number rest
    c.in_ok-keep_deep_rests.ensures.longer c.requires.inside h) c.rest_of.ensures.closed
