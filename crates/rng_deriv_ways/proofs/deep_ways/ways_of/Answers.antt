use Rattle.std.proofs.Common.{subst}
use Rattle.std.proofs.lemmas.Result.{IfOk-weaker as if_ok}
use Rattle.rng_deriv_table.proofs.Trees.{tree_stays}
use Rattle.rng_deriv_ways.specs.plain.Ways.{AreWaysOf}
use Rattle.rng_deriv_ways.proofs.AttributeTakers.{candidates_longer}
use Rattle.rng_deriv_ways.proofs.deep_ways.ways_of.Goals as goal

pub ways-requires-clause-candidates : goal.ways-requires-clause-candidates
ways-requires-clause-candidates c =
    candidates_longer c.args.search.now.grammar.now c.args.table.now c.keep_deep_ways.new.table c.in_ok-keep_deep_ways.ensures.longer c.args.search.now.kind
    c.args.search.now.candidates
    c.requires.candidates

pub returns-clause-ways : goal.returns-clause-ways
returns-clause-ways c =
    let t = c.args.search.now.grammar.now in
    let same = tree_stays t c.args.table.now c.keep_deep_ways.new.table c.args.number.0 c.in_ok-keep_deep_ways.ensures.longer c.requires.inside in
    if_ok c.ways.result _ _ (λ ws h. subst (λ p. AreWaysOf t c.ways.new.table c.args.search.now.kind p ws.items) same h) c.ways.ensures.ways
