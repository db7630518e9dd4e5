use Rattle.std.proofs.Common.{sym, rules}
use Rattle.std.specs.HashMap.{get}
use Rattle.std.specs.Option.{IsSome}
use Rattle.std.proofs.lemmas.Result.{IfOk-weaker as if_ok}
use Rattle.rng_names.specs.contracts.name_keys.NameKeyPartialEq.TheImpl as same_key
use Rattle.rng_deriv_ways.proofs.KnownWays.{known_for, none_known}
use Rattle.rng_deriv_ways.proofs.by_key.ways_by_key.Goals as goal

pub ways_of-requires-clause-known : goal.ways_of-requires-clause-known
ways_of-requires-clause-known c = c.requires.known c.in-Some.own.now (sym c.in-Some.ensures.value)

pub ways_of-requires-2-clause-known : goal.ways_of-requires-2-clause-known
ways_of-requires-2-clause-known c = none_known c.args.search.now.grammar.now c.args.table.now c.args.search.now.kind c.new-own.result c.new-own.ensures.empty

pub returns-in-Some-clause-known : goal.returns-in-Some-clause-known
returns-in-Some-clause-known c =
    let own = c.ways_of.new.known in
    let met : IsSome (get same_key.ghosts.eq c.args.known.now c.args.key) = search rules in
    if_ok c.ways_of.result _ _ (λ ws h. known_for c.args.search.now.grammar.now c.ways_of.new.table c.args.search.now.kind c.args.key
    (c.get_mut.follows.lender own) own
    ((c.get_mut.follows.holds own).3 met).1 h) c.ways_of.ensures.known

pub returns-clause-known : goal.returns-clause-known
returns-clause-known c =
    known_for c.args.search.now.grammar.now c.ways_of-2.new.table c.args.search.now.kind c.args.key c.insert.new.self c.ways_of-2.new.known
    c.in_ok-insert.ensures.updates.1
    c.in_ok-ways.ensures.known
