use Rattle.std.proofs.Common.{◌≡◌, length, refl, arith}
use Rattle.rng_deriv_ways.specs.declared.way.LeafWay.{LeafWay}
use Rattle.rng_deriv_texts.proofs.SettledRests.{left_by_one}
use Rattle.rng_deriv_texts.proofs.settled.left_by_only_way.Goals as goal

pub takes_by_known-requires-clause-inside : goal.takes_by_known-requires-clause-inside
takes_by_known-requires-clause-inside c =
    let d : LeafWay = record { leaf = record { 0 = 0 }; rest = record { 0 = 0 } } in
    let one : length c.in_ok-ways.ways.now ≡ 1 = omega (arith, c.in-len1.len_at_least, c.in-len1.len_below) in
    let ways = c.in_ok-ways.ensures c.args.table.now c.requires.known in
    (ways.inside 0 d (omega (arith, one))).0

pub returns-then-told : goal.returns-then-told
returns-then-told c =
    let one : length c.in_ok-ways.ways.now ≡ 1 = omega (arith, c.in-len1.len_at_least, c.in-len1.len_below) in
    left_by_one c.args.context.now.grammar.now c.args.table.now c.args.attr _ c.args.number c.in_ok-ways.ways.now _ c.in_ok-told.told one
    refl (c.in_ok-ways.ensures c.args.table.now c.requires.known) c.if-told.true c.in_ok-told.ensures
