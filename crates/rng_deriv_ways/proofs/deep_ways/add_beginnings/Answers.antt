use Rattle.std.proofs.Common.{arith}
use Rattle.rng_deriv_ways.proofs.PatternNodes.{parts_there}
use Rattle.rng_deriv_ways.proofs.deep_ways.add_beginnings.Goals as goal

pub reassociated-requires : goal.reassociated-requires
reassociated-requires c =
    let below = parts_there c.args.table.now c.args.number.0 c.pattern.result.now _ c.pattern.ensures.table c.pattern.ensures.found c.in-Group.is in
    let first = below.0 in
    let second = below.1 in
    let inside = c.requires.inside in
    record { first = omega (arith, first, inside); second = omega (arith, second, inside) }
