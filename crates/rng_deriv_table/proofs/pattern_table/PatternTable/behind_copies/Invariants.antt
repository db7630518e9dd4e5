use Rattle.std.proofs.Common.{◌<◌, length}
use Rattle.rng_model.specs.simple.Table.{Table}
use Rattle.rng_deriv_table.specs.plain.Copies.{IsBehindCopies}
use Rattle.rng_deriv_table.specs.views.Trees.{tree_of}
use Rattle.rng_deriv_table.proofs.pattern_table.PatternTable.behind_copies.Given as goal

abbrev pub invariant-copies : goal.invariant-copies
invariant-copies l = record {
  inside : l.rest.0 < length l.self;
  behind : (t : Table) → IsBehindCopies (tree_of t l.self l.unit.0) (tree_of t l.self l.fn.number.0) (tree_of t l.self l.rest.0);
}

abbrev pub decreases-copies : goal.decreases-copies
decreases-copies l = l.rest.0
