use Rattle.std.proofs.Common.{◌+◌, length}
use Rattle.rng_simple.specs.plain.Search.{IsSearch, lists, weight}
use Rattle.rng_simple.proofs.graph.order.sort.Given as goal

abbrev pub invariant-search : goal.invariant-search
invariant-search l = IsSearch (lists l.all) l.marks.items l.tasks.items l.order.items

abbrev pub decreases-search : goal.decreases-search
decreases-search l = weight l.marks.items (lists l.all) + length l.tasks.items
