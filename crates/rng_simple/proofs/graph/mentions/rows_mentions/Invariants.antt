use Rattle.std.proofs.Common.{◌≡◌, take}
use Rattle.rng_simple.specs.plain.Mentioned.{all_mentioned}
use Rattle.rng_simple.specs.views.GraphView.{forest}
use Rattle.rng_simple.proofs.graph.mentions.rows_mentions.Given as goal

abbrev pub invariant-loop-row : goal.invariant-loop-row
invariant-loop-row l = l.found.items ≡ all_mentioned (forest (take l.row-index l.rows))
