use Rattle.std.proofs.Common.{option_map}
use Rattle.rng_model.specs.views.SchemaView.{place_of}
use Rattle.rng_simple.specs.views.Definitions.{numbering_of}
use Rattle.rng_simple.specs.views.GraphView.{forest}
use Rattle.rng_simple.proofs.BuiltGraphs.ResolvedRows.{AreResolved}
use Rattle.rng_simple.proofs.graph.resolving.Scope.pattern.Given as goal

abbrev pub invariant-loop-row : goal.invariant-loop-row
invariant-loop-row l =
    AreResolved (place_of l.self.place.now) (option_map (λ z. place_of z.now) l.self.outer) (forest l.fn.rows.items) (numbering_of l.fn.numbering)
    l.first l.row-index l.count (forest l.rows.items) (numbering_of l.numbering)
