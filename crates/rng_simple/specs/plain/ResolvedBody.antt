-- The plain function that numbers what the body of a definition mentions. Private contracts cite it.
use Rattle.std.specs.Prelude.{map}
use Rattle.rng_model.specs.simple.Tree.{Tree}
use Rattle.rng_model.specs.schema.Schema.{Schema, Definition}
use Rattle.rng_simple.specs.views.ComponentTable.{joining, schema_components}
use Rattle.rng_simple.specs.plain.Graph.{Spot}
use Rattle.rng_simple.specs.views.GraphView.{combined}
use Rattle.rng_simple.specs.plain.Resolving.{Numbering, resolve_each}

-- the resolved body of a definition, and the numbering after it
abbrev pub resolved_body : Schema → Definition → Numbering → Tree Spot × Numbering
resolved_body s d v =
    let r = resolve_each d.place (s.outer d.place) (map (λ c. c.pattern) (schema_components s d)) v in
    (combined (joining (schema_components s d)) r.0, r.1)
