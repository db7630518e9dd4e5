-- Views of definitions and of what is numbered, without their place in memory.
use Rattle.std.specs.Prelude.{map, option_map}
use Rattle.rng_model.specs.schema.Schema as schema
use Rattle.rng_model.specs.views.SchemaView.{place_of}
use Rattle.rng_model.specs.names.NameViews.{class_of}
use Rattle.rng_simple.specs.views.GraphView.{graph_pattern_of}
use Rattle.rng_simple.specs.plain.Resolving.{Numbering}
use Rattle.rng_simple.specs.declared.graph.definitions.Definition.{Definition}
use Rattle.rng_simple.specs.declared.graph.definitions.Numbering as declared

abbrev pub definition_of : Definition → schema.Definition
definition_of d = record { place = place_of d.place.now; name = option_map (λ y. y.now) d.name }

-- what is numbered
abbrev pub numbering_of : declared.Numbering → Numbering
numbering_of n = record {
  definitions = map definition_of n.definitions.keys;
  elements = map (λ e. (class_of e.class.now, graph_pattern_of e.content)) n.elements.items;
}
