-- Views of the components that the code gathers, without their place in memory.
use Rattle.std.specs.Prelude.{List, drop, map, reverse}
use Rattle.rng_overrides.specs.declared.gathered.GatheredComponent.{GatheredComponent}
use Rattle.rng_model.specs.views.SchemaView.{schema_component_of}
use Rattle.rng_load.specs.declared.reading_patterns.NestedGrammar.{NestedGrammar}
use Rattle.rng_load.specs.declared.open_components.AtEnd.{AtEnd}
use Rattle.rng_load.specs.declared.open_components.AtEnd.TheVariants as ends
use Rattle.rng_load.specs.declared.open_components.GatheredComponents as declared
use Rattle.rng_load.specs.declared.open_components.OpenComponents.{OpenComponents}
use Rattle.rng_model.specs.names.NameViews.{namespace_bytes}
use Rattle.rnc_grammar.specs.views.View.{component_of}
use Rattle.rnc_model.specs.loading.Places.{Gathered}
use Rattle.rng_load.specs.plain.OpenComponents as plain
use Rattle.rng_load.specs.plain.OpenComponents.{OpenList}
use Rattle.rng_load.specs.views.ReadPatterns.{nested_of}

abbrev pub gathered_of : GatheredComponent NestedGrammar → Gathered
gathered_of g = record { component = schema_component_of g.component; nested = map nested_of g.grammars.items }

abbrev pub end_of : AtEnd → plain.AtEnd
end_of ends.Nothing = plain.nothing
end_of (ends.Braces before scope over) =
    plain.braces (map gathered_of before.items) scope.levels (namespace_bytes scope.uri.now) (map component_of over.now)
end_of (ends.Override before included) = plain.override (map gathered_of before.items) (map gathered_of included.items)

abbrev pub list_of : OpenComponents → OpenList
list_of o = record {
  levels = o.scope.levels;
  uri = namespace_bytes o.scope.uri.now;
  number = o.number;
  left = drop o.number (map component_of o.components.now);
  at_end = end_of o.at_end;
}

-- the open lists, the innermost first
abbrev pub lists_in : declared.GatheredComponents → List OpenList
lists_in m = reverse (map list_of m.open.items)

-- what is gathered since the innermost open include began its file or its braces
abbrev pub gathered_in : declared.GatheredComponents → List Gathered
gathered_in m = map gathered_of m.all.items
