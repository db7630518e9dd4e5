-- Gathered components, and which of them are overridden.
use Rattle.std.specs.Prelude.{List, [], ◌++◌, filter, map, not}
use Rattle.rng_model.specs.views.SchemaView.{schema_component_of}
use Rattle.rnc_model.specs.loading.Places.{Gathered, is_overridden}
use Rattle.rng_overrides.specs.declared.gathered.GatheredComponent.{GatheredComponent}

module _ {G : Type 0} where
  -- the component without the grammars that are nested in it, which do not matter to what overrides it
  abbrev pub without_grammars : GatheredComponent G → Gathered
  without_grammars g = record { component = schema_component_of g.component; nested = [] }

  -- the included components that are not overridden, and then the overriding ones
  abbrev pub replaced_by : List (GatheredComponent G) → List (GatheredComponent G) → List (GatheredComponent G)
  replaced_by included overriding = filter (λ g. not (is_overridden (map without_grammars overriding) (without_grammars g))) included ++ overriding
