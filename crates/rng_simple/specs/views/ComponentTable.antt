-- The components of the grammars of a schema, by definition.
use Rattle.std.specs.Prelude.{◌≡◌, List, [], ◌++◌, map, filter, length, slice_index_or, ◌∷◌, Option, Some, None, Bool, ◌&&◌, if◌then◌else◌}
use Rattle.std.specs.List.{list_any}
use Rattle.std.specs.Str.{bytes_eq}
use Rattle.rng_model.specs.schema.Patterns.{Place}
use Rattle.rng_model.specs.schema.Schema.{Schema, Component, Definition, same_component_name, is_interleaved}
use Rattle.rng_model.specs.simple.Tree.{Connector, choice, interleave}
use Rattle.rng_model.specs.views.SchemaView.{schema_component_of}
use Rattle.rng_simple.specs.views.Definitions.{definition_of}
use Rattle.rng_simple.specs.plain.Graph.{number_of}
use Rattle.rng_simple.specs.declared.graph.components.ComponentTable as declared

-- definitions by number, and the components of each
pub record Table : Type 0 where
  pub definitions : List Definition
  pub components : List (List Component)

abbrev pub table_of : declared.ComponentTable → Table
table_of t = record {
  definitions = map definition_of t.definitions.keys;
  components = map (λ cs. map (λ c. schema_component_of c.now) cs.items) t.components.items;
}

-- the components that the table has for a definition
abbrev pub components_of : Table → Definition → List Component
components_of t d = slice_index_or t.components (number_of t.definitions d) []

-- each of its definitions has a list
abbrev pub IsTable : Table → Type 0
IsTable t = length t.components ≡ length t.definitions

-- the component, in the grammar at this place, is one of the definition
abbrev pub is_of : Definition → Place → Component → Bool
is_of d x c = bytes_eq d.place x && same_component_name d.name c.name

-- the components of the definition among those of the grammar at a place
abbrev pub those_at : Definition → Place → List Component → List Component
those_at d x cs = filter (is_of d x) cs

-- the components at a place, or none if there is no grammar
abbrev pub given : Option (List Component) → List Component
given None = []
given (Some cs) = cs

abbrev pub components_at : Schema → Place → List Component
components_at s x = given (s.components x)

-- the components of the definition at all these places
abbrev pub those_among : Schema → Definition → List Place → List Component
those_among s d [] = []
those_among s d (x ∷ xs) = those_at d x (components_at s x) ++ those_among s d xs

-- the components of the definition in its grammar
abbrev pub schema_components : Schema → Definition → List Component
schema_components s d = filter (λ c. same_component_name d.name c.name) (components_at s d.place)

-- an interleave if one of the components has `&=`, otherwise a choice
abbrev pub joining : List Component → Connector
joining cs = if list_any (λ c. is_interleaved c.method) cs then interleave else choice
