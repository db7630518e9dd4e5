-- The names that the grammars at places define, as the code keeps them.
use Rattle.std.specs.Prelude.{ℕ, List, Bool, false, Option, Some, None}
use Rattle.std.specs.Borrow.{Bor}
use Rattle.std.specs.List.{list_any}
use Rattle.std.specs.Map.{lookup}
use Rattle.std.specs.Str.{bytes_eq}
use Rattle.rng_model.specs.schema.Patterns.{Place}
use Rattle.rng_model.specs.views.SchemaView.{place_of}
use Rattle.rng_schema_checks.specs.declared.definitions.DefinedNames.{DefinedNames}
use Rattle.rng_schema_checks.specs.declared.definitions.Definitions.{Definitions}

-- the name is one of these
abbrev pub has_name : DefinedNames → List ℕ → Bool
has_name names y = list_any (λ k. bytes_eq y k.now) names.names.keys

abbrev pub has_if : Option DefinedNames → List ℕ → Bool
has_if None y = false
has_if (Some names) y = has_name names y

abbrev pub finds : Option (Bor DefinedNames) → List ℕ → Bool
finds None y = false
finds (Some names) y = has_name names.now y

-- the grammar at the place defines the name
abbrev pub defines_in : Definitions → Place → List ℕ → Bool
defines_in definitions x y = has_if (lookup (λ k. bytes_eq x (place_of k.now)) definitions.by_place.entries) y
