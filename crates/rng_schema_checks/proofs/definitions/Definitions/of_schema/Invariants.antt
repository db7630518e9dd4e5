use Rattle.std.proofs.Common.{◌≡◌, ◌&&◌, ℕ, List, take}
use Rattle.std.specs.List.{list_any}
use Rattle.std.specs.Str.{bytes_eq}
use Rattle.rng_model.specs.schema.Patterns.{Place}
use Rattle.rng_model.specs.views.SchemaView.{place_of}
use Rattle.rng_load.specs.views.PlacedGrammars.{schema_of}
use Rattle.rng_schema_checks.specs.views.Defined.{defines_in}
use Rattle.rng_schema_checks.specs.plain.GrammarTests.{defines}
use Rattle.rng_schema_checks.proofs.definitions.Definitions.of_schema.Given as goal

-- exactly what is defined at the visited places is found
abbrev pub invariant-loop-place : goal.invariant-loop-place
invariant-loop-place l = (x : Place) (y : List ℕ) →
    defines_in l.all x y ≡ (list_any (λ p. bytes_eq x (place_of p)) (take l.place-index l.place-items) && defines (schema_of l.schema) x y)
