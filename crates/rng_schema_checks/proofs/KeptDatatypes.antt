-- If a schema breaks the clause about datatypes at no place, each datatype is known, and each value is one of its
-- datatype.
use Rattle.std.proofs.Common.{◌≡◌, refl, sym, ℕ, List, Bool, true, false, is_some, ◌&&◌}
use Rattle.std.proofs.lemmas.Bool.{true≢false}
use Rattle.rng_model.specs.simple.Tree.{Datatype}
use Rattle.rng_model.specs.schema.Patterns.{Place, Pattern, data_of, data_except, value, without_parameters}
use Rattle.rng_model.specs.schema.Schema.{Schema, IsWrittenAt}
use Rattle.rng_model.specs.xsd.TypeSets.{IsKnownIn, IsValueIn, meaning_in, takes_values_in, tests_in}
use Rattle.rng_model.specs.xsd.SchemasWith.{BreaksDatatypeWith, of_data, of_data_except, of_value}
use Rattle.rng_model.specs.declared.type_set.TypeSet.{TypeSet}

-- what a test decides holds if it is not refuted
decided : (b : Bool) → ¬ (¬ (b ≡ true)) → b ≡ true
decided true n = refl
decided false n = absurd (n (λ e. true≢false (sym e)))

module _ (types : TypeSet) where
  known_if : (d : Datatype) → ¬ (¬ (IsKnownIn types d)) → IsKnownIn types d
  known_if d n = decided (is_some (meaning_in types d)) n

  module _ (s : Schema) (kept : ¬ (BreaksDatatypeWith types s)) (x : Place) where
    pub data_known : (d : Datatype) → IsWrittenAt s x (data_of d) → IsKnownIn types d
    data_known d w = known_if d (λ n. kept (of_data w n))

    pub data_except_known : (d : Datatype) (p : Pattern) → IsWrittenAt s x (data_except d p) → IsKnownIn types d
    data_except_known d p w = known_if d (λ n. kept (of_data_except w n))

    pub value_allowed : (library name v : List ℕ) → IsWrittenAt s x (value library name v) → IsValueIn types (without_parameters library name) v
    value_allowed library name v w =
        let d = without_parameters library name in decided (takes_values_in types d && (tests_in types).allows d v) (λ n. kept (of_value w n))
