-- What the search for a datatype returns.
use Rattle.std.proofs.Common.{◌≡◌, ◌∙◌, ◌&&◌, ℕ, List, Bool, true, false, not, Option, Some, None, is_some, option_map, sym, ap}
use Rattle.rng_model.proofs.Truths.{no_truth}
use Rattle.rng_model.specs.simple.Tree.{Datatype}
use Rattle.rng_model.specs.datatypes.Datatypes.{Meaning, known_allows}
use Rattle.rng_model.specs.schema.Patterns.{without_parameters}
use Rattle.rng_model.specs.xsd.TypeSets.{meaning_in, takes_values_in, tests_in}
use Rattle.rng_model.specs.declared.type_set.TypeSet.{TypeSet}
use Rattle.xsd_types.specs.views.View.{known_meaning}
use Rattle.xsd_types.specs.declared.known.KnownDatatype.{KnownDatatype}
use Rattle.rng_schema_checks.specs.plain.PatternTests.{is_unknown, is_refused}

module _ (types : TypeSet) (d : Datatype) where
  pub unknown_if_none : (o : Option KnownDatatype) (none : Bool) → is_some o ≡ not none → option_map known_meaning o ≡ meaning_in types d
      → none ≡ is_unknown types d
  unknown_if_none None true e found = ap (λ m. not (is_some m)) found
  unknown_if_none None false e found = no_truth e
  unknown_if_none (Some found_type) true e found = no_truth (sym e)
  unknown_if_none (Some found_type) false e found = ap (λ m. not (is_some m)) found

module _ (types : TypeSet) (library name v : List ℕ) where
  abbrev pub d : Datatype
  d = without_parameters library name

  pub refused_without_values : takes_values_in types d ≡ false → true ≡ is_refused types library name v
  refused_without_values e = ap (λ b. not (b && (tests_in types).allows d v)) (sym e)

  -- the text is one of the datatype that is found
  pub refused_by : takes_values_in types d ≡ true → (o : Option Meaning) → o ≡ meaning_in types d → not (known_allows o v) ≡ is_refused types library name v
  refused_by e o found = ap (λ m. not (known_allows m v)) found ∙ ap (λ b. not (b && (tests_in types).allows d v)) (sym e)
