-- Tests whether the grammar at a place breaks one of the clauses about components.
use Rattle.std.specs.Prelude.{ℕ, Bool}
use Rattle.rng_model.specs.schema.Patterns.{Place}
use Rattle.rng_model.specs.schema.Schema.{Schema}
use Rattle.rng_model.specs.declared.type_set.TypeSet.{TypeSet}
use Rattle.rng_schema_checks.specs.plain.PatternTests.{class_test, datatype_test, ref_test}
use Rattle.rng_schema_checks.specs.plain.GrammarTests.{breaks_combination, components_at, defines, defines_if, lacks_start, some_has}
use Rattle.rng_schema_checks.specs.declared.checking.ComponentClause.{ComponentClause}
use Rattle.rng_schema_checks.specs.declared.checking.ComponentClause.TheVariants as clauses

abbrev pub number_of : ComponentClause → ℕ
number_of clauses.NameClasses = 11
number_of clauses.Datatypes = 12
number_of clauses.Combinations = 13
number_of clauses.Starts = 14
number_of clauses.Refs = 15

abbrev pub is_broken_at : TypeSet → ComponentClause → Schema → Place → Bool
is_broken_at types clauses.NameClasses s x = some_has class_test (components_at s x)
is_broken_at types clauses.Datatypes s x = some_has (datatype_test types) (components_at s x)
is_broken_at types clauses.Combinations s x = breaks_combination (components_at s x)
is_broken_at types clauses.Starts s x = lacks_start (components_at s x)
is_broken_at types clauses.Refs s x = some_has (ref_test (defines s x) (defines_if s (s.outer x))) (components_at s x)
