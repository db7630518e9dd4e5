-- The tests of the rules of the code.
use Rattle.rng_schema_checks.specs.plain.ClassTests.{ClassTest, any_test, wildcard_test, declaration_test}
use Rattle.rng_schema_checks.specs.plain.PatternTests.{PatternTest, class_test, datatype_test, ref_test}
use Rattle.rng_schema_checks.specs.views.Defined.{finds}
use Rattle.rng_schema_checks.specs.declared.name_classes.Part.{Part}
use Rattle.rng_schema_checks.specs.declared.name_classes.Part.TheVariants as parts
use Rattle.rng_schema_checks.specs.declared.patterns.Rule.{Rule}
use Rattle.rng_schema_checks.specs.declared.patterns.Rule.TheVariants as rules

abbrev pub part_test : Part → ClassTest
part_test parts.Any = any_test
part_test parts.AnyOrNamespace = wildcard_test
part_test parts.Declaration = declaration_test

abbrev pub rule_test : Rule → PatternTest
rule_test rules.NameClasses = class_test
rule_test (rules.Datatypes of) = datatype_test of.types
rule_test (rules.Refs s) = ref_test (finds s.names) (finds s.outer)
