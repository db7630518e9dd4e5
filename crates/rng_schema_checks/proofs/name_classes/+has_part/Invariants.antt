use Rattle.std.proofs.Common.{◌≡◌, drop, map}
use Rattle.rng_model.specs.names.Names.{class_list}
use Rattle.rng_model.specs.names.NameViews.{class_of}
use Rattle.rng_schema_checks.specs.plain.ClassTests.{some_has_part}
use Rattle.rng_schema_checks.specs.plain.RuleTests.{part_test}
use Rattle.rng_schema_checks.proofs.name_classes.+has_part.Given as goal

-- the part is in some member exactly if it is in one of those that are left
abbrev pub invariant-members : goal.invariant-members
invariant-members l =
    some_has_part (part_test l.part) (class_list (map class_of l.member-items)) ≡
    some_has_part (part_test l.part) (class_list (map class_of (drop l.member-index l.member-items)))
