use Rattle.std.proofs.Common.{◌≡◌, drop, map}
use Rattle.rng_model.specs.names.Names.{class_list}
use Rattle.rng_model.specs.names.NameViews.{class_of}
use Rattle.rng_schema_checks.specs.plain.ClassTests.{some_breaks_except}
use Rattle.rng_schema_checks.proofs.name_classes.+breaks_except.Given as goal

-- some member breaks the rule exactly if one of those that are left does
abbrev pub invariant-members : goal.invariant-members
invariant-members l =
    some_breaks_except (class_list (map class_of l.member-items)) ≡ some_breaks_except (class_list (map class_of (drop l.member-index l.member-items)))
