-- The classes of an expression.
use Rattle.std.specs.Prelude.{List, map}
use Rattle.rng_model.specs.regexes.Expressions.{Class}
use Rattle.xsd_regex.specs.views.Classes.{class_of}
use Rattle.xsd_positions.specs.declared.position.Positions.{Positions}

abbrev pub classes_of : Positions → List Class
classes_of ps = map class_of ps.classes.items
