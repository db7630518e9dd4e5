-- The rows that values of the code stand for.
use Rattle.std.specs.Prelude.{List, map}
use Rattle.xsd_regex.specs.declared.expression.Row.{Row}
use Rattle.xsd_regex.specs.declared.expression.Row.TheVariants as rows
use Rattle.xsd_regex.specs.declared.expression.Expression.{Expression}
use Rattle.rng_model.specs.regexes.plain.Postfix as spec
use Rattle.rng_model.specs.regexes.plain.Postfix.{nothing_row, class_row, both_row, either_row, times_row}
use Rattle.xsd_regex.specs.views.Classes.{class_of}

abbrev pub row_of : Row → spec.Row
row_of rows.Nothing = nothing_row
row_of (rows.OneOf k) = class_row (class_of k)
row_of rows.Both = both_row
row_of rows.Either = either_row
row_of (rows.Times n m) = times_row n m

abbrev pub rows_of : Expression → List spec.Row
rows_of e = map row_of e.rows.items
