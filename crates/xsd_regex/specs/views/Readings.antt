-- What the reading of a text gives.
use Rattle.std.specs.Prelude.{◌≡◌, ℕ, List, Option, Some, None}
use Rattle.xsd_regex.specs.declared.expression.Expression.{Expression}
use Rattle.rng_model.specs.regexes.Expressions.{Regex}
use Rattle.rng_model.specs.regexes.ExpressionGrammar.{IsRegex}
use Rattle.rng_model.specs.regexes.plain.Postfix as spec
use Rattle.rng_model.specs.regexes.plain.Postfix.{postfix}
use Rattle.xsd_regex.specs.views.Rows.{rows_of}

-- the text is an expression, and these are its rows
abbrev pub AreRowsOf : List ℕ → List spec.Row → Type 0
AreRowsOf text rows = (r : Regex) × IsRegex text r × (rows ≡ postfix r)

abbrev pub IsNoRegex : List ℕ → Type 0
IsNoRegex text = (r : Regex) → ¬ (IsRegex text r)

-- the expression that the text is, or none, if it is none
abbrev pub IsReading : List ℕ → Option Expression → Type 0
IsReading text (Some e) = AreRowsOf text (rows_of e)
IsReading text None = IsNoRegex text
