-- Why a text is no pattern.
use Rattle.std.specs.Prelude.{⊤, ◌≡◌, ◌<◌, ℕ, List, Some, None}
use Rattle.std.specs.Str.{chars}
use Rattle.rng_model.specs.regexes.Expressions.{Regex}
use Rattle.rng_model.specs.regexes.plain.Decided.{regex_of}
use Rattle.rng_model.specs.regexes.Sizes.{size, most_size}
use Rattle.xsd_patterns.specs.declared.fault.PatternFault.{PatternFault}
use Rattle.xsd_patterns.specs.declared.fault.PatternFault.TheVariants as faults

-- the text is no expression, or one whose size with its counts written out is above the greatest; out of memory claims nothing
abbrev pub IsPatternFault : List ℕ → PatternFault → Type 0
IsPatternFault s faults.NoExpression = regex_of (chars s) ≡ None
IsPatternFault s faults.TooLarge = (r : Regex) × (regex_of (chars s) ≡ Some r) × (most_size < size r)
IsPatternFault s faults.Memory = ⊤
