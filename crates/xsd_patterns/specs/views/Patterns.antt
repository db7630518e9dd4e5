-- What every pattern has.
use Rattle.std.specs.Prelude.{◌≡◌, ℕ, List, Some}
use Rattle.rng_model.specs.regexes.Expressions.{Regex}
use Rattle.rng_model.specs.regexes.Patterns.{pattern_of}
use Rattle.xsd_regex.specs.plain.Positions.{Position, ArePositionsOf}

pub record IsPattern (text : List ℕ) (first : ℕ) (ps : List Position) : Type 0 where
  pub expression : Regex
  pub taken : pattern_of text ≡ Some expression
  pub are : ArePositionsOf expression first ps
