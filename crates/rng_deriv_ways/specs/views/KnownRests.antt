-- What is known to be left of patterns after the attributes of a tag are taken.
use Rattle.std.specs.Prelude.{◌≡◌, ◌<◌, List, Some, length}
use Rattle.std.specs.HashMap.{HashMap, get}
use Rattle.rng_deriv_table.specs.views.Node.{Node}
use Rattle.rng_deriv_table.specs.declared.pattern.PatternNumber.{PatternNumber}
use Rattle.rng_deriv_table.specs.contracts.pattern.PatternNumberPartialEq.TheImpl as same
use Rattle.rng_deriv_ways.specs.plain.Closing.{IsClosed}

-- this is known to be left of the pattern of this number
abbrev pub HasRest : {Z : Type 0} → HashMap PatternNumber PatternNumber Z → PatternNumber → PatternNumber → Type 0
HasRest known n rest = get same.ghosts.eq known n ≡ Some rest

-- this is what is left of the pattern of this number
pub record IsRestOf (ns : List Node) (n rest : PatternNumber) : Type 0 where
  pub inside : n.0 < length ns
  pub closed : IsClosed ns ns n rest

-- every known rest is right
abbrev pub AreRestsOf : {Z : Type 0} → List Node → HashMap PatternNumber PatternNumber Z → Type 0
AreRestsOf ns known = (n rest : PatternNumber) → HasRest known n rest → IsRestOf ns n rest
