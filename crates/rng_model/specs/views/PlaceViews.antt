-- The numbers that lead to a place, without their place in memory.
use Rattle.std.specs.Prelude.{ℕ, List, [], Option, Some, None}
use Rattle.std.specs.Arc.{arc_value}
use Rattle.std.specs.declared.sync.Arc.{Arc}
use Rattle.std.specs.Global.{Global}
use Rattle.rng_model.specs.declared.place.Place.{Place}
use Rattle.rng_model.specs.declared.place_numbers.HashedNumbers.{HashedNumbers}
use Rattle.rng_model.specs.views.NumbersViews.{numbers_in}

-- the numbers; none if there are no numbers
abbrev pub numbers_if_any : Option (Arc HashedNumbers Global) → List ℕ
numbers_if_any None = []
numbers_if_any (Some way) = numbers_in (arc_value way).numbers

-- the numbers that lead to a place, the outermost first
abbrev pub numbers_of : Place → List ℕ
numbers_of p = numbers_if_any p.way
