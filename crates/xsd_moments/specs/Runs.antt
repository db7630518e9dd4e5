-- What was read of a text that is not collapsed.
use Rattle.std.specs.Prelude.{ℕ, List}
use Rattle.std.specs.Borrow.{Bor}
use Rattle.rng_types.specs.plain.Runs.{from_run}
use Rattle.rng_model.specs.xsd.primitives.Fronts.{Front}

-- a number, and what the bytes behind it collapse to
abbrev pub front_of : ℕ × Bor (List ℕ) → Front
front_of f = (f.0, from_run f.1.now)
