-- Numbers that lead to a place, however they are kept.
use Rattle.std.specs.Prelude.{ℕ, List}
use Rattle.rng_model.specs.declared.place_numbers.Numbers.{Numbers}
use Rattle.rng_model.specs.declared.place_numbers.Numbers.TheVariants as kinds

abbrev pub numbers_in : Numbers → List ℕ
numbers_in (kinds.Bytes bytes) = bytes.items
numbers_in (kinds.Words words) = words.items
