use Rattle.std.proofs.Common.{◌≡◌, take}
use Rattle.rng_model.proofs.place_numbers.bytes_of.Given as goal

abbrev pub invariant-numbers : goal.invariant-numbers
invariant-numbers l = l.bytes.items ≡ take l.number-index l.fn.numbers
