use Rattle.std.proofs.Common.{◌≡◌, take}
use Rattle.rng_model.proofs.place_numbers.are_same.Given as goal

abbrev pub invariant-loop-i : goal.invariant-loop-i
invariant-loop-i l = take l.i l.fn.bytes ≡ take l.i l.fn.words
