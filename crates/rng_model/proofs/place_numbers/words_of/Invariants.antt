use Rattle.std.proofs.Common.{◌≡◌, take}
use Rattle.rng_model.proofs.place_numbers.words_of.Given as goal

abbrev pub invariant-bytes : goal.invariant-bytes
invariant-bytes l = l.words.items ≡ take l.byte-index l.fn.bytes
