use Rattle.std.proofs.Common.{◌≡◌, take, fold}
use Rattle.rng_model.specs.plain.PlaceHashes.{hashed}
use Rattle.rng_model.proofs.place_numbers.hash_of_bytes.Given as goal

abbrev pub invariant-bytes : goal.invariant-bytes
invariant-bytes l = l.sum ≡ fold hashed 14695981039346656037 (take l.byte-index l.fn.bytes)
