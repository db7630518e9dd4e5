use Rattle.std.proofs.Common.{◌≡◌, take, fold}
use Rattle.rng_model.specs.plain.PlaceHashes.{hashed}
use Rattle.rng_model.proofs.place_numbers.hash_of_words.Given as goal

abbrev pub invariant-words : goal.invariant-words
invariant-words l = l.sum ≡ fold hashed 14695981039346656037 (take l.word-index l.fn.words)
