-- Hashes of texts.
use Rattle.std.specs.Prelude.{ℕ, List, [], ◌∷◌, fold}
use Rattle.std.specs.Hash as fed
use Rattle.std.specs.Hash.DefaultHasher as sip

-- the hash of a text by std's hasher; that of the empty text is 0
unfoldable pub text_hash : List ℕ → ℕ
text_hash [] = 0
text_hash (b ∷ bs) = sip.finish (fold sip.write sip.initial (fed.str (b ∷ bs)))
