-- Bytes that break a clause on characters.
use Rattle.std.specs.Prelude.{◌≡◌, ◌⊎◌, ℕ, List}
use Rattle.rnc_model.specs.characters.Decoding.{BreaksCharactersAt, BreaksUtf8At}

-- clause S3 or S4, and the offset where the bytes break it
abbrev pub BreaksTextAt : List ℕ → ℕ → ℕ → Type 0
BreaksTextAt bytes clause offset = ((clause ≡ 3) × BreaksUtf8At bytes offset) ⊎ ((clause ≡ 4) × BreaksCharactersAt bytes offset)
