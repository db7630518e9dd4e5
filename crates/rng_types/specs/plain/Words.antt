-- Words of ASCII letters, digits, `_`, `-` and `.`.
use Rattle.std.specs.Prelude.{◌≡◌, ◌==◌, ℕ, List, [], ◌∷◌, Bool, true, false, ◌||◌, length}
use Rattle.std.specs.List.{list_all}
use Rattle.rng_model.specs.names.Names.{is_in_ranges}
use Rattle.rng_model.specs.datatypes.Texts.{collapse}

-- a letter or `_`
abbrev pub is_start_byte : ℕ → Bool
is_start_byte b = is_in_ranges ((0x41, 0x5A) ∷ (0x5F, 0x5F) ∷ (0x61, 0x7A) ∷ []) b

-- one of these, or `-`, `.` or a digit
abbrev pub is_word_byte : ℕ → Bool
is_word_byte b = is_start_byte b || is_in_ranges ((0x2D, 0x2E) ∷ (0x30, 0x39) ∷ []) b

-- the text collapses to this word
pub record IsWordOf (s w : List ℕ) : Type 0 where
  pub is : collapse s ≡ w
  pub bytes : list_all is_word_byte w ≡ true
  pub some : (length w == 0) ≡ false

-- it begins with a letter or `_`
abbrev pub starts_name : List ℕ → Bool
starts_name [] = false
starts_name (b ∷ w) = is_start_byte b
