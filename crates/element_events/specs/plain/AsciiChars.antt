-- Bytes that show without decoding that a text has only characters of XML, or is an NCName.
use Rattle.std.specs.Prelude.{ℕ, List, [], ◌∷◌, Bool, false, ◌&&◌, ◌||◌, ◌==◌, nat_le, nat_lt}
use Rattle.std.specs.List.{list_all}
use Rattle.rng_model.specs.names.Names.{is_in_ranges}

-- a byte that is a character of XML by itself
abbrev pub is_ascii_char : ℕ → Bool
is_ascii_char b = (nat_le 0x20 b || b == 0x9 || b == 0xA || b == 0xD) && nat_lt b 0x80

-- no control character
abbrev pub is_plain : ℕ → Bool
is_plain b = nat_le 0x20 b && nat_le b 0x7F

-- a letter, or `_`
abbrev pub is_ascii_start : ℕ → Bool
is_ascii_start b = is_in_ranges ((0x41, 0x5A) ∷ (0x5F, 0x5F) ∷ (0x61, 0x7A) ∷ []) b

-- a letter, a digit, `_`, `-` or `.`
abbrev pub is_ascii_part : ℕ → Bool
is_ascii_part b = is_ascii_start b || is_in_ranges ((0x2D, 0x2E) ∷ (0x30, 0x39) ∷ []) b

abbrev pub is_ascii_name : List ℕ → Bool
is_ascii_name [] = false
is_ascii_name (b ∷ bs) = is_ascii_start b && list_all is_ascii_part bs
