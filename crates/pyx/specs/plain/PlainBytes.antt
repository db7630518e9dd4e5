-- Bytes that show without decoding that a text or a name is good.
use Rattle.std.specs.Prelude.{ℕ, List, [], ◌∷◌, Bool, false, not, ◌&&◌, ◌||◌, ◌==◌, nat_le, if◌then◌else◌}
use Rattle.std.specs.List.{list_all}
use Rattle.rng_model.specs.names.Names.{is_in_ranges}

-- a byte that is only in characters that XML has
abbrev pub is_plain : ℕ → Bool
is_plain b = (nat_le 0x20 b || b == 0x9 || b == 0xA || b == 0xD) && not (b == 0xEF)

abbrev pub flaw : Bool → ℕ
flaw plain = if plain then 0 else 1

-- ASCII letters and `_`
abbrev pub may_begin : ℕ → Bool
may_begin b = is_in_ranges ((0x41, 0x5A) ∷ (0x5F, 0x5F) ∷ (0x61, 0x7A) ∷ []) b

abbrev pub may_follow : ℕ → Bool
may_follow b = is_in_ranges ((0x2D, 0x2E) ∷ (0x30, 0x39) ∷ (0x41, 0x5A) ∷ (0x5F, 0x5F) ∷ (0x61, 0x7A) ∷ []) b

-- a name without a colon
abbrev pub is_plain_name : List ℕ → Bool
is_plain_name [] = false
is_plain_name (b ∷ bs) = may_begin b && list_all may_follow bs
