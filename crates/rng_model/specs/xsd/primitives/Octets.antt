-- hexBinary and base64Binary: which texts write octets, and how many (XML Schema Part 2, Second Edition, sections 3.2.15,
-- 3.2.16 and 4.3.1). Octets are given by the text that writes them in one way, and texts are equal if their octets are.
use Rattle.std.specs.Prelude.{codes, ℕ, ◌-◌, ◌*◌, ◌/◌, List, [], ◌∷◌, map, length, Bool, true, false, not, ◌&&◌, ◌||◌, ◌==◌, if◌then◌else◌}
use Rattle.std.specs.Prelude.{Option, Some, None}
use Rattle.std.specs.List.{list_any, filter}
use Rattle.rng_model.specs.names.Names.{is_in_ranges}
use Rattle.rng_model.specs.datatypes.Texts.{is_blank_byte}

-- ---- hexBinary (section 3.2.15)

abbrev pub is_hex_digit : ℕ → Bool
is_hex_digit c = is_in_ranges ((0x30, 0x39) ∷ (0x41, 0x46) ∷ (0x61, 0x66) ∷ []) c

-- two digits for each octet (section 3.2.15.1)
abbrev pub are_hex_pairs : List ℕ → Bool
are_hex_pairs [] = true
are_hex_pairs (a ∷ []) = false
are_hex_pairs (a ∷ b ∷ rest) = (is_hex_digit a && is_hex_digit b) && are_hex_pairs rest

-- a small letter as a capital (section 3.2.15.2)
abbrev pub capital : ℕ → ℕ
capital c = if is_in_ranges ((0x61, 0x66) ∷ []) c then c - 0x20 else c

abbrev pub hex_length : List ℕ → ℕ
hex_length octets = length octets / 2

unfoldable pub hex_binary_of : List ℕ → Option (List ℕ)
hex_binary_of s = if are_hex_pairs s then Some (map capital s) else None

-- ---- base64Binary (section 3.2.16)

-- the characters that write six bits, four of them and two zeros, and two of them and four zeros
abbrev pub is_b64 : ℕ → Bool
is_b64 c = is_in_ranges ((0x41, 0x5A) ∷ (0x61, 0x7A) ∷ (0x30, 0x39) ∷ (0x2B, 0x2B) ∷ (0x2F, 0x2F) ∷ []) c

abbrev pub is_b16 : ℕ → Bool
is_b16 c = list_any (λ d. c == d) (codes "AEIMQUYcgkosw048")

abbrev pub is_b04 : ℕ → Bool
is_b04 c = list_any (λ d. c == d) (codes "AQgw")

abbrev pub is_padding : ℕ → Bool
is_padding c = c == 0x3D

-- B64 B64 B64 B64, and at the end also B64 B64 B16 '=' and B64 B04 '=' '='
abbrev pub is_full : ℕ → ℕ → ℕ → ℕ → Bool
is_full a b c d = (is_b64 a && is_b64 b) && (is_b64 c && is_b64 d)

abbrev pub is_last : ℕ → ℕ → ℕ → ℕ → Bool
is_last a b c d = (is_b64 a && is_padding d) && ((is_b64 b && is_b16 c) || (is_b04 b && is_padding c))

abbrev pub are_base64_groups : List ℕ → Bool
are_base64_groups [] = true
are_base64_groups (a ∷ []) = false
are_base64_groups (a ∷ b ∷ []) = false
are_base64_groups (a ∷ b ∷ c ∷ []) = false
are_base64_groups (a ∷ b ∷ c ∷ d ∷ []) = is_full a b c d || is_last a b c d
are_base64_groups (a ∷ b ∷ c ∷ d ∷ e ∷ rest) = is_full a b c d && are_base64_groups (e ∷ rest)

-- The grammar has an optional space between each two characters, and a collapsed text has no more. So the blanks do not matter.
abbrev pub without_blanks : List ℕ → List ℕ
without_blanks s = filter (λ c. not (is_blank_byte c)) s

-- without the padding, each four characters write three octets
abbrev pub base64_length : List ℕ → ℕ
base64_length octets = length (filter (λ c. not (is_padding c)) octets) * 3 / 4

unfoldable pub base64_binary_of : List ℕ → Option (List ℕ)
base64_binary_of s = if are_base64_groups (without_blanks s) then Some (without_blanks s) else None
