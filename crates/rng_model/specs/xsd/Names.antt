-- Which texts are names, languages and qualified names, and white space that is replaced (XML Schema Part 2, Second
-- Edition, sections 3.2.18, 3.3.3, 3.3.6 and 4.3.6). A text is a list of bytes. A hyphen, a colon, a letter and a digit
-- of ASCII are bytes of their own in UTF-8.
use Rattle.std.specs.Prelude.{ℕ, List, [], ◌∷◌, map, length, Bool, false, nat_le, ◌==◌, ◌&&◌, ◌||◌, if◌then◌else◌}
use Rattle.std.specs.Char.{is_ascii_digit}
use Rattle.std.specs.List.{list_all, slice_split}
use Rattle.std.specs.Str.{chars}
use Rattle.rng_model.specs.names.Names.{is_in_ranges, is_name_start, is_name_char, is_colon, is_ncname}
use Rattle.rng_model.specs.datatypes.Texts.{is_blank_byte}

-- each blank replaced by a space (section 4.3.6, `replace`)
abbrev pub replaced_byte : ℕ → ℕ
replaced_byte b = if is_blank_byte b then 32 else b

abbrev pub replaced : List ℕ → List ℕ
replaced s = map replaced_byte s

-- Name, given as characters: a NameStartChar and then NameChars (section 3.3.6; XML 1.0 Fifth Edition, section 2.3)
abbrev pub is_name : List ℕ → Bool
is_name [] = false
is_name (c ∷ cs) = is_name_start c && list_all is_name_char cs

-- ---- language: `[a-zA-Z]{1,8}(-[a-zA-Z0-9]{1,8})*` (section 3.3.3)

abbrev pub is_letter : ℕ → Bool
is_letter b = is_in_ranges ((0x41, 0x5A) ∷ (0x61, 0x7A) ∷ []) b

abbrev pub is_letter_or_digit : ℕ → Bool
is_letter_or_digit b = is_letter b || is_ascii_digit b

-- one to eight bytes that pass the test
abbrev pub is_tag : (ℕ → Bool) → List ℕ → Bool
is_tag test t = list_all test t && (nat_le 1 (length t) && nat_le (length t) 8)

-- the parts between the hyphens
abbrev pub are_tags : List (List ℕ) → Bool
are_tags [] = false
are_tags (t ∷ ts) = is_tag is_letter t && list_all (is_tag is_letter_or_digit) ts

abbrev pub is_hyphen : ℕ → Bool
is_hyphen b = b == 0x2D

unfoldable pub is_language : List ℕ → Bool
is_language s = are_tags (slice_split is_hyphen s)

-- ---- QName: an NCName, or two joined by a colon (section 3.2.18; Namespaces in XML 1.0, section 4)

-- the parts between the colons
abbrev pub are_name_parts : List (List ℕ) → Bool
are_name_parts [] = false
are_name_parts (n ∷ []) = is_ncname (chars n)
are_name_parts (p ∷ n ∷ []) = is_ncname (chars p) && is_ncname (chars n)
are_name_parts (p ∷ n ∷ m ∷ ms) = false

unfoldable pub is_qname : List ℕ → Bool
is_qname s = are_name_parts (slice_split is_colon s)
