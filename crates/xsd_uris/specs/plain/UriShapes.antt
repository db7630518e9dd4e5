-- Which texts are URI references, by what comes before and behind the first `#`, `?`, `:`, `/`, `[`, `]` and `@`. Escapes apart, any
-- character may come wherever several may. So a text is read once, and nothing is tried twice.
use Rattle.std.specs.Prelude.{ℕ, nat_le, List, [], ◌∷◌, length, Bool, true, false, not, ◌&&◌, ◌||◌, ◌==◌, Option, Some, None, if◌then◌else◌}
use Rattle.std.specs.List.{list_all, slice_split}
use Rattle.rng_model.specs.names.Names.{is_in_ranges}

-- ---- characters

abbrev pub is_digit : ℕ → Bool
is_digit c = is_in_ranges ((0x30, 0x39) ∷ []) c

abbrev pub is_hex : ℕ → Bool
is_hex c = is_in_ranges ((0x30, 0x39) ∷ (0x41, 0x46) ∷ (0x61, 0x66) ∷ []) c

abbrev pub is_letter : ℕ → Bool
is_letter c = is_in_ranges ((0x41, 0x5A) ∷ (0x61, 0x7A) ∷ []) c

abbrev pub is_scheme_char : ℕ → Bool
is_scheme_char c = is_in_ranges ((0x41, 0x5A) ∷ (0x61, 0x7A) ∷ (0x30, 0x39) ∷ (0x2B, 0x2B) ∷ (0x2D, 0x2E) ∷ []) c

abbrev pub is_bracket : ℕ → Bool
is_bracket c = c == 0x5B || c == 0x5D

-- ---- parts

-- the part before the first character that passes, and the part from it on
abbrev pub before : (ℕ → Bool) → List ℕ → List ℕ
before p [] = []
before p (c ∷ s) = if p c then [] else c ∷ before p s

abbrev pub from : (ℕ → Bool) → List ℕ → List ℕ
from p [] = []
from p (c ∷ s) = if p c then c ∷ s else from p s

abbrev pub is : ℕ → ℕ → Bool
is c d = d == c

abbrev pub none : (ℕ → Bool) → List ℕ → Bool
none p s = list_all (λ c. not (p c)) s

abbrev pub is_nothing : List ℕ → Bool
is_nothing [] = true
is_nothing (c ∷ s) = false

-- ---- escapes: each `%` has two hexadecimal digits behind it

abbrev pub begin_escape : List ℕ → Bool
begin_escape [] = false
begin_escape (a ∷ []) = false
begin_escape (a ∷ b ∷ s) = is_hex a && is_hex b

abbrev pub are_escapes_whole : List ℕ → Bool
are_escapes_whole [] = true
are_escapes_whole (c ∷ s) = (not (is 0x25 c) || begin_escape s) && are_escapes_whole s

-- ---- addresses in brackets

abbrev pub is_of_digits : (ℕ → Bool) → ℕ → List ℕ → Bool
is_of_digits p most s = list_all p s && (nat_le 1 (length s) && nat_le (length s) most)

abbrev pub is_group : List ℕ → Bool
is_group = is_of_digits is_hex 4

abbrev pub is_number : List ℕ → Bool
is_number = is_of_digits is_digit 3

-- four numbers
abbrev pub are_four : List (List ℕ) → Bool
are_four (a ∷ b ∷ c ∷ d ∷ []) = (is_number a && is_number b) && (is_number c && is_number d)
are_four _ = false

abbrev pub is_dotted : List ℕ → Bool
is_dotted s = are_four (slice_split (is 0x2E) s)

-- groups, of which the last may be four numbers
abbrev pub are_groups : List (List ℕ) → Bool
are_groups [] = false
are_groups (g ∷ []) = is_group g || is_dotted g
are_groups (g ∷ h ∷ gs) = is_group g && are_groups (h ∷ gs)

abbrev pub is_sequence : List ℕ → Bool
is_sequence s = are_groups (slice_split (is 0x3A) s)

abbrev pub begins_with : ℕ → List ℕ → Bool
begins_with c [] = false
begins_with c (d ∷ s) = is c d

abbrev pub is_colon_and_dotted : List ℕ → Bool
is_colon_and_dotted [] = false
is_colon_and_dotted (c ∷ s) = is 0x3A c && is_dotted s

-- before and behind the first `::`
abbrev pub before_double : List ℕ → List ℕ
before_double [] = []
before_double (c ∷ s) = if is 0x3A c && begins_with 0x3A s then [] else c ∷ before_double s

abbrev pub without_first : List ℕ → List ℕ
without_first [] = []
without_first (c ∷ s) = s

abbrev pub behind_double : List ℕ → Option (List ℕ)
behind_double [] = None
behind_double (c ∷ s) = if is 0x3A c && begins_with 0x3A s then Some (without_first s) else behind_double s

-- groups alone
abbrev pub is_hex_sequence : List ℕ → Bool
is_hex_sequence s = list_all is_group (slice_split (is 0x3A) s)

abbrev pub is_address_of : List ℕ → Option (List ℕ) → Bool
is_address_of s None = is_sequence s && not (is_dotted s)
is_address_of s (Some t) = (is_nothing s || is_hex_sequence s) && (is_nothing t || (is_sequence t || is_colon_and_dotted t))

abbrev pub is_address : List ℕ → Bool
is_address s = is_address_of (before_double s) (behind_double s)

-- ---- a network path with an address in brackets

-- nothing, or `/` and no bracket behind it
abbrev pub is_path_or_nothing : List ℕ → Bool
is_path_or_nothing [] = true
is_path_or_nothing (c ∷ s) = is 0x2F c && none is_bracket s

abbrev pub is_port_and_path : List ℕ → Bool
is_port_and_path [] = true
is_port_and_path (c ∷ s) = is_path_or_nothing (if is 0x3A c then from (λ d. not (is_digit d)) s else c ∷ s)

-- what follows the address, from the `]` on
abbrev pub is_behind_address : List ℕ → Bool
is_behind_address [] = false
is_behind_address (c ∷ s) = is_port_and_path s

-- what follows the user, from the `[` on
abbrev pub is_host_and_path : List ℕ → Bool
is_host_and_path [] = false
is_host_and_path (c ∷ s) = is_address (before (is 0x5D) s) && is_behind_address (from (is 0x5D) s)

abbrev pub is_one : List ℕ → Bool
is_one [] = false
is_one (c ∷ s) = is_nothing s

-- nothing, or a text without `@`, `/` and `]`, and `@`
abbrev pub is_user : List ℕ → Bool
is_user s = is_nothing s || (none (λ c. is 0x2F c || is 0x5D c) s && is_one (from (is 0x40) s))

abbrev pub is_bracketed : List ℕ → Bool
is_bracketed (a ∷ b ∷ s) = (is 0x2F a && is 0x2F b) && (is_user (before (is 0x5B) s) && is_host_and_path (from (is 0x5B) s))
is_bracketed _ = false

-- ---- references

-- a path that begins with `/`, without a query
abbrev pub is_rooted : List ℕ → Bool
is_rooted s = none is_bracket s || is_bracketed s

-- nothing, or a path, without a query
abbrev pub is_path : List ℕ → Bool
is_path [] = true
is_path (c ∷ s) = if is 0x2F c then is_rooted (c ∷ s) else none is_bracket (c ∷ s) && none (is 0x3A) (before (is 0x2F) (c ∷ s))

abbrev pub is_relative : List ℕ → Bool
is_relative s = is_path (before (is 0x3F) s)

abbrev pub is_scheme : List ℕ → Bool
is_scheme [] = false
is_scheme (c ∷ s) = is_letter c && list_all is_scheme_char s

-- what follows the scheme, from the `:` on
abbrev pub is_behind_scheme : List ℕ → Bool
is_behind_scheme (c ∷ d ∷ s) = if is 0x2F d then is_rooted (before (is 0x3F) (d ∷ s)) else not (is_bracket d)
is_behind_scheme _ = false

abbrev pub is_absolute : List ℕ → Bool
is_absolute s = is_scheme (before (is 0x3A) s) && is_behind_scheme (from (is 0x3A) s)

-- nothing, or `#` and no other behind it
abbrev pub is_fragment : List ℕ → Bool
is_fragment [] = true
is_fragment (c ∷ s) = none (is 0x23) s

abbrev pub is_reference : List ℕ → Bool
is_reference s = (is_relative (before (is 0x23) s) || is_absolute (before (is 0x23) s)) && is_fragment (from (is 0x23) s)

abbrev pub has_uri_shape : List ℕ → Bool
has_uri_shape s = are_escapes_whole s && is_reference s
