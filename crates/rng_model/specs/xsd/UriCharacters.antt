-- The characters of URI references, and of texts that become URI references once they are escaped (RFC 2396, section 2 and
-- appendix A, as RFC 2732 amends it; XLink 1.0, section 5.4). The productions have the names of the RFCs.
use Rattle.std.specs.Prelude.{codes, ℕ, List, [], ◌∷◌, map, Some, None}
use Rattle.rng_model.specs.regexes.Expressions.{ranges, no_char, Regex, nothing_more, one_of, both, either, times}

-- ---- the notation of the RFC: one after the other, one of several, any number, one or more, and one or none

abbrev pub in_order : List Regex → Regex
in_order [] = nothing_more
in_order (r ∷ rs) = both r (in_order rs)

abbrev pub any_of : List Regex → Regex
any_of [] = one_of no_char
any_of (r ∷ rs) = either r (any_of rs)

abbrev pub many : Regex → Regex
many = times 0 None

abbrev pub some : Regex → Regex
some = times 1 None

abbrev pub optional : Regex → Regex
optional = times 0 (Some 1)

-- one of these characters, and one character
abbrev pub one_in : List ℕ → Regex
one_in cs = one_of (ranges (map (λ c. (c, c)) cs))

abbrev pub the : ℕ → Regex
the c = one_in (c ∷ [])

-- ---- characters

abbrev pub digit : Regex
digit = one_of (ranges ((0x30, 0x39) ∷ []))

abbrev pub alpha : Regex
alpha = one_of (ranges ((0x41, 0x5A) ∷ (0x61, 0x7A) ∷ []))

abbrev pub alphanum : Regex
alphanum = any_of (alpha ∷ digit ∷ [])

abbrev pub hex : Regex
hex = one_of (ranges ((0x30, 0x39) ∷ (0x41, 0x46) ∷ (0x61, 0x66) ∷ []))

abbrev pub mark : Regex
mark = one_in (codes "-_.!~*'()")

abbrev pub unreserved : Regex
unreserved = any_of (alphanum ∷ mark ∷ [])

abbrev pub reserved : Regex
reserved = one_in (codes ";/?:@&=+$,[]")

-- What is escaped before a text is used as a URI: controls, the space, what RFC 2396 (section 2.4.3) excludes but for `#` and
-- `%` and the brackets of RFC 2732, and all characters that are not of ASCII (XLink 1.0, section 5.4). Each becomes one or
-- more escapes, and more of them come wherever one may.
abbrev pub to_escape : Regex
to_escape =
    one_of (ranges ((0x0, 0x20) ∷ (0x22, 0x22) ∷ (0x3C, 0x3C) ∷ (0x3E, 0x3E) ∷ (0x5C, 0x5C) ∷ (0x5E, 0x5E) ∷ (0x60, 0x60) ∷
    (0x7B, 0x7D) ∷ (0x7F, 0x10FFFF) ∷ []))

abbrev pub escaped : Regex
escaped = any_of (in_order (the 0x25 ∷ hex ∷ hex ∷ []) ∷ to_escape ∷ [])

abbrev pub uric : Regex
uric = any_of (reserved ∷ unreserved ∷ escaped ∷ [])

abbrev pub uric_no_slash : Regex
uric_no_slash = any_of (unreserved ∷ escaped ∷ one_in (codes ";?:@&=+$,") ∷ [])

abbrev pub pchar : Regex
pchar = any_of (unreserved ∷ escaped ∷ one_in (codes ":@&=+$,") ∷ [])
