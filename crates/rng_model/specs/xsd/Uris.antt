-- anyURI: which texts are URI references once they are escaped (XML Schema Part 2, Second Edition, section 3.2.17; RFC 2396,
-- appendix A, as RFC 2732 amends it; XLink 1.0, section 5.4). The productions have the names of the RFCs.
use Rattle.std.specs.Prelude.{codes, ℕ, List, [], ◌∷◌, Bool, Option, Some}
use Rattle.std.specs.Str.{chars}
use Rattle.rng_model.specs.datatypes.Texts.{Value}
use Rattle.rng_model.specs.datatypes.Facets.{Lengths}
use Rattle.rng_model.specs.regexes.Expressions.{Regex, times}
use Rattle.rng_model.specs.regexes.plain.Decided.{is_match}
use Rattle.rng_model.specs.xsd.Types.{xsd_word}
use Rattle.rng_model.specs.xsd.UriCharacters.{in_order, any_of, many, some, optional, one_in, the}
use Rattle.rng_model.specs.xsd.UriCharacters.{digit, alpha, alphanum, hex, unreserved, escaped, uric, uric_no_slash, pchar}

-- ---- authorities

abbrev pub port : Regex
port = many digit

abbrev pub ipv4_address : Regex
ipv4_address = in_order (some digit ∷ the 0x2E ∷ some digit ∷ the 0x2E ∷ some digit ∷ the 0x2E ∷ some digit ∷ [])

abbrev pub domainlabel : Regex
domainlabel = any_of (alphanum ∷ in_order (alphanum ∷ many (any_of (alphanum ∷ the 0x2D ∷ [])) ∷ alphanum ∷ []) ∷ [])

abbrev pub toplabel : Regex
toplabel = any_of (alpha ∷ in_order (alpha ∷ many (any_of (alphanum ∷ the 0x2D ∷ [])) ∷ alphanum ∷ []) ∷ [])

abbrev pub hostname : Regex
hostname = in_order (many (in_order (domainlabel ∷ the 0x2E ∷ [])) ∷ toplabel ∷ optional (the 0x2E) ∷ [])

-- IPv6 addresses, and the IPv4 addresses in them (RFC 2373, appendix B). The grammar leaves out `::` right before an IPv4
-- address, which section 2.2 there and section 2 of RFC 2732 have: `::192.9.5.5`.
abbrev pub hex4 : Regex
hex4 = times 1 (Some 4) hex

abbrev pub hexseq : Regex
hexseq = in_order (hex4 ∷ many (in_order (the 0x3A ∷ hex4 ∷ [])) ∷ [])

abbrev pub hexpart : Regex
hexpart = any_of (hexseq ∷ in_order (optional hexseq ∷ the 0x3A ∷ the 0x3A ∷ optional hexseq ∷ []) ∷ [])

abbrev pub up_to_three_digits : Regex
up_to_three_digits = times 1 (Some 3) digit

abbrev pub embedded_address : Regex
embedded_address =
    in_order (up_to_three_digits ∷ the 0x2E ∷ up_to_three_digits ∷ the 0x2E ∷ up_to_three_digits ∷ the 0x2E ∷ up_to_three_digits ∷ [])

abbrev pub ipv6_address : Regex
ipv6_address =
    any_of (hexpart ∷ in_order (hexpart ∷ the 0x3A ∷ embedded_address ∷ []) ∷ in_order (optional hexseq ∷ the 0x3A ∷ the 0x3A ∷ embedded_address ∷ []) ∷ [])

abbrev pub ipv6_reference : Regex
ipv6_reference = in_order (the 0x5B ∷ ipv6_address ∷ the 0x5D ∷ [])

abbrev pub host : Regex
host = any_of (hostname ∷ ipv4_address ∷ ipv6_reference ∷ [])

abbrev pub hostport : Regex
hostport = in_order (host ∷ optional (in_order (the 0x3A ∷ port ∷ [])) ∷ [])

abbrev pub userinfo : Regex
userinfo = many (any_of (unreserved ∷ escaped ∷ one_in (codes ";:&=+$,") ∷ []))

abbrev pub server : Regex
server = optional (in_order (optional (in_order (userinfo ∷ the 0x40 ∷ [])) ∷ hostport ∷ []))

abbrev pub reg_name : Regex
reg_name = some (any_of (unreserved ∷ escaped ∷ one_in (codes "$,;:@&=+") ∷ []))

abbrev pub authority : Regex
authority = any_of (server ∷ reg_name ∷ [])

-- ---- paths

abbrev pub param : Regex
param = many pchar

abbrev pub segment : Regex
segment = in_order (many pchar ∷ many (in_order (the 0x3B ∷ param ∷ [])) ∷ [])

abbrev pub path_segments : Regex
path_segments = in_order (segment ∷ many (in_order (the 0x2F ∷ segment ∷ [])) ∷ [])

abbrev pub abs_path : Regex
abs_path = in_order (the 0x2F ∷ path_segments ∷ [])

abbrev pub net_path : Regex
net_path = in_order (the 0x2F ∷ the 0x2F ∷ authority ∷ optional abs_path ∷ [])

abbrev pub rel_segment : Regex
rel_segment = some (any_of (unreserved ∷ escaped ∷ one_in (codes ";@&=+$,") ∷ []))

abbrev pub rel_path : Regex
rel_path = in_order (rel_segment ∷ optional abs_path ∷ [])

abbrev pub query : Regex
query = many uric

abbrev pub fragment : Regex
fragment = many uric

-- ---- references

abbrev pub scheme : Regex
scheme = in_order (alpha ∷ many (any_of (alpha ∷ digit ∷ one_in (codes "+-.") ∷ [])) ∷ [])

abbrev pub opaque_part : Regex
opaque_part = in_order (uric_no_slash ∷ many uric ∷ [])

abbrev pub hier_part : Regex
hier_part = in_order (any_of (net_path ∷ abs_path ∷ []) ∷ optional (in_order (the 0x3F ∷ query ∷ [])) ∷ [])

abbrev pub absolute_uri : Regex
absolute_uri = in_order (scheme ∷ the 0x3A ∷ any_of (hier_part ∷ opaque_part ∷ []) ∷ [])

-- The grammar leaves out a query without a path, which section C.1 of RFC 2396 has: `?y`.
abbrev pub relative_uri : Regex
relative_uri = in_order (optional (any_of (net_path ∷ abs_path ∷ rel_path ∷ [])) ∷ optional (in_order (the 0x3F ∷ query ∷ [])) ∷ [])

abbrev pub uri_reference : Regex
uri_reference = in_order (optional (any_of (absolute_uri ∷ relative_uri ∷ [])) ∷ optional (in_order (the 0x23 ∷ fragment ∷ [])) ∷ [])

-- ---- anyURI

-- The text is a URI reference once it is escaped. `is_match` says what `Denotes` says.
unfoldable pub is_uri : List ℕ → Bool
is_uri s = is_match uri_reference (chars s)

-- The text is collapsed first, and the lengths count its characters as they are before they are escaped (sections 3.2.17 and 4.3.1).
abbrev pub xsd_any_uri : Lengths → List ℕ → Option Value
xsd_any_uri = xsd_word is_uri
