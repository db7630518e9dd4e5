-- Worked cases of anyURI, which the checker computes. That the test is `Denotes` is `matches_are_decided`.
use Rattle.std.proofs.Common.{codes, ◌≡◌, [], ◌∷◌, refl, true, false}
use Rattle.std.specs.Str.{chars}
use Rattle.rng_model.specs.regexes.plain.LinearForms.{is_nullable, forms_of, forms}
use Rattle.rng_model.specs.regexes.plain.Decided.{is_match}
use Rattle.rng_model.specs.xsd.Uris.{is_uri}

-- ---- references

empty : is_uri [] ≡ true
unfolding is_uri is_match is_nullable forms_of forms chars
empty = refl

absolute : is_uri (codes "http://example.org:8080/a/b?c=d") ≡ true
unfolding is_uri is_match is_nullable forms_of forms chars
absolute = refl

no_port : is_uri (codes "http://x:y/") ≡ true
unfolding is_uri is_match is_nullable forms_of forms chars
no_port = refl

relative : is_uri (codes "../a") ≡ true
unfolding is_uri is_match is_nullable forms_of forms chars
relative = refl

fragment : is_uri (codes "#a") ≡ true
unfolding is_uri is_match is_nullable forms_of forms chars
fragment = refl

urn : is_uri (codes "urn:a:b") ≡ true
unfolding is_uri is_match is_nullable forms_of forms chars
urn = refl

mail : is_uri (codes "mailto:a@b.c") ≡ true
unfolding is_uri is_match is_nullable forms_of forms chars
mail = refl

network : is_uri (codes "//example.org") ≡ true
unfolding is_uri is_match is_nullable forms_of forms chars
network = refl

no_authority : is_uri (codes "//") ≡ true
unfolding is_uri is_match is_nullable forms_of forms chars
no_authority = refl

user : is_uri (codes "ftp://a:b@c") ≡ true
unfolding is_uri is_match is_nullable forms_of forms chars
user = refl

-- ---- characters that are escaped

space : is_uri (codes "a b") ≡ true
unfolding is_uri is_match is_nullable forms_of forms chars
space = refl

braces : is_uri (codes "{x}") ≡ true
unfolding is_uri is_match is_nullable forms_of forms chars
braces = refl

caret : is_uri (codes "^") ≡ true
unfolding is_uri is_match is_nullable forms_of forms chars
caret = refl

backslash : is_uri (codes "a\\b") ≡ true
unfolding is_uri is_match is_nullable forms_of forms chars
backslash = refl

bar : is_uri (codes "a|b") ≡ true
unfolding is_uri is_match is_nullable forms_of forms chars
bar = refl

quote : is_uri (codes "\"") ≡ true
unfolding is_uri is_match is_nullable forms_of forms chars
quote = refl

grave : is_uri (codes "`") ≡ true
unfolding is_uri is_match is_nullable forms_of forms chars
grave = refl

angles : is_uri (codes "<x>") ≡ true
unfolding is_uri is_match is_nullable forms_of forms chars
angles = refl

escaped : is_uri (codes "a%20b") ≡ true
unfolding is_uri is_match is_nullable forms_of forms chars
escaped = refl

-- ---- no references

bad_escape : is_uri (codes "%zz") ≡ false
unfolding is_uri is_match is_nullable forms_of forms chars
bad_escape = refl

short_escape : is_uri (codes "a%2") ≡ false
unfolding is_uri is_match is_nullable forms_of forms chars
short_escape = refl

open_bracket : is_uri (codes "http://[") ≡ false
unfolding is_uri is_match is_nullable forms_of forms chars
open_bracket = refl

two_fragments : is_uri (codes "#a#b") ≡ false
unfolding is_uri is_match is_nullable forms_of forms chars
two_fragments = refl

no_path : is_uri (codes "mailto:") ≡ false
unfolding is_uri is_match is_nullable forms_of forms chars
no_path = refl

colon : is_uri (codes ":") ≡ false
unfolding is_uri is_match is_nullable forms_of forms chars
colon = refl

digit_scheme : is_uri (codes "1:2") ≡ false
unfolding is_uri is_match is_nullable forms_of forms chars
digit_scheme = refl

-- ---- addresses (RFC 2732, section 2)

ipv6 : is_uri (codes "http://[FEDC:BA98:7654:3210:FEDC:BA98:7654:3210]:80/index.html") ≡ true
unfolding is_uri is_match is_nullable forms_of forms chars
ipv6 = refl

ipv6_short : is_uri (codes "http://[3ffe:2a00:100:7031::1]") ≡ true
unfolding is_uri is_match is_nullable forms_of forms chars
ipv6_short = refl

ipv6_first : is_uri (codes "http://[::192.9.5.5]/ipng") ≡ true
unfolding is_uri is_match is_nullable forms_of forms chars
ipv6_first = refl

ipv6_bad : is_uri (codes "http://[a:b::c::d]") ≡ false
unfolding is_uri is_match is_nullable forms_of forms chars
ipv6_bad = refl

bracket_in_query : is_uri (codes "?[a]") ≡ true
unfolding is_uri is_match is_nullable forms_of forms chars
bracket_in_query = refl

bracket_in_path : is_uri (codes "[a]") ≡ false
unfolding is_uri is_match is_nullable forms_of forms chars
bracket_in_path = refl

-- `é`
accent : is_uri (0xC3 ∷ 0xA9 ∷ []) ≡ true
unfolding is_uri is_match is_nullable forms_of forms chars
accent = refl
