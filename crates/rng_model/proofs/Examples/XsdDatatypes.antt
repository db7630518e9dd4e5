-- Worked cases of the complete set, which the checker computes.
use Rattle.std.proofs.Common.{codes, ◌≡◌, ℕ, List, [], ◌∷◌, refl, true, false, Bool, Some, is_some}
use Rattle.std.specs.Str.{chars}
use Rattle.rng_model.specs.datatypes.Texts.{collapse, pieces}
use Rattle.rng_model.specs.datatypes.Facets.{Parameter}
use Rattle.rng_model.specs.datatypes.Datatypes.{known_allows, known_equates}
use Rattle.rng_model.specs.xsd.Names.{is_language, is_qname}
use Rattle.rng_model.specs.xsd.Numbers.{integer_of, count_of}
use Rattle.rng_model.specs.xsd.Facets.{written_lengths}
use Rattle.rng_model.specs.xsd.Limits.{written_limits}
use Rattle.rng_model.specs.regexes.Patterns.{patterns_of}
use Rattle.rng_model.specs.plain.NamedTypes.{meaning_named}

abbrev allows : List ℕ → List Parameter → List ℕ → Bool
allows name ps s = known_allows (meaning_named name ps) s

abbrev equates : List ℕ → List ℕ → List ℕ → Bool
equates name v w = known_equates (meaning_named name []) v w

-- 40 digits are a number, and zeros in front do not count
many_digits : equates (codes "integer") (codes "1000000000000000000000000000000000000000") (codes "+01000000000000000000000000000000000000000") ≡ true
unfolding collapse pieces integer_of written_limits patterns_of
many_digits = refl

-- a bound is compared as a number, and an exclusive one is outside
ten_above_nine : allows (codes "integer") ((codes "minInclusive", codes "9") ∷ []) (codes "10") ≡ true
unfolding collapse pieces integer_of written_limits patterns_of
ten_above_nine = refl

ten_outside : allows (codes "integer") ((codes "minExclusive", codes "10") ∷ []) (codes "10") ≡ false
unfolding collapse pieces integer_of written_limits patterns_of
ten_outside = refl

-- the digits of a number are those that count
three_digits : allows (codes "integer") ((codes "totalDigits", codes "3") ∷ []) (codes "-00123") ≡ true
unfolding collapse pieces integer_of written_limits patterns_of
three_digits = refl

-- the built-in bounds
byte_greatest : allows (codes "unsignedByte") [] (codes "255") ≡ true
unfolding collapse pieces integer_of written_limits patterns_of
byte_greatest = refl

byte_above : allows (codes "unsignedByte") [] (codes "256") ≡ false
unfolding collapse pieces integer_of written_limits patterns_of
byte_above = refl

-- a length counts the items of a list
two_items : allows (codes "NMTOKENS") ((codes "length", codes "2") ∷ []) (codes " abc  def ") ≡ true
unfolding collapse pieces integer_of written_lengths chars patterns_of
two_items = refl

-- a list has an item
no_items : allows (codes "IDREFS") [] (codes " ") ≡ false
unfolding collapse pieces integer_of written_lengths chars patterns_of
no_items = refl

-- so none may have no item
no_item_at_most : is_some (meaning_named (codes "NMTOKENS") ((codes "maxLength", codes "0") ∷ [])) ≡ false
unfolding collapse pieces integer_of written_lengths chars patterns_of
no_item_at_most = refl

no_item_at_least : is_some (meaning_named (codes "ENTITIES") ((codes "minLength", codes "0") ∷ [])) ≡ false
unfolding collapse pieces integer_of written_lengths chars patterns_of
no_item_at_least = refl

no_character : is_some (meaning_named (codes "token") ((codes "length", codes "0") ∷ [])) ≡ true
unfolding collapse pieces integer_of written_lengths chars patterns_of
no_character = refl

-- blanks are replaced one by one
replaced_blanks : equates (codes "normalizedString") (9 ∷ codes "a") (codes " a") ≡ true
unfolding integer_of written_lengths chars patterns_of
replaced_blanks = refl

two_blanks : equates (codes "normalizedString") (codes "a  b") (codes "a b") ≡ false
unfolding integer_of written_lengths chars patterns_of
two_blanks = refl

-- languages and qualified names
english : is_language (codes "en-US") ≡ true
unfolding is_language
english = refl

hyphen_last : is_language (codes "en-") ≡ false
unfolding is_language
hyphen_last = refl

two_colons : is_qname (codes "a:b:c") ≡ false
unfolding is_qname chars
two_colons = refl

-- parameters that no type takes: twice, in the wrong order, and no value of the type
twice : is_some (meaning_named (codes "string") ((codes "length", codes "1") ∷ (codes "length", codes "1") ∷ [])) ≡ false
unfolding collapse pieces integer_of written_lengths patterns_of
twice = refl

wrong_order : is_some (meaning_named (codes "integer") ((codes "minInclusive", codes "10") ∷ (codes "maxInclusive", codes "9") ∷ [])) ≡ false
unfolding collapse pieces integer_of written_limits patterns_of
wrong_order = refl

outside_type : is_some (meaning_named (codes "byte") ((codes "maxInclusive", codes "128") ∷ [])) ≡ false
unfolding collapse pieces integer_of written_limits patterns_of
outside_type = refl

-- a count may have a sign and blanks around it
signed_count : count_of (codes " +3 ") ≡ Some 3
unfolding collapse pieces integer_of
signed_count = refl
