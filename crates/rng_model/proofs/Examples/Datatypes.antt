-- Worked examples of datatypes, which the checker computes.
use Rattle.std.proofs.Common.{codes, pos, negsuc, ◌≡◌, refl, ℕ, List, [], ◌∷◌, true, false, Some, None}
use Rattle.std.specs.Str.{chars}
use Rattle.rng_model.specs.simple.Tree.{Datatype}
use Rattle.rng_model.specs.datatypes.Texts.{collapse, pieces}
use Rattle.rng_model.specs.datatypes.Facets.{Lengths, Bounds, short_integer_of, length_of, truth_of, Parameter, named, written_range}
use Rattle.rng_model.specs.datatypes.Datatypes.{plain_string, plain_token, xsd_token, xsd_ncname, xsd_nmtoken, xsd_boolean, xsd_integer}
use Rattle.rng_model.specs.datatypes.Datatypes.{xsd_uri, libraries, type_named, meaning_of, is_allowed_by, are_equal_by}

abbrev no_lengths : Lengths
no_lengths = record { least = None; greatest = None }

abbrev no_bounds : Bounds
no_bounds = record { least = None; greatest = None }

-- 37 zeros and `7` write the same number as `7`; `-` with 38 nines is allowed, 39 digits are not
pub seven : are_equal_by (xsd_integer no_bounds) (codes "00000000000000000000000000000000000007") (codes "7") ≡ true
unfolding collapse pieces short_integer_of
seven = refl

pub thirty_eight_nines : is_allowed_by (xsd_integer no_bounds) (codes "-99999999999999999999999999999999999999") ≡ true
unfolding collapse pieces short_integer_of
thirty_eight_nines = refl

pub thirty_nine_digits : is_allowed_by (xsd_integer no_bounds) (codes "000000000000000000000000000000000000007") ≡ false
unfolding collapse pieces short_integer_of
thirty_nine_digits = refl

-- a sign alone, two signs, or a blank inside are not integers
pub sign_alone : is_allowed_by (xsd_integer no_bounds) (codes "+") ≡ false
unfolding collapse pieces short_integer_of
sign_alone = refl

pub two_signs : is_allowed_by (xsd_integer no_bounds) (codes "+-1") ≡ false
unfolding collapse pieces short_integer_of
two_signs = refl

pub blank_inside : is_allowed_by (xsd_integer no_bounds) (codes "1 2") ≡ false
unfolding collapse pieces short_integer_of
blank_inside = refl

-- `-0` and `+0` are the same number; a number may be equal to a bound
pub zeros : are_equal_by (xsd_integer no_bounds) (codes "-0") (codes "+0") ≡ true
unfolding collapse pieces short_integer_of
zeros = refl

pub at_the_bound : is_allowed_by (xsd_integer (record { least = Some (negsuc 0); greatest = Some (pos 12) })) (codes "12") ≡ true
unfolding collapse pieces short_integer_of
at_the_bound = refl

pub above_the_bound : is_allowed_by (xsd_integer (record { least = Some (negsuc 0); greatest = Some (pos 12) })) (codes "13") ≡ false
unfolding collapse pieces short_integer_of
above_the_bound = refl

-- `1` and ` true ` are the same truth value, `TRUE` is not a truth value
pub truths : are_equal_by xsd_boolean (codes " true ") (codes "1") ≡ true
unfolding collapse pieces truth_of
truths = refl

pub capitals : is_allowed_by xsd_boolean (codes "TRUE") ≡ false
unfolding collapse pieces truth_of
capitals = refl

-- an NMTOKEN may have a colon, an NCName may not
pub colon_in_nmtoken : is_allowed_by (xsd_nmtoken no_lengths) (codes "a:b") ≡ true
unfolding collapse pieces chars
colon_in_nmtoken = refl

pub colon_in_ncname : is_allowed_by (xsd_ncname no_lengths) (codes "a:b") ≡ false
unfolding collapse pieces chars
colon_in_ncname = refl

-- lengths count the characters of the collapsed text: ` é ` has one
pub one_character : is_allowed_by (xsd_token (record { least = None; greatest = Some 1 })) (32 ∷ 0xC3 ∷ 0xA9 ∷ 32 ∷ []) ≡ true
unfolding collapse pieces chars
one_character = refl

-- a lower bound above the upper one allows nothing
pub crossed : is_allowed_by (xsd_token (record { least = Some 2; greatest = Some 1 })) (codes "ab") ≡ false
unfolding collapse pieces chars
crossed = refl

-- `string` keeps blanks, `token` does not
pub exact : are_equal_by plain_string (codes "a  b") (codes "a b") ≡ false
exact = refl

pub collapsed : are_equal_by plain_token (codes "a  b") (codes " a b ") ≡ true
unfolding collapse pieces
collapsed = refl

-- a bound is a text that `integer` allows, a length is only digits, and neither occurs twice
abbrev xsd : List ℕ → List Parameter → Datatype
xsd name ps = record { library = xsd_uri; name = name; parameters = ps }

pub bound_with_blanks : meaning_of (xsd (codes "integer") ((codes "minInclusive", codes " +1 ") ∷ []))
    ≡ Some (xsd_integer (record { least = Some (pos 1); greatest = None }))
unfolding type_named written_range collapse pieces short_integer_of
bound_with_blanks = refl

pub length_with_sign : meaning_of (xsd (codes "string") ((codes "maxLength", codes "+1") ∷ [])) ≡ None
unfolding type_named written_range length_of
length_with_sign = refl

pub length_of_ten_digits : meaning_of (xsd (codes "string") ((codes "maxLength", codes "0000000001") ∷ [])) ≡ None
unfolding type_named written_range length_of
length_of_ten_digits = refl

pub bound_twice : meaning_of (xsd (codes "integer") ((codes "minInclusive", codes "1") ∷ (codes "minInclusive", codes "1") ∷ [])) ≡ None
unfolding type_named written_range collapse pieces short_integer_of
bound_twice = refl

-- a literal without a type is a `token`, which takes no parameters
pub parameter_of_token : meaning_of (record { library = []; name = codes "token"; parameters = (codes "minLength", codes "1") ∷ [] }) ≡ None
unfolding type_named
parameter_of_token = refl

-- no library has the URI `u`, no type of this library is named `decimal`, and `boolean` takes no length
pub library_unknown : named (codes "u") libraries ≡ None
library_unknown = refl

pub type_unknown : type_named xsd_uri (codes "decimal") ≡ None
unfolding type_named
type_unknown = refl

pub parameter_bad : meaning_of (xsd (codes "boolean") ((codes "minLength", codes "1") ∷ [])) ≡ None
unfolding type_named
parameter_bad = refl
