-- The datatypes: a table of the types of each library. A type says which parameters it takes, and then which value each
-- text has. So it says which texts are allowed and which are equal (RELAX NG Specification, sections 2, 4.16, 6.2.8 and
-- 6.2.9; XML Schema Part 2, sections 3.2.1, 3.2.2, 3.3.2, 3.3.4, 3.3.7, 3.3.13 and 4.3).
use Rattle.std.specs.Prelude.{codes, ℕ, List, [], ◌∷◌, Bool, false, Option, Some, None, is_some, IsTrue, ◌&&◌}
use Rattle.std.specs.List.{list_all}
use Rattle.std.specs.Option.{option_map, option_and_then}
use Rattle.std.specs.Str.{chars}
use Rattle.rng_model.specs.simple.Tree.{Datatype}
use Rattle.rng_model.specs.names.Names.{is_name_char, is_ncname}
use Rattle.rng_model.specs.datatypes.Texts.{TextTests, collapse, pieces, Value, text, truth, are_equal, text_if}
use Rattle.rng_model.specs.datatypes.Facets.{Lengths, Bounds, fits, number_inside, truth_of, short_integer_of, length_of, short_bound_of, Parameter, named, written_range}

-- ---- which value a text has, in each type: all types except `string` collapse the text first (XML Schema Part 2,
-- section 4.3.6)

-- the value of each text that has one
abbrev pub Meaning : Type 0
Meaning = List ℕ → Option Value

-- NMTOKEN: one or more NameChars (XML 1.0 Fifth Edition, section 2.3)
abbrev pub is_nmtoken : List ℕ → Bool
is_nmtoken [] = false
is_nmtoken (c ∷ cs) = list_all is_name_char (c ∷ cs)

abbrev pub plain_string : List ℕ → Option Value
plain_string s = Some (text s)

abbrev pub plain_token : List ℕ → Option Value
plain_token s = Some (text (collapse s))

abbrev pub xsd_string : Lengths → List ℕ → Option Value
xsd_string l s = text_if (fits l s) s

abbrev pub xsd_token : Lengths → List ℕ → Option Value
xsd_token l s = text_if (fits l (collapse s)) (collapse s)

abbrev pub xsd_ncname : Lengths → List ℕ → Option Value
xsd_ncname l s = text_if (is_ncname (chars (collapse s)) && fits l (collapse s)) (collapse s)

abbrev pub xsd_nmtoken : Lengths → List ℕ → Option Value
xsd_nmtoken l s = text_if (is_nmtoken (chars (collapse s)) && fits l (collapse s)) (collapse s)

abbrev pub xsd_boolean : List ℕ → Option Value
xsd_boolean s = option_map truth (truth_of (collapse s))

abbrev pub xsd_integer : Bounds → List ℕ → Option Value
xsd_integer b s = number_inside b (short_integer_of (collapse s))

-- ---- the table

-- what a type makes of its parameters: the values of texts, if it takes these parameters
abbrev pub Maker : Type 0
Maker = List Parameter → Option Meaning

-- the type takes no parameters
abbrev pub without : Meaning → List Parameter → Option Meaning
without meaning [] = Some meaning
without meaning (p ∷ ps) = None

-- the type takes `minLength` and `maxLength` (sections 4.3.2 and 4.3.3)
abbrev pub with_short_lengths : (Lengths → Meaning) → List Parameter → Option Meaning
with_short_lengths meaning ps = option_map meaning (written_range length_of (codes "minLength") (codes "maxLength") ps)

-- the type takes `minInclusive` and `maxInclusive` (sections 4.3.7 and 4.3.10)
abbrev pub with_bounds : (Bounds → Meaning) → List Parameter → Option Meaning
with_bounds meaning ps = option_map meaning (written_range short_bound_of (codes "minInclusive") (codes "maxInclusive") ps)

-- the library that is built into RELAX NG (RELAX NG Specification, section 6.2.9)
abbrev pub plain_types : List (List ℕ × Maker)
plain_types = (codes "string", without plain_string) ∷ (codes "token", without plain_token) ∷ []

-- the library of XML Schema
abbrev pub xsd_types : List (List ℕ × Maker)
xsd_types =
    (codes "string", with_short_lengths xsd_string) ∷
    (codes "token", with_short_lengths xsd_token) ∷
    (codes "NCName", with_short_lengths xsd_ncname) ∷
    (codes "NMTOKEN", with_short_lengths xsd_nmtoken) ∷
    (codes "boolean", without xsd_boolean) ∷
    (codes "integer", with_bounds xsd_integer) ∷ []

-- the URI of the library of XML Schema (XML Schema Part 2, section 3.1)
abbrev pub xsd_uri : List ℕ
xsd_uri = codes "http://www.w3.org/2001/XMLSchema-datatypes"

-- the libraries by their URIs; that of the built-in library is empty
abbrev pub libraries : List (List ℕ × List (List ℕ × Maker))
libraries = ([], plain_types) ∷ (xsd_uri, xsd_types) ∷ []

-- ---- datatypes

-- the type of this library with this name, if there is one
unfoldable pub type_named : List ℕ → List ℕ → Option Maker
type_named uri name = option_and_then (named name) (named uri libraries)

-- the values of texts in a datatype, if the datatype is known
abbrev pub meaning_of : Datatype → Option Meaning
meaning_of d = option_and_then (λ make. make d.parameters) (type_named d.library d.name)

-- the datatype is one of the table, with parameters that it takes (RELAX NG Specification, section 4.16)
abbrev pub IsKnownDatatype : Datatype → Type 0
IsKnownDatatype d = IsTrue (is_some (meaning_of d))

-- a text is allowed if it has a value, and two texts are equal if they have the same value (section 6.2.8)
abbrev pub is_allowed_by : Meaning → List ℕ → Bool
is_allowed_by meaning s = is_some (meaning s)

abbrev pub are_equal_by : Meaning → List ℕ → List ℕ → Bool
are_equal_by meaning v w = are_equal (meaning v) (meaning w)

-- a datatype that is not known allows nothing
abbrev pub known_allows : Option Meaning → List ℕ → Bool
known_allows None s = false
known_allows (Some meaning) s = is_allowed_by meaning s

abbrev pub known_equates : Option Meaning → List ℕ → List ℕ → Bool
known_equates None v w = false
known_equates (Some meaning) v w = are_equal_by meaning v w

-- what datatypes say of texts
abbrev pub text_tests : TextTests
text_tests = record { allows = λ d s. known_allows (meaning_of d) s; equals = λ d v w. known_equates (meaning_of d) v w; pieces = pieces }

-- the text is allowed by the datatype
abbrev pub IsAllowed : Datatype → List ℕ → Type 0
IsAllowed d s = IsTrue (text_tests.allows d s)
