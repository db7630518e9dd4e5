-- The set `XmlSchema` of datatypes: a table of the types of XML Schema, each with the parameters that it takes and the value
-- of each text (XML Schema Part 2, Second Edition, section 3; RELAX NG Specification, sections 4.16, 6.2.8 and 6.2.9).
use Rattle.std.specs.Prelude.{codes, ℕ, List, [], ◌∷◌, ◌++◌, Bool, Option, None, not, ◌||◌}
use Rattle.std.specs.Float.{binary32, binary64}
use Rattle.std.specs.Option.{option_map, option_and_then}
use Rattle.std.specs.Str.{bytes_eq}
use Rattle.rng_model.specs.simple.Tree.{Datatype}
use Rattle.rng_model.specs.datatypes.Texts.{collapse}
use Rattle.rng_model.specs.datatypes.Facets.{Lengths, Bounds, Parameter, named}
use Rattle.rng_model.specs.datatypes.Datatypes.{Meaning, Maker, without, plain_types, xsd_uri}
use Rattle.rng_model.specs.datatypes.Datatypes.{xsd_string, xsd_token, xsd_ncname, xsd_nmtoken, xsd_boolean}
use Rattle.rng_model.specs.regexes.Patterns.{with_patterns}
use Rattle.rng_model.specs.xsd.Names.{replaced}
use Rattle.rng_model.specs.xsd.Numbers.{written_integer}
use Rattle.rng_model.specs.xsd.Facets.{written_lengths}
use Rattle.rng_model.specs.xsd.Integers.{written_facets}
use Rattle.rng_model.specs.xsd.Uris.{xsd_any_uri}
use Rattle.rng_model.specs.xsd.primitives.Floats.{floats}
use Rattle.rng_model.specs.xsd.primitives.Octets.{hex_length, hex_binary_of, base64_length, base64_binary_of}
use Rattle.rng_model.specs.xsd.primitives.Zones.{ordered_by}
use Rattle.rng_model.specs.xsd.primitives.Moments.{date_time_of, times, date_of, year_month_of, year_of, month_day_of, day_of, month_of}
use Rattle.rng_model.specs.xsd.primitives.Durations.{durations}
use Rattle.rng_model.specs.xsd.primitives.Values.{float, moment, time, duration}
use Rattle.rng_model.specs.xsd.primitives.Types.{with_limits, with_decimal_facets, with_octets}
use Rattle.rng_model.specs.xsd.Types.{xsd_normalized, xsd_language, xsd_name, xsd_qname, xsd_nmtokens, xsd_ncnames, xsd_number}

-- ---- the parameters of each type besides `pattern`

abbrev pub with_lengths : (Lengths → Meaning) → List Parameter → Option Meaning
with_lengths meaning ps = option_map meaning (written_lengths 0 ps)

-- a list, which has one item at least (sections 3.3.5, 3.3.10 and 3.3.12)
abbrev pub with_item_counts : (Lengths → Meaning) → List Parameter → Option Meaning
with_item_counts meaning ps = option_map meaning (written_lengths 1 ps)

abbrev pub with_number_facets : Bounds → List Parameter → Option Meaning
with_number_facets b ps = option_map (xsd_number b) (written_facets b ps)

-- ---- white space and patterns: what is asked of a text is asked of the text with its white space treated (section 4.3.6)

abbrev pub as_written : List ℕ → List ℕ
as_written s = s

abbrev pub preserving : Maker → Maker
preserving = with_patterns as_written

abbrev pub replacing : Maker → Maker
replacing = with_patterns replaced

abbrev pub collapsing : Maker → Maker
collapsing = with_patterns collapse

-- ---- the bounds of an integer type, as they are written

abbrev pub from_to : List ℕ → List ℕ → Maker
from_to least greatest = collapsing (with_number_facets (record { least = written_integer least; greatest = written_integer greatest }))

abbrev pub from : List ℕ → Maker
from least = collapsing (with_number_facets (record { least = written_integer least; greatest = None }))

abbrev pub up_to : List ℕ → Maker
up_to greatest = collapsing (with_number_facets (record { least = None; greatest = written_integer greatest }))

abbrev pub unbounded : Maker
unbounded = collapsing (with_number_facets (record { least = None; greatest = None }))

-- ---- the table

-- the types whose values are no numbers
abbrev pub text_types : List (List ℕ × Maker)
text_types =
    (codes "string", preserving (with_lengths xsd_string)) ∷  -- section 3.2.1
    (codes "boolean", collapsing (without xsd_boolean)) ∷  -- 3.2.2
    (codes "anyURI", collapsing (with_lengths xsd_any_uri)) ∷  -- 3.2.17
    (codes "QName", collapsing (without xsd_qname)) ∷  -- 3.2.18, by its spelling
    (codes "NOTATION", collapsing (without xsd_qname)) ∷  -- 3.2.19, by its spelling
    (codes "normalizedString", replacing (with_lengths xsd_normalized)) ∷  -- 3.3.1
    (codes "token", collapsing (with_lengths xsd_token)) ∷  -- 3.3.2
    (codes "language", collapsing (with_lengths xsd_language)) ∷  -- 3.3.3
    (codes "NMTOKEN", collapsing (with_lengths xsd_nmtoken)) ∷  -- 3.3.4
    (codes "NMTOKENS", collapsing (with_item_counts xsd_nmtokens)) ∷  -- 3.3.5
    (codes "Name", collapsing (with_lengths xsd_name)) ∷  -- 3.3.6
    (codes "NCName", collapsing (with_lengths xsd_ncname)) ∷  -- 3.3.7
    (codes "ID", collapsing (with_lengths xsd_ncname)) ∷  -- 3.3.8; a document's IDs are compared elsewhere
    (codes "IDREF", collapsing (with_lengths xsd_ncname)) ∷  -- 3.3.9
    (codes "IDREFS", collapsing (with_item_counts xsd_ncnames)) ∷  -- 3.3.10
    (codes "ENTITY", collapsing (with_lengths xsd_ncname)) ∷  -- 3.3.11, whether or not it is declared
    (codes "ENTITIES", collapsing (with_item_counts xsd_ncnames)) ∷ []  -- 3.3.12

-- the types of integers
abbrev pub number_types : List (List ℕ × Maker)
number_types =
    (codes "integer", unbounded) ∷  -- 3.3.13
    (codes "nonPositiveInteger", up_to (codes "0")) ∷  -- 3.3.14
    (codes "negativeInteger", up_to (codes "-1")) ∷  -- 3.3.15
    (codes "long", from_to (codes "-9223372036854775808") (codes "9223372036854775807")) ∷
    (codes "int", from_to (codes "-2147483648") (codes "2147483647")) ∷
    (codes "short", from_to (codes "-32768") (codes "32767")) ∷
    (codes "byte", from_to (codes "-128") (codes "127")) ∷  -- 3.3.16 to 3.3.19
    (codes "nonNegativeInteger", from (codes "0")) ∷  -- 3.3.20
    (codes "unsignedLong", from_to (codes "0") (codes "18446744073709551615")) ∷
    (codes "unsignedInt", from_to (codes "0") (codes "4294967295")) ∷
    (codes "unsignedShort", from_to (codes "0") (codes "65535")) ∷
    (codes "unsignedByte", from_to (codes "0") (codes "255")) ∷  -- 3.3.21 to 3.3.24
    (codes "positiveInteger", from (codes "1")) ∷ []  -- 3.3.25

-- the primitive types whose values are no texts
abbrev pub primitive_types : List (List ℕ × Maker)
primitive_types =
    (codes "decimal", collapsing with_decimal_facets) ∷  -- 3.2.3
    (codes "float", collapsing (with_limits float (floats binary32))) ∷  -- 3.2.4
    (codes "double", collapsing (with_limits float (floats binary64))) ∷  -- 3.2.5
    (codes "duration", collapsing (with_limits duration durations)) ∷  -- 3.2.6
    (codes "dateTime", collapsing (with_limits moment (ordered_by date_time_of))) ∷  -- 3.2.7
    (codes "time", collapsing (with_limits time times)) ∷  -- 3.2.8
    (codes "date", collapsing (with_limits moment (ordered_by date_of))) ∷  -- 3.2.9
    (codes "gYearMonth", collapsing (with_limits moment (ordered_by year_month_of))) ∷  -- 3.2.10
    (codes "gYear", collapsing (with_limits moment (ordered_by year_of))) ∷  -- 3.2.11
    (codes "gMonthDay", collapsing (with_limits moment (ordered_by month_day_of))) ∷  -- 3.2.12
    (codes "gDay", collapsing (with_limits moment (ordered_by day_of))) ∷  -- 3.2.13
    (codes "gMonth", collapsing (with_limits moment (ordered_by month_of))) ∷  -- 3.2.14
    (codes "hexBinary", collapsing (with_octets hex_binary_of hex_length)) ∷  -- 3.2.15
    (codes "base64Binary", collapsing (with_octets base64_binary_of base64_length)) ∷ []  -- 3.2.16

abbrev pub complete_types : List (List ℕ × Maker)
complete_types = text_types ++ number_types ++ primitive_types

-- The value of a text in QName or NOTATION depends on what its prefix is declared as, so that no text may be given as a
-- value of these types.
abbrev pub depends_on_context : List ℕ → Bool
depends_on_context name = bytes_eq name (codes "QName") || bytes_eq name (codes "NOTATION")

-- ---- datatypes

abbrev pub complete_libraries : List (List ℕ × List (List ℕ × Maker))
complete_libraries = ([], plain_types) ∷ (xsd_uri, complete_types) ∷ []

-- the values of texts in a datatype, if the set has it
abbrev pub complete_meaning_of : Datatype → Option Meaning
complete_meaning_of d = option_and_then (λ make. make d.parameters) (option_and_then (named d.name) (named d.library complete_libraries))

-- texts may be given as values of the datatype
abbrev pub takes_values : Datatype → Bool
takes_values d = not (bytes_eq d.library xsd_uri) || not (depends_on_context d.name)
