-- Which value a text has in the types of texts, lists and integers (XML Schema Part 2, Second Edition, sections 3.2 and 3.3). Those
-- of `string`, `token`, `NCName`, `NMTOKEN` and `boolean` are in `datatypes/Datatypes.antt`, other primitive types in `primitives`.
use Rattle.std.specs.Prelude.{ℕ, List, [], ◌∷◌, length, Bool, false, Option, Some, None, ℤ, ◌&&◌, if◌then◌else◌}
use Rattle.std.specs.List.{list_all}
use Rattle.std.specs.Option.{option_and_then}
use Rattle.std.specs.Str.{chars}
use Rattle.rng_model.specs.names.Names.{is_ncname}
use Rattle.rng_model.specs.datatypes.Texts.{collapse, pieces, Value, number, text_if}
use Rattle.rng_model.specs.datatypes.Facets.{Lengths, Bounds, fits, is_within}
use Rattle.rng_model.specs.datatypes.Datatypes.{is_nmtoken}
use Rattle.rng_model.specs.xsd.Names.{replaced, is_name, is_language, is_qname}
use Rattle.rng_model.specs.xsd.Numbers.{written_integer}
use Rattle.rng_model.specs.xsd.Integers.{IntegerFacets, is_within_facets}

-- ---- texts

-- normalizedString (section 3.3.1): the text with each blank replaced, which has as many characters
abbrev pub xsd_normalized : Lengths → List ℕ → Option Value
xsd_normalized l s = text_if (fits l s) (replaced s)

-- a type whose values are the collapsed texts that pass a test
abbrev pub xsd_word : (List ℕ → Bool) → Lengths → List ℕ → Option Value
xsd_word is_word l s = text_if (is_word (collapse s) && fits l (collapse s)) (collapse s)

-- language, Name, and QName and NOTATION by their spelling (sections 3.3.3, 3.3.6, 3.2.18 and 3.2.19)
abbrev pub xsd_language : Lengths → List ℕ → Option Value
xsd_language = xsd_word is_language

abbrev pub xsd_name : Lengths → List ℕ → Option Value
xsd_name = xsd_word (λ w. is_name (chars w))

abbrev pub any_length : Lengths
any_length = record { least = None; greatest = None }

abbrev pub xsd_qname : List ℕ → Option Value
xsd_qname = xsd_word is_qname any_length

-- ---- lists: one item or more; the lengths count items (sections 3.3.5, 3.3.10, 3.3.12 and 4.3.1)

abbrev pub are_items : (List ℕ → Bool) → List (List ℕ) → Bool
are_items is_item [] = false
are_items is_item (p ∷ ps) = list_all is_item (p ∷ ps)

-- The value is the items. No item has a blank, so they are given by the text that has a space between each two.
abbrev pub xsd_list : (List ℕ → Bool) → Lengths → List ℕ → Option Value
xsd_list is_item l s = text_if (are_items is_item (pieces s) && is_within l (length (pieces s))) (collapse s)

-- NMTOKENS; IDREFS and ENTITIES
abbrev pub xsd_nmtokens : Lengths → List ℕ → Option Value
xsd_nmtokens = xsd_list (λ p. is_nmtoken (chars p))

abbrev pub xsd_ncnames : Lengths → List ℕ → Option Value
xsd_ncnames = xsd_list (λ p. is_ncname (chars p))

-- ---- integers: those from the least of the type to its greatest, within the facets (sections 3.3.13 to 3.3.25)

abbrev pub number_if : (ℤ → Bool) → ℤ → Option Value
number_if test n = if test n then Some (number n) else None

abbrev pub xsd_number : Bounds → IntegerFacets → List ℕ → Option Value
xsd_number b f s = option_and_then (number_if (is_within_facets b f)) (written_integer s)
