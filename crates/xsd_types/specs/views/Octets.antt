-- The values of texts in the types of octets.
use Rattle.std.specs.Prelude.{ℕ, List, Option}
use Rattle.std.specs.Option.{option_and_then}
use Rattle.rng_model.specs.datatypes.Texts.{collapse, text}
use Rattle.rng_model.specs.datatypes.Facets.{Lengths, is_within}
use Rattle.rng_model.specs.datatypes.Datatypes.{Meaning}
use Rattle.rng_model.specs.xsd.primitives.Octets.{hex_binary_of, hex_length, base64_binary_of, base64_length}
use Rattle.rng_model.specs.xsd.primitives.Types.{value_if}
use Rattle.xsd_types.specs.declared.octets.OctetKind.{OctetKind}
use Rattle.xsd_types.specs.declared.octets.OctetKind.TheVariants as kinds

-- the octets that a collapsed text writes, and how many they are
abbrev pub octets_of : OctetKind → List ℕ → Option (List ℕ)
octets_of kinds.Hex = hex_binary_of
octets_of kinds.Base64 = base64_binary_of

abbrev pub length_of : OctetKind → List ℕ → ℕ
length_of kinds.Hex = hex_length
length_of kinds.Base64 = base64_length

abbrev pub octets_by : OctetKind → Lengths → Meaning
octets_by k l s = option_and_then (value_if text (λ o. is_within l (length_of k o))) (octets_of k (collapse s))
