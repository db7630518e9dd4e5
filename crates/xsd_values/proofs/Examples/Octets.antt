-- Worked cases of hexBinary and base64Binary, which the checker computes.
use Rattle.std.proofs.Common.{codes, ◌≡◌, [], ◌∷◌, refl, true, false, Some, None}
use Rattle.rng_model.specs.datatypes.Texts.{collapse, pieces}
use Rattle.rng_model.specs.xsd.Numbers.{integer_of}
use Rattle.rng_model.specs.xsd.Facets.{written_lengths}
use Rattle.rng_model.specs.xsd.primitives.Octets.{hex_binary_of, base64_binary_of}
use Rattle.rng_model.specs.regexes.Patterns.{patterns_of}
use Rattle.xsd_values.proofs.Examples.Tables.{allows, equates}

-- ---- hexBinary: 0FB7 writes the 16 bits of 4023 (section 3.2.15.1)

two_octets : hex_binary_of (codes "0FB7") ≡ Some (codes "0FB7")
unfolding hex_binary_of
two_octets = refl

no_octets : hex_binary_of [] ≡ Some []
unfolding hex_binary_of
no_octets = refl

half_octet : hex_binary_of (codes "0") ≡ None
unfolding hex_binary_of
half_octet = refl

blank_inside : allows (codes "hexBinary") [] (codes "0 0") ≡ false
unfolding collapse pieces hex_binary_of written_lengths patterns_of
blank_inside = refl

other_letters : hex_binary_of (codes "zz") ≡ None
unfolding hex_binary_of
other_letters = refl

capitals : equates (codes "hexBinary") (codes "aF") (codes " Af ") ≡ true
unfolding collapse pieces hex_binary_of written_lengths patterns_of
capitals = refl

counted_octets : allows (codes "hexBinary") ((codes "length", codes "2") ∷ []) (codes "0000") ≡ true
unfolding collapse pieces hex_binary_of integer_of written_lengths patterns_of
counted_octets = refl

counted_digits : allows (codes "hexBinary") ((codes "length", codes "2") ∷ []) (codes "00") ≡ false
unfolding collapse pieces hex_binary_of integer_of written_lengths patterns_of
counted_digits = refl

-- ---- base64Binary (section 3.2.16)

no_groups : base64_binary_of [] ≡ Some []
unfolding base64_binary_of
no_groups = refl

three_octets : base64_binary_of (codes "AAAA") ≡ Some (codes "AAAA")
unfolding base64_binary_of
three_octets = refl

one_octet : base64_binary_of (codes "AA==") ≡ Some (codes "AA==")
unfolding base64_binary_of
one_octet = refl

unused_bits : base64_binary_of (codes "AB==") ≡ None
unfolding base64_binary_of
unused_bits = refl

unused_bit : base64_binary_of (codes "AAB=") ≡ None
unfolding base64_binary_of
unused_bit = refl

three_paddings : base64_binary_of (codes "A===") ≡ None
unfolding base64_binary_of
three_paddings = refl

padding_inside : base64_binary_of (codes "AA=A") ≡ None
unfolding base64_binary_of
padding_inside = refl

padding_before : base64_binary_of (codes "AA==AAAA") ≡ None
unfolding base64_binary_of
padding_before = refl

half_group : base64_binary_of (codes "AA") ≡ None
unfolding base64_binary_of
half_group = refl

blanks : equates (codes "base64Binary") (codes "AA==") (codes " A A = = ") ≡ true
unfolding collapse pieces base64_binary_of written_lengths patterns_of
blanks = refl

at_most_one : allows (codes "base64Binary") ((codes "maxLength", codes "1") ∷ []) (codes "AA==") ≡ true
unfolding collapse pieces base64_binary_of integer_of written_lengths patterns_of
at_most_one = refl

two_are_more : allows (codes "base64Binary") ((codes "maxLength", codes "1") ∷ []) (codes "AAA=") ≡ false
unfolding collapse pieces base64_binary_of integer_of written_lengths patterns_of
two_are_more = refl
