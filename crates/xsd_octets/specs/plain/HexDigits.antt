-- The digits of a text that writes octets as hexBinary.
use Rattle.std.specs.Prelude.{◌≡◌, ℕ, List, true}
use Rattle.rng_model.specs.datatypes.Texts.{collapse}
use Rattle.rng_model.specs.xsd.primitives.Octets.{are_hex_pairs}

-- the text collapses to these digits, two for each octet
pub record AreDigitsOf (s digits : List ℕ) : Type 0 where
  pub is : collapse s ≡ digits
  pub pairs : are_hex_pairs digits ≡ true
