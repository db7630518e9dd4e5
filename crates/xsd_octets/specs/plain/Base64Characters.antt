-- The characters of a text that writes octets as base64Binary.
use Rattle.std.specs.Prelude.{ℕ, List, length, not}
use Rattle.std.specs.List.{filter}
use Rattle.rng_model.specs.xsd.primitives.Octets.{is_padding}

-- how many of the characters are no padding
abbrev pub character_count : List ℕ → ℕ
character_count cs = length (filter (λ c. not (is_padding c)) cs)
