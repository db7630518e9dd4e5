-- The parameters that the primitive types take whose values are numbers, moments, durations or octets, and the value of each text
-- (XML Schema Part 2, Second Edition, sections 3.2.3 to 3.2.16).
use Rattle.std.specs.Prelude.{ℕ, List, [], Bool, Option, Some, None, if◌then◌else◌}
use Rattle.std.specs.Option.{option_map, option_and_then}
use Rattle.rng_model.specs.datatypes.Texts.{collapse, Value, text}
use Rattle.rng_model.specs.datatypes.Facets.{is_within}
use Rattle.rng_model.specs.datatypes.Datatypes.{Maker}
use Rattle.rng_model.specs.xsd.Facets.{written_lengths}
use Rattle.rng_model.specs.xsd.Limits.{Ordered, is_within_limits, written_limits}
use Rattle.rng_model.specs.xsd.primitives.Decimals.{decimals, is_within_decimal_facets, written_decimal_facets}
use Rattle.rng_model.specs.xsd.primitives.Values.{decimal}

-- ---- with facets

-- the value, if it passes the test
abbrev pub value_if : {A : Type 0} → (A → Value) → (A → Bool) → A → Option Value
value_if value test a = if test a then Some (value a) else None

-- the type takes the four bounds
abbrev pub with_limits : {A : Type 0} → (A → Value) → Ordered A → Maker
with_limits value t ps = option_map (λ l s. option_and_then (value_if value (is_within_limits t l)) (t.value_of s)) (written_limits t [] ps)

-- the type takes the four bounds and the facets on digits
abbrev pub with_decimal_facets : Maker
with_decimal_facets ps =
    option_map (λ f s. option_and_then (value_if decimal (is_within_decimal_facets f)) (decimals.value_of s)) (written_decimal_facets ps)

-- the type takes lengths, which count octets (section 4.3.1)
abbrev pub with_octets : (List ℕ → Option (List ℕ)) → (List ℕ → ℕ) → Maker
with_octets octets_of length_of ps =
    option_map (λ l s. option_and_then (value_if text (λ o. is_within l (length_of o))) (octets_of (collapse s))) (written_lengths 0 ps)
