-- Values that pass a test: two are equal exactly if they are the same, and one passes.
use Rattle.std.proofs.Common.{◌≡◌, ◌&&◌, Bool, true, false, refl, ap, ◌∙◌, rules}
use Rattle.rng_model.specs.datatypes.Texts.{Value, are_equal, same_value}
use Rattle.rng_model.specs.xsd.primitives.Decimals.{Decimal}
use Rattle.rng_model.specs.plain.OneDecimal.{same_decimal}
use Rattle.rng_model.specs.xsd.primitives.Types.{value_if}
use Rattle.rng_model.specs.xsd.primitives.Values.{decimal}
use Rattle.xsd_values.proofs.SameValues.{one_decimal, same_decimal_value}

module _ {A : Type 0} (value : A → Value) (one : (a b : A) → same_value (value a) (value b) ≡ true → a ≡ b) (test : A → Bool) where
  pub equal_if : (a b : A) → are_equal (value_if value test a) (value_if value test b) ≡ (same_value (value a) (value b) && test a)
  equal_if a b = at_tests (test a) (test b) (same_value (value a) (value b)) refl refl refl
    where
      at_tests : (f g s : Bool) → test a ≡ f → test b ≡ g → same_value (value a) (value b) ≡ s
          → are_equal (value_if value test a) (value_if value test b) ≡ (same_value (value a) (value b) && test a)
      at_tests true true true e k h = search rules
      at_tests true true false e k h = search rules
      at_tests true false true e k h = search rules
      at_tests true false false e k h = search rules
      at_tests false g true e k h = search rules
      at_tests false g false e k h = search rules

pub decimals_if : (test : Decimal → Bool) (a b : Decimal) → are_equal (value_if decimal test a) (value_if decimal test b) ≡ (same_decimal a b && test a)
decimals_if test a b = equal_if decimal one_decimal test a b ∙ ap (λ s. s && test a) (same_decimal_value a b)
