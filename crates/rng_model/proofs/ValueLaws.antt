-- The laws of values: texts that are equal are allowed, and equality on allowed texts is an equivalence.
use Rattle.std.proofs.Common.{◌≡◌, ℕ, List, Bool, true, false, Option, Some, None, is_some, IsTrue, refl, sym, ap, ◌∙◌, rules}
use Rattle.std.specs.Bool.{beq}
use Rattle.std.proofs.lemmas.Slice.Eq.{bytes_eq-Decides}
use Rattle.std.proofs.lemmas.Bool.Decides.{Decides-int_eq}
use Rattle.rng_model.specs.datatypes.Texts.{Value, text, truth, number, numbers, same_value, are_equal}
use Rattle.rng_model.specs.datatypes.Datatypes.{Meaning, is_allowed_by, are_equal_by, known_allows}

-- what allows a text is known
pub known_if_allowed : (o : Option Meaning) (v : List ℕ) → IsTrue (known_allows o v) → IsTrue (is_some o)
known_if_allowed None v allowed = allowed
known_if_allowed (Some meaning) v allowed = refl

same_truth : (a b : Bool) → beq a b ≡ true → a ≡ b
same_truth true true e = refl
same_truth true false e = search rules
same_truth false true e = search rules
same_truth false false e = refl

-- values that pass the test are equal
pub same_value-is : (a b : Value) → same_value a b ≡ true → a ≡ b
same_value-is (text v) (text w) e = ap text ((bytes_eq-Decides v w).0 e)
same_value-is (text v) (truth b) e = search rules
same_value-is (text v) (number n) e = search rules
same_value-is (truth a) (text w) e = search rules
same_value-is (truth a) (truth b) e = ap truth (same_truth a b e)
same_value-is (truth a) (number n) e = search rules
same_value-is (number m) (text w) e = search rules
same_value-is (number m) (truth b) e = search rules
same_value-is (number m) (number n) e = ap number ((Decides-int_eq m n).0 e)
same_value-is (text v) (numbers w) e = search rules
same_value-is (truth a) (numbers w) e = search rules
same_value-is (number m) (numbers w) e = search rules
same_value-is (numbers v) (text w) e = search rules
same_value-is (numbers v) (truth b) e = search rules
same_value-is (numbers v) (number n) e = search rules
same_value-is (numbers v) (numbers w) e = ap numbers ((bytes_eq-Decides v w).0 e)

pub same_value-self : (a : Value) → same_value a a ≡ true
same_value-self (text v) = (bytes_eq-Decides v v).1 refl
same_value-self (truth true) = refl
same_value-self (truth false) = refl
same_value-self (number m) = (Decides-int_eq m m).1 refl
same_value-self (numbers v) = (bytes_eq-Decides v v).1 refl

-- two equal texts have the same value
pub are_equal-is : (a b : Option Value) → are_equal a b ≡ true → a ≡ b
are_equal-is None b e = search rules
are_equal-is (Some a) None e = search rules
are_equal-is (Some a) (Some b) e = ap Some (same_value-is a b e)

are_equal-self : (a : Option Value) → is_some a ≡ true → are_equal a a ≡ true
are_equal-self None e = search rules
are_equal-self (Some a) e = same_value-self a

left_stands : (a b : Option Value) → are_equal a b ≡ true → is_some a ≡ true
left_stands None b e = e
left_stands (Some a) b e = refl

module _ (t : Meaning) where
  pub equal_reflexive : (v : List ℕ) → is_allowed_by t v ≡ true → are_equal_by t v v ≡ true
  equal_reflexive v e = are_equal-self (t v) e

  left_allowed : (v w : List ℕ) → are_equal_by t v w ≡ true → is_allowed_by t v ≡ true
  left_allowed v w e = left_stands (t v) (t w) e

  same : (v w : List ℕ) → are_equal_by t v w ≡ true → t v ≡ t w
  same v w e = are_equal-is (t v) (t w) e

  pub equal_allowed : (v w : List ℕ) → are_equal_by t v w ≡ true → (is_allowed_by t v ≡ true) × (is_allowed_by t w ≡ true)
  equal_allowed v w e = (left_allowed v w e, ap is_some (sym (same v w e)) ∙ left_allowed v w e)

  pub equal_symmetric : (v w : List ℕ) → are_equal_by t v w ≡ true → are_equal_by t w v ≡ true
  equal_symmetric v w e = ap (λ x. are_equal x (t v)) (sym (same v w e)) ∙ equal_reflexive v (left_allowed v w e)

  pub equal_transitive : (u v w : List ℕ) → are_equal_by t u v ≡ true → are_equal_by t v w ≡ true → are_equal_by t u w ≡ true
  equal_transitive u v w e f = ap (λ x. are_equal x (t w)) (same u v e) ∙ f
