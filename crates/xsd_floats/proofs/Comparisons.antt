-- The comparisons of floats against those of the definitions, where the zeros are one.
use Rattle.std.proofs.Common.{◌≡◌, ℕ, zero, suc, ◌+◌, ◌*◌, ◌==◌, ◌&&◌, ◌||◌, not, ℤ, Bool, true, false, refl, sym, ap, ap₂, ◌∙◌, arith}
use Rattle.std.specs.Bool.{beq}
use Rattle.std.specs.Float.{Float, Format, nan, inf, fin}
use Rattle.std.proofs.Math.Bool.{or-false}
use Rattle.std.proofs.lemmas.Bool.{false_from_ne_true, ltb-true, eqb-true}
use Rattle.rng_model.proofs.Truths.{same_truth}
use lib.Ieee.{fits, eq, lt, is_nan, up, down, below, level}
use lib.Dec.{ltb, eqb-suc-zero}
use Rattle.rng_model.specs.xsd.primitives.Floats.{one_zero, same_float}
use Rattle.xsd_values.proofs.SameValues.{float_is, float_self}
use Rattle.xsd_floats.proofs.OddParts.{same_number, equal_numbers, product_pos}

-- ---- the same values

same_finite : (f : Format) (s t : Bool) (m n : ℕ) (d g : ℤ) → fits f (fin s m d) ≡ true → fits f (fin t n g) ≡ true
    → level s (m * up d * down g) t (n * up g * down d) ≡ same_float (one_zero (fin s m d)) (one_zero (fin t n g))
same_finite f s t m n d g p q =
    let x = one_zero (fin s m d) in
    let y = one_zero (fin t n g) in
    same_truth (level s (m * up d * down g) t (n * up g * down d)) (same_float x y)
    (λ e. ap (same_float x) (sym (same_number f s t m n d g p q e)) ∙ float_self x)
    (λ e. equal_numbers s t m n d g (float_is x y e))

-- numbers are the same if they are equal, and NaN is the same as NaN
pub same_values : (f : Format) (x y : Float) → fits f x ≡ true → fits f y ≡ true
    → (eq x y || (is_nan x && is_nan y)) ≡ same_float (one_zero x) (one_zero y)
unfolding eq is_nan
same_values f nan nan p q = refl
same_values f nan (inf t) p q = refl
same_values f nan (fin t n g) p q = refl
same_values f (inf s) nan p q = refl
same_values f (inf s) (inf t) p q = or-false (beq s t)
same_values f (inf s) (fin t n g) p q = refl
same_values f (fin s m d) nan p q = refl
same_values f (fin s m d) (inf t) p q = refl
same_values f (fin s m d) (fin t n g) p q =
    or-false (level s (m * up d * down g) t (n * up g * down d)) ∙ same_finite f s t m n d g p q

-- ---- less

nothing_below : (a : ℕ) → ltb a 0 ≡ false
nothing_below a = false_from_ne_true (ltb a 0) (λ e. omega (arith, ltb-true a 0 e))

-- without the sign of a zero
below_same : (s t : Bool) (a b : ℕ) → below (s && not (a == 0)) a (t && not (b == 0)) b ≡ below s a t b
below_same false false a b = refl
below_same false true a zero = nothing_below a
below_same false true a (suc b) = ap (λ z. below false a (not z) (suc b)) (eqb-suc-zero b)
below_same true false zero b = let e : b ≡ 0 + b = omega arith in ap (ltb 0) e
below_same true false (suc a) b = ap (λ z. below (not z) (suc a) false b) (eqb-suc-zero a)
below_same true true zero zero = refl
below_same true true zero (suc b) = ap (λ z. below false zero (not z) (suc b)) (eqb-suc-zero b) ∙ sym (nothing_below (suc b))
below_same true true (suc a) zero =
    let e : suc a + 0 ≡ suc a = omega arith in ap (λ z. below (not z) (suc a) false 0) (eqb-suc-zero a) ∙ ap (ltb 0) e
below_same true true (suc a) (suc b) = ap₂ (λ z w. below (not z) (suc a) (not w) (suc b)) (eqb-suc-zero a) (eqb-suc-zero b)

zero_product : (m : ℕ) (d g : ℤ) → (m == 0) ≡ (m * up d * down g == 0)
zero_product zero d g = let e : 0 ≡ zero * up d * down g = omega arith in ap (λ a. a == 0) e
zero_product (suc m) d g =
    eqb-suc-zero m ∙ sym (false_from_ne_true (suc m * up d * down g == 0) (λ e. omega (arith, eqb-true (suc m * up d * down g) 0 e, product_pos m d g)))

pub same_order : (x y : Float) → lt x y ≡ lt (one_zero x) (one_zero y)
unfolding lt
same_order nan y = refl
same_order (inf s) nan = refl
same_order (inf s) (inf t) = refl
same_order (inf s) (fin t n g) = refl
same_order (fin s m d) nan = refl
same_order (fin s m d) (inf t) = refl
same_order (fin s m d) (fin t n g) =
    let a = m * up d * down g in
    let b = n * up g * down d in
    sym (below_same s t a b) ∙ ap₂ (λ z w. below (s && not z) a (t && not w) b) (sym (zero_product m d g)) (sym (zero_product n g d))
