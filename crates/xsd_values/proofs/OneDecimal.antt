-- A number is written in one way: two decimals that are canonical and denote the same number are the same.
use Rattle.std.proofs.Common.{◌≡◌, ◌≢◌, inl, inr, ◌≤◌, ◌<◌, ℕ, zero, suc, ◌+◌, ◌-◌, ◌*◌, ◌%◌, ◌^◌, Bool, true, false, refl, sym, ap, ap₂, ◌∙◌, arith}
use Rattle.std.proofs.Common.{ℤ, pos, negsuc, neg_ℤ, ◌*ℤ◌, nat_abs, subst, pow-suc, pow-add, mul_assoc, mul_comm}
use Rattle.std.proofs.Math.Nat.{one-le-pow, eq_of_mul-eq-mul_right}
use Rattle.std.proofs.lemmas.Bool.{false≢true, cases_lt}
use Rattle.rng_model.specs.xsd.primitives.Decimals.{Decimal, scaled}
use Rattle.rng_model.specs.plain.OneDecimal.{IsCanonical}

-- ---- integers times a power of 10

pub abs_negated : (a : ℤ) → nat_abs (neg_ℤ a) ≡ nat_abs a
abs_negated (pos zero) = refl
abs_negated (pos (suc n)) = refl
abs_negated (negsuc n) = refl

pub abs_times : (a : ℤ) (n : ℕ) → nat_abs (a *ℤ pos n) ≡ nat_abs a * n
abs_times (pos m) n = refl
abs_times (negsuc m) n = abs_negated (pos (suc m * n))

pub ten_pow : (n : ℕ) → 0 < 10 ^ n
ten_pow n = one-le-pow n 10 (omega arith)

shifted : (m n p k : ℕ) → m * 10 ^ (p + suc k) ≡ n * 10 ^ p → m * 10 ^ suc k ≡ n
shifted m n p k e =
    let whole : 10 ^ (p + suc k) ≡ 10 ^ p * 10 ^ suc k = pow-add 10 p (suc k) in
    let turned : 10 ^ suc k * 10 ^ p ≡ 10 ^ (p + suc k) = mul_comm (10 ^ suc k) (10 ^ p) ∙ sym whole in
    eq_of_mul-eq-mul_right (10 ^ p) (ten_pow p) (m * 10 ^ suc k) n (mul_assoc m (10 ^ suc k) (10 ^ p) ∙ (ap (λ x. m * x) turned ∙ e))

-- with fewer places, the other number ends in 0
ends_in_zero : (m n p k : ℕ) → m * 10 ^ (p + suc k) ≡ n * 10 ^ p → n % 10 ≡ 0
ends_in_zero m n p k e =
    let tens : 10 ^ suc k ≡ 10 ^ k * 10 = pow-suc 10 k in
    let is : m * 10 ^ k * 10 ≡ n = mul_assoc m (10 ^ k) 10 ∙ (ap (λ x. m * x) (sym tens) ∙ shifted m n p k e) in
    by_tens (m * 10 ^ k) n is
  where
    by_tens : (x n : ℕ) → x * 10 ≡ n → n % 10 ≡ 0
    by_tens x n e = omega (arith, e)

-- a number that does not end in 0 has no more places than another form of it
pub no_more_places : (m n p q : ℕ) → m * 10 ^ q ≡ n * 10 ^ p → (0 < q → n % 10 ≢ 0) → q ≤ p
no_more_places m n p q e is = elim (cases_lt p q) [ inl h ↦ more h | inr h ↦ h ]
  where
    more : p < q → q ≤ p
    more h =
        let parts : q ≡ p + suc (q - suc p) = omega (arith, h) in
        absurd (is (omega (arith, h)) (ends_in_zero m n p (q - suc p) (subst (λ x. m * 10 ^ x ≡ n * 10 ^ p) parts e)))

-- ---- one way

abbrev is_negative : ℤ → Bool
is_negative (pos n) = false
is_negative (negsuc n) = true

negative_is : (n : ℕ) → 0 < n → is_negative (neg_ℤ (pos n)) ≡ true
negative_is zero h = absurd (omega (arith, h))
negative_is (suc n) h = refl

unlike : (m n t : ℕ) → 0 < t → pos m ≡ neg_ℤ (pos (suc n * t)) → ⊥
unlike m n t h e = false≢true (ap is_negative e ∙ negative_is (suc n * t) (omega (arith, h)))

cancelled : (x y : ℤ) (t : ℕ) → 0 < t → x *ℤ pos t ≡ y *ℤ pos t → x ≡ y
cancelled (pos m) (pos n) t h e = ap pos (eq_of_mul-eq-mul_right t h m n (ap nat_abs e))
cancelled (pos m) (negsuc n) t h e = absurd (unlike (m * t) n t h e)
cancelled (negsuc m) (pos n) t h e = absurd (unlike (n * t) m t h (sym e))
cancelled (negsuc m) (negsuc n) t h e =
    let sizes : suc m * t ≡ suc n * t = sym (abs_negated (pos (suc m * t))) ∙ (ap nat_abs e ∙ abs_negated (pos (suc n * t))) in
    let same : suc m ≡ suc n = eq_of_mul-eq-mul_right t h (suc m) (suc n) sizes in
    ap negsuc (omega (arith, same))

abbrev made : ℤ → ℕ → Decimal
made units places = record { units = units; places = places }

pub one_decimal : (a b : Decimal) → IsCanonical a → IsCanonical b → scaled a b ≡ scaled b a → a ≡ b
one_decimal a b is_a is_b e =
    let sizes : nat_abs a.units * 10 ^ b.places ≡ nat_abs b.units * 10 ^ a.places =
    sym (abs_times a.units (10 ^ b.places)) ∙ (ap nat_abs e ∙ abs_times b.units (10 ^ a.places)) in
    let at_most : b.places ≤ a.places = no_more_places (nat_abs a.units) (nat_abs b.units) a.places b.places sizes is_b in
    let at_least : a.places ≤ b.places = no_more_places (nat_abs b.units) (nat_abs a.units) b.places a.places (sym sizes) is_a in
    let places : a.places ≡ b.places = omega (arith, at_most, at_least) in
    let units : a.units ≡ b.units = cancelled a.units b.units (10 ^ b.places) (ten_pow b.places) (e ∙ ap (λ n. b.units *ℤ pos (10 ^ n)) places) in
    ap₂ made units places
