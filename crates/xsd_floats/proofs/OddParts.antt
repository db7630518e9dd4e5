-- A number is an odd one times a power of two in one way, so two floats that are equal as numbers are the same.
use Rattle.std.proofs.Common.{◌≡◌, ◌⊎◌, inl, inr, ℕ, zero, suc, ◌*◌, ◌%◌, ◌^◌, ◌<◌, ◌==◌, ◌&&◌, ◌||◌, not, ℤ, pos, negsuc, Bool, true, false, refl, sym, ap, ap₂, ◌∙◌, subst, arith}
use Rattle.std.specs.Bool.{beq}
use Rattle.std.specs.Cmp.{booleans_Decides}
use Rattle.std.specs.Float.{Format, fin}
use Rattle.std.proofs.Math.Nat.{pow-succ', mul-pos}
use Rattle.std.proofs.lemmas.Bool.{and_parts, and_from, and_right, or_cases, or_left, or_right, eqb-true}
use Rattle.std.proofs.lemmas.Bool.Decides.{Decides-eqb}
use lib.Ieee.{fits, up, down, level}
use lib.Ieee.Fits.{up_pos, down_pos}
use lib.Dec.{eqb-suc-zero}
use Rattle.rng_model.specs.xsd.primitives.Floats.{one_zero}

-- ---- odd numbers times powers of two

shifted : (n b : ℕ) → n * 2 ^ suc b ≡ 2 * (n * 2 ^ b)
shifted n b = let e : n * 2 ^ suc b ≡ n * (2 * 2 ^ b) = ap (λ k. n * k) (pow-succ' 2 b) in e ∙ omega arith

not_odd : {A : Type 0} (m n b : ℕ) → m % 2 ≡ 1 → m ≡ n * 2 ^ suc b → A
not_odd m n b odd e = let twice : m ≡ 2 * (n * 2 ^ b) = e ∙ shifted n b in absurd (omega arith)

same_odd : (m n a b : ℕ) → m % 2 ≡ 1 → n % 2 ≡ 1 → m * 2 ^ a ≡ n * 2 ^ b → (m ≡ n) × (a ≡ b)
same_odd m n zero zero p q e = let h : m * 1 ≡ n * 1 = e in (omega arith, refl)
same_odd m n zero (suc b) p q e = let h : m * 1 ≡ n * 2 ^ suc b = e in let i : m ≡ m * 1 = omega arith in not_odd m n b p (i ∙ h)
same_odd m n (suc a) zero p q e = let h : m * 2 ^ suc a ≡ n * 1 = e in let i : n ≡ n * 1 = omega arith in not_odd n m a q (i ∙ sym h)
same_odd m n (suc a) (suc b) p q e =
    let twice : 2 * (m * 2 ^ a) ≡ 2 * (n * 2 ^ b) = sym (shifted m a) ∙ e ∙ shifted n b in
    let h : m * 2 ^ a ≡ n * 2 ^ b = omega arith in
    let r = same_odd m n a b p q h in
    (r.0, ap suc r.1)

same_parts : (m n : ℕ) (d g : ℤ) → m % 2 ≡ 1 → n % 2 ≡ 1 → m * up d * down g ≡ n * up g * down d → (m ≡ n) × (d ≡ g)
same_parts m n (pos k) (pos l) p q e =
    let h : m * 2 ^ k ≡ n * 2 ^ l = omega arith in
    let r = same_odd m n k l p q h in
    (r.0, ap pos r.1)
same_parts m n (pos k) (negsuc l) p q e =
    let h : m * 2 ^ k * 2 ^ suc l ≡ n * 1 * 1 = e in
    let i : n ≡ n * 1 * 1 = omega arith in
    not_odd n (m * 2 ^ k) l q (i ∙ sym h)
same_parts m n (negsuc k) (pos l) p q e =
    let h : m * 1 * 1 ≡ n * 2 ^ l * 2 ^ suc k = e in
    let i : m ≡ m * 1 * 1 = omega arith in
    not_odd m (n * 2 ^ l) k p (i ∙ h)
same_parts m n (negsuc k) (negsuc l) p q e =
    let h : m * 2 ^ suc l ≡ n * 2 ^ suc k = omega arith in
    let r = same_odd m n (suc l) (suc k) p q h in
    let i : k ≡ l = omega arith in
    (r.0, ap negsuc i)

-- ---- what a format holds

-- an exponent at which the value is the significand
one_exponent : (d : ℤ) → up d * down d ≡ 1 → d ≡ pos 0
one_exponent (pos zero) e = refl
one_exponent (pos (suc k)) e =
    let h : 2 ^ suc k * 1 ≡ 1 = e in
    let i : 1 ≡ 1 * 2 ^ suc k = omega arith in
    not_odd 1 1 k refl i
one_exponent (negsuc k) e =
    let h : 1 * 2 ^ suc k ≡ 1 = e in
    let i : 1 ≡ 1 * 2 ^ suc k = omega arith in
    not_odd 1 1 k refl i

zero_exponent : (f : Format) (s : Bool) (d : ℤ) → fits f (fin s zero d) ≡ true → d ≡ pos 0
unfolding fits
zero_exponent f s d fit = one_exponent d (eqb-true (up d * down d) 1 fit)

is_odd : (f : Format) (s : Bool) (m : ℕ) (d : ℤ) → fits f (fin s (suc m) d) ≡ true → suc m % 2 ≡ 1
unfolding fits
is_odd f s m d fit = eqb-true (suc m % 2) 1 (and_parts _ _ (and_parts _ _ (and_parts _ _ fit).0).0).0

pub product_pos : (m : ℕ) (d g : ℤ) → 0 < suc m * up d * down g
product_pos m d g =
    let one : 0 < suc m = omega arith in
    mul-pos (mul-pos one (up_pos d)) (down_pos g)

-- ---- equal as numbers

same_fin : {s t : Bool} {m n : ℕ} {d g : ℤ} → s ≡ t → m ≡ n → d ≡ g → fin s m d ≡ fin t n g
same_fin p q r = cc

no_sign : (s : Bool) → (s && not (zero == zero)) ≡ false
no_sign s = and_right s (not (zero == zero)) refl

-- a number and its sign
level_parts : (s t : Bool) (a b : ℕ) → level s a t b ≡ true → (a ≡ b) × ((a ≡ 0) ⊎ (s ≡ t))
level_parts s t a b e =
    let both = and_parts (a == b) (beq s t || (a == 0)) e in (
      eqb-true a b both.0,
      elim (or_cases (beq s t) (a == 0) both.1) [ inl same ↦ inr ((booleans_Decides s t).0 same) | inr none ↦ inl (eqb-true a 0 none) ],
    )

-- two finite numbers of a format that are equal are the same
pub same_number : (f : Format) (s t : Bool) (m n : ℕ) (d g : ℤ) → fits f (fin s m d) ≡ true → fits f (fin t n g) ≡ true
    → level s (m * up d * down g) t (n * up g * down d) ≡ true → one_zero (fin s m d) ≡ one_zero (fin t n g)
same_number f s t zero zero d g p q e =
    same_fin (no_sign s ∙ sym (no_sign t)) refl (zero_exponent f s d p ∙ sym (zero_exponent f t g q))
same_number f s t zero (suc n) d g p q e =
    let both = level_parts s t (zero * up d * down g) (suc n * up g * down d) e in
    let none : zero * up d * down g ≡ 0 = omega arith in
    absurd (omega (arith, both.0, none, product_pos n g d))
same_number f s t (suc m) zero d g p q e =
    let both = level_parts s t (suc m * up d * down g) (zero * up g * down d) e in
    let none : zero * up g * down d ≡ 0 = omega arith in
    absurd (omega (arith, both.0, none, product_pos m d g))
same_number f s t (suc m) (suc n) d g p q e =
    let both = level_parts s t (suc m * up d * down g) (suc n * up g * down d) e in
    let parts = same_parts (suc m) (suc n) d g (is_odd f s m d p) (is_odd f t n g q) both.0 in
    elim both.1 [
      | inl none ↦ absurd (omega (arith, none, product_pos m d g))
      | inr sign ↦ same_fin (ap₂ (λ r k. r && not (k == 0)) sign parts.0) parts.0 parts.1
    ]

-- the sign of a number other than zero stays
kept_sign : (s : Bool) (m : ℕ) → (s && not (suc m == 0)) ≡ s
kept_sign true m = ap not (eqb-suc-zero m)
kept_sign false m = refl

level_self : (s t : Bool) (m : ℕ) (d : ℤ) → (s && not (m == 0)) ≡ (t && not (m == 0)) → level s (m * up d * down d) t (m * up d * down d) ≡ true
level_self s t zero d e =
    let a = zero * up d * down d in
    let none : a ≡ 0 = omega arith in
    and_from (a == a) (beq s t || (a == 0)) ((Decides-eqb a a).1 refl) (or_right (beq s t) (a == 0) ((Decides-eqb a 0).1 none))
level_self s t (suc m) d e =
    let a = suc m * up d * down d in
    let sign : s ≡ t = sym (kept_sign s m) ∙ e ∙ kept_sign t m in
    and_from (a == a) (beq s t || (a == 0)) ((Decides-eqb a a).1 refl) (or_left (beq s t) (a == 0) (subst (λ r. beq s r ≡ true) sign ((booleans_Decides s s).1 refl)))

-- and those that are the same are equal
pub equal_numbers : (s t : Bool) (m n : ℕ) (d g : ℤ) → one_zero (fin s m d) ≡ one_zero (fin t n g) → level s (m * up d * down g) t (n * up g * down d) ≡ true
equal_numbers s t m n d g e =
    let same_m : m ≡ n = cc in
    let same_d : d ≡ g = cc in
    let sign : (s && not (m == 0)) ≡ (t && not (n == 0)) = cc in
    subst (λ x. level s (m * up d * down x) t (n * up x * down d) ≡ true) same_d
    (subst (λ k. level s (m * up d * down d) t (k * up d * down d) ≡ true) same_m
    (level_self s t m d (sign ∙ ap (λ k. t && not (k == 0)) (sym same_m))))
