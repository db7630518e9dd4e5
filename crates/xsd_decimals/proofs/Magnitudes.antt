-- Numbers without their signs, compared from the front.
use Rattle.std.proofs.Common.{◌≡◌, ◌≢◌, ℕ, zero, suc, ◌+◌, ◌*◌, ◌^◌, ◌<◌, ◌≤◌, List, [], ◌∷◌, ◌++◌, length, Bool, true, false, ◌&&◌, nat_lt, Less, Equal, Greater, Ordering}
use Rattle.std.proofs.Common.{refl, sym, ap, ap₂, ◌∙◌, subst, rules, arith, tests, true≢false, append_assoc, length-append, pow-suc, mul_assoc, mul_comm}
use Rattle.std.specs.Char.{is_ascii_digit, digit_value}
use Rattle.std.specs.List.{list_all}
use Rattle.std.specs.Cmp.{nat_cmp_is}
use Rattle.std.specs.Cmp.Lexicographic.{slice_cmp}
use Rattle.std.specs.Ordering.{nat_cmp, ordering_then}
use Rattle.std.specs.Str.Parse.{digits_value, digits_value_after}
use Rattle.std.proofs.lemmas.Bool.{and_from}
use Rattle.std.proofs.lemmas.List.Folds.{list_all-append}
use Rattle.rng_model.specs.xsd.primitives.Decimals.{is_zero_digit, significant}
use Rattle.xsd_decimals.specs.plain.Numbers.{AreWhole, AreFraction}
use Rattle.xsd_decimals.proofs.ComparedDigits.{AreDigits, first_digit, more_digits, above_zero, same_length, less_by_length}
use Rattle.xsd_decimals.proofs.Zeros.{not_zeros, further}

-- ---- digits with zeros behind them

zeros : ℕ → List ℕ
zeros zero = []
zeros (suc n) = 48 ∷ zeros n

length-zeros : (n : ℕ) → length (zeros n) ≡ n
unfolding zeros
length-zeros zero = refl
length-zeros (suc n) = ap suc (length-zeros n)

digits-zeros : (n : ℕ) → AreDigits (zeros n)
unfolding zeros
digits-zeros zero = refl
digits-zeros (suc n) = digits-zeros n

pub value-append : (m : ℕ) (ds cs : List ℕ) → digits_value_after 10 m (ds ++ cs) ≡ digits_value_after 10 (digits_value_after 10 m ds) cs
value-append m [] cs = refl
value-append m (d ∷ ds) cs = value-append (m * 10 + digit_value d) ds cs

tens : (m n : ℕ) → (m * 10 + 0) * 10 ^ n ≡ m * 10 ^ suc n
tens m n = ap (λ x. x * 10 ^ n) (right_zero (m * 10)) ∙ mul_assoc m 10 (10 ^ n) ∙ ap (λ x. m * x) (mul_comm 10 (10 ^ n) ∙ sym (pow-suc 10 n))
  where
    right_zero : (k : ℕ) → k + 0 ≡ k
    right_zero k = omega arith

value-zeros : (m n : ℕ) → digits_value_after 10 m (zeros n) ≡ m * 10 ^ n
unfolding zeros
value-zeros m zero = one m
  where
    one : (m : ℕ) → m ≡ m * 1
    one m = omega arith
value-zeros m (suc n) = value-zeros (m * 10 + 0) n ∙ tens m n

-- each zero behind digits multiplies by 10
value-scaled : (ds : List ℕ) (n : ℕ) → digits_value 10 (ds ++ zeros n) ≡ digits_value 10 ds * 10 ^ n
value-scaled ds n = value-append 0 ds (zeros n) ∙ value-zeros (digits_value 10 ds) n

-- ---- the order of fractions

same_zeros : (n : ℕ) → slice_cmp nat_cmp (zeros n) (zeros n) ≡ Equal
unfolding zeros
same_zeros zero = refl
same_zeros (suc n) = same_zeros n

-- zeros are less than digits that are not all zeros
zeros_less : (n k : ℕ) (ds : List ℕ) → AreDigits ds → list_all is_zero_digit ds ≡ false → n ≡ length ds + k
    → (slice_cmp nat_cmp (zeros n) (ds ++ zeros k) ≡ Less) × (slice_cmp nat_cmp (ds ++ zeros k) (zeros n) ≡ Greater)
unfolding zeros
zeros_less n k [] is other same = absurd (true≢false other)
zeros_less zero k (d ∷ ds) is other same = absurd (omega (arith, same))
zeros_less (suc n) k (d ∷ ds) is other same =
    by_zero (is_zero_digit d) refl (λ more. zeros_less n k ds (more_digits d ds is) more (omega (arith, same)))
  where
    by_zero : (b : Bool) → is_zero_digit d ≡ b
        → (list_all is_zero_digit ds ≡ false → (slice_cmp nat_cmp (zeros n) (ds ++ zeros k) ≡ Less) × (slice_cmp nat_cmp (ds ++ zeros k) (zeros n) ≡ Greater))
        → (slice_cmp nat_cmp (48 ∷ zeros n) (d ∷ (ds ++ zeros k)) ≡ Less) × (slice_cmp nat_cmp (d ∷ (ds ++ zeros k)) (48 ∷ zeros n) ≡ Greater)
    by_zero true e more =
        let here : d ≡ 48 = search (rules, tests, arith) in
        let behind = more (sym (ap (λ b. b && list_all is_zero_digit ds) e) ∙ other) in (
          ap (λ x. ordering_then (nat_cmp 48 x) (slice_cmp nat_cmp (zeros n) (ds ++ zeros k))) here ∙ behind.0,
          ap (λ x. ordering_then (nat_cmp x 48) (slice_cmp nat_cmp (ds ++ zeros k) (zeros n))) here ∙ behind.1,
        )
    by_zero false e more =
        let digit = first_digit d ds is in
        let some : 0 < digit_value d = above_zero d digit e in
        let above : 48 < d = omega (arith, some, digit.value) in (
          ap (λ r. ordering_then r (slice_cmp nat_cmp (zeros n) (ds ++ zeros k))) (sym (nat_cmp_is 48 d Less above)),
          ap (λ r. ordering_then r (slice_cmp nat_cmp (ds ++ zeros k) (zeros n))) (sym (nat_cmp_is d 48 Greater above)),
        )

-- fractions are ordered as texts are
fractions : (xs ys : List ℕ) (m n : ℕ) → AreDigits xs → AreDigits ys → significant xs ≡ xs → significant ys ≡ ys → length xs + m ≡ length ys + n
    → slice_cmp nat_cmp (xs ++ zeros m) (ys ++ zeros n) ≡ slice_cmp nat_cmp xs ys
fractions [] [] m n is js xe ye same = ap (λ k. slice_cmp nat_cmp (zeros m) (zeros k)) (sym same_counts) ∙ same_zeros m
  where
    same_counts : m ≡ n
    same_counts = omega (arith, same)
fractions [] (y ∷ ys) m n is js xe ye same = (zeros_less m n (y ∷ ys) js (not_zeros y ys ye) (omega (arith, same))).0
fractions (x ∷ xs) [] m n is js xe ye same = (zeros_less n m (x ∷ xs) is (not_zeros x xs xe) (omega (arith, same))).1
fractions (x ∷ xs) (y ∷ ys) m n is js xe ye same =
    ap (ordering_then (nat_cmp x y)) (fractions xs ys m n (more_digits x xs is) (more_digits y ys js) (further x xs xe) (further y ys ye) (omega (arith, same)))

-- ---- digits before the point

then_then : (a b c : Ordering) → ordering_then (ordering_then a b) c ≡ ordering_then a (ordering_then b c)
then_then Less b c = refl
then_then Equal b c = refl
then_then Greater b c = refl

fronts : (xs ys ps qs : List ℕ) → length xs ≡ length ys
    → slice_cmp nat_cmp (xs ++ ps) (ys ++ qs) ≡ ordering_then (slice_cmp nat_cmp xs ys) (slice_cmp nat_cmp ps qs)
fronts [] [] ps qs same = refl
fronts [] (y ∷ ys) ps qs same = absurd (omega (arith, same))
fronts (x ∷ xs) [] ps qs same = absurd (omega (arith, same))
fronts (x ∷ xs) (y ∷ ys) ps qs same =
    ap (ordering_then (nat_cmp x y)) (fronts xs ys ps qs (omega (arith, same)))
    ∙ sym (then_then (nat_cmp x y) (slice_cmp nat_cmp xs ys) (slice_cmp nat_cmp ps qs))

all_digits : (xs ys zs : List ℕ) → AreDigits xs → AreDigits ys → AreDigits zs → AreDigits (xs ++ (ys ++ zs))
all_digits xs ys zs a b c =
    list_all-append is_ascii_digit xs (ys ++ zs) ∙ and_from _ _ a (list_all-append is_ascii_digit ys zs ∙ and_from _ _ b c)

padded : (whole fraction : List ℕ) (n : ℕ) → digits_value 10 (whole ++ (fraction ++ zeros n)) ≡ digits_value 10 (whole ++ fraction) * 10 ^ n
padded whole fraction n = ap (digits_value 10) (sym (append_assoc whole fraction (zeros n))) ∙ value-scaled (whole ++ fraction) n

module _ (v f w g : List ℕ) (v_is : AreWhole v) (f_is : AreFraction f) (w_is : AreWhole w) (g_is : AreFraction g) where
  left : ℕ
  left = digits_value 10 (v ++ f) * 10 ^ length g

  right : ℕ
  right = digits_value 10 (w ++ g) * 10 ^ length f

  -- with as many digits before the point, they are compared from the front
  pub compared_from_front : length v ≡ length w
      → ordering_then (slice_cmp nat_cmp v w) (slice_cmp nat_cmp f g)
      ≡ nat_cmp (digits_value 10 (v ++ f) * 10 ^ length g) (digits_value 10 (w ++ g) * 10 ^ length f)
  compared_from_front same =
      let p = zeros (length g) in
      let q = zeros (length f) in
      let lengths : length (v ++ (f ++ p)) ≡ length (w ++ (g ++ q)) =
      omega (
        arith,
        same,
        length-append v (f ++ p),
        length-append f p,
        length-zeros (length g),
        length-append w (g ++ q),
        length-append g q,
        length-zeros (length f),
      ) in
      ap (ordering_then (slice_cmp nat_cmp v w))
      (sym (fractions f g (length g) (length f) f_is.digits g_is.digits f_is.last g_is.last (omega arith)))
      ∙ sym (fronts v w (f ++ p) (g ++ q) same)
      ∙ same_length 0 (v ++ (f ++ p)) (w ++ (g ++ q)) (all_digits v f p v_is.digits f_is.digits (digits-zeros (length g)))
      (all_digits w g q w_is.digits g_is.digits (digits-zeros (length f))) lengths
      ∙ ap₂ nat_cmp (padded v f (length g)) (padded w g (length f))

-- with fewer digits before the point, a number is less
fewer_by : (v f w g : List ℕ) → AreWhole v → AreFraction f → AreWhole w → AreFraction g → length v < length w
    → digits_value 10 (v ++ f) * 10 ^ length g < digits_value 10 (w ++ g) * 10 ^ length f
fewer_by v f [] g v_is f_is w_is g_is less = absurd (omega (arith, less))
fewer_by v f (d ∷ w) g v_is f_is w_is g_is less =
    let p = zeros (length g) in
    let q = zeros (length f) in
    let shorter : length (v ++ (f ++ p)) < length (d ∷ (w ++ (g ++ q))) =
    omega (
      arith,
      less,
      length-append v (f ++ p),
      length-append f p,
      length-zeros (length g),
      length-append w (g ++ q),
      length-append g q,
      length-zeros (length f),
    ) in
    let below : digits_value 10 (v ++ (f ++ p)) < digits_value 10 ((d ∷ w) ++ (g ++ q)) =
    less_by_length (v ++ (f ++ p)) d (w ++ (g ++ q)) (all_digits v f p v_is.digits f_is.digits (digits-zeros (length g)))
    (above_zero d (first_digit d w w_is.digits) w_is.first) shorter in
    subst (λ x. digits_value 10 (v ++ f) * 10 ^ length g < x) (padded (d ∷ w) g (length f))
    (subst (λ x. x < digits_value 10 ((d ∷ w) ++ (g ++ q))) (padded v f (length g)) below)

pub compared_by_length : (v f w g : List ℕ) → AreWhole v → AreFraction f → AreWhole w → AreFraction g → length v ≢ length w
    → nat_cmp (length v) (length w) ≡ nat_cmp (digits_value 10 (v ++ f) * 10 ^ length g) (digits_value 10 (w ++ g) * 10 ^ length f)
compared_by_length v f w g v_is f_is w_is g_is other = by_length (nat_lt (length v) (length w)) refl
  where
    by_length : (b : Bool) → nat_lt (length v) (length w) ≡ b
        → nat_cmp (length v) (length w) ≡ nat_cmp (digits_value 10 (v ++ f) * 10 ^ length g) (digits_value 10 (w ++ g) * 10 ^ length f)
    by_length true e =
        let less : length v < length w = search (rules, tests, arith) in
        sym (nat_cmp_is (length v) (length w) Less less) ∙ nat_cmp_is _ _ Less (fewer_by v f w g v_is f_is w_is g_is less)
    by_length false e =
        let at_most : length w ≤ length v = search (rules, tests, arith) in
        let more : length w < length v = at_least (length v) (length w) at_most other in
        sym (nat_cmp_is (length v) (length w) Greater more) ∙ nat_cmp_is _ _ Greater (fewer_by w g v f w_is g_is v_is f_is more)
      where
        at_least : (x y : ℕ) → y ≤ x → x ≢ y → y < x
        at_least x y le ne = by_eq (nat_lt y x) refl
          where
            by_eq : (b : Bool) → nat_lt y x ≡ b → y < x
            by_eq true e = search (rules, tests, arith)
            by_eq false e = let ge : x ≤ y = search (rules, tests, arith) in absurd (ne (omega (arith, le, ge)))

-- what is not equal decides
pub decided : (o p : Ordering) → o ≢ Equal → o ≡ ordering_then o p
decided Less p other = refl
decided Equal p other = absurd (other refl)
decided Greater p other = refl
