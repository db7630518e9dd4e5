-- Digits compared as the numbers that they write.
use Rattle.std.proofs.Common.{◌≡◌, ℕ, zero, suc, ◌+◌, ◌*◌, ◌^◌, ◌<◌, ◌≤◌, ◌≢◌, List, [], ◌∷◌, length, Bool, true, false, ◌==◌, nat_le, nat_lt, Less, Equal}
use Rattle.std.proofs.Common.{Greater, refl, sym, ap, ◌∙◌, subst, rules, arith, tests, true≢false}
use Rattle.std.proofs.Math.Nat.{pow-le-pow_right, pow-succ', add-zero, zero-add}
use Rattle.std.specs.Char.{is_ascii_digit, digit_value}
use Rattle.std.specs.List.{list_all}
use Rattle.std.specs.Cmp.{nat_cmp_is}
use Rattle.std.specs.Cmp.Lexicographic.{slice_cmp}
use Rattle.std.specs.Int.{IsInRange}
use Rattle.std.specs.Ordering.{nat_cmp, ordering_then}
use Rattle.std.specs.Str.Parse.{digits_value, digits_value_after}
use Rattle.std.proofs.lemmas.Bool.{and_parts}
use Rattle.std.proofs.lemmas.Str.{digit_value_digit}
use Rattle.std.proofs.lemmas.Str.Parse.{digits_value_short}
use Rattle.rng_types.proofs.Decimals.{own}

abbrev pub AreDigits : List ℕ → Type 0
AreDigits ds = list_all is_ascii_digit ds ≡ true

-- a digit as the number that it writes
pub record IsDigit (c : ℕ) : Type 0 where
  pub value : digit_value c + 48 ≡ c
  pub low : digit_value c < 10

digit_is : (c : ℕ) → is_ascii_digit c ≡ true → IsDigit c
digit_is c e =
    let range : IsInRange 48 57 c = search (rules, tests, arith) in
    let is = digit_value_digit c range in record { value = is; low = omega (arith, is, range.0, range.1) }

pub first_digit : (c : ℕ) (cs : List ℕ) → AreDigits (c ∷ cs) → IsDigit c
first_digit c cs e = digit_is c (and_parts (is_ascii_digit c) (list_all is_ascii_digit cs) e).0

pub more_digits : (c : ℕ) (cs : List ℕ) → AreDigits (c ∷ cs) → AreDigits cs
more_digits c cs e = (and_parts (is_ascii_digit c) (list_all is_ascii_digit cs) e).1

-- a number that is less stays less, whatever as many digits follow
ahead : (n m : ℕ) (xs bs : List ℕ) → n < m → AreDigits xs → length xs ≡ length bs → digits_value_after 10 n xs < digits_value_after 10 m bs
ahead n m [] [] less is same = less
ahead n m [] (d ∷ bs) less is same = absurd (omega (arith, same))
ahead n m (c ∷ xs) [] less is same = absurd (omega (arith, same))
ahead n m (c ∷ xs) (d ∷ bs) less is same =
    ahead (n * 10 + digit_value c) (m * 10 + digit_value d) xs bs (omega (arith, less, (first_digit c xs is).low)) (more_digits c xs is) (omega (arith, same))

-- so as many digits are compared from the front
pub same_length : (n : ℕ) (xs bs : List ℕ) → AreDigits xs → AreDigits bs → length xs ≡ length bs
    → slice_cmp nat_cmp xs bs ≡ nat_cmp (digits_value_after 10 n xs) (digits_value_after 10 n bs)
same_length n [] [] is js same = nat_cmp_is n n Equal refl
same_length n [] (d ∷ bs) is js same = absurd (omega (arith, same))
same_length n (c ∷ xs) [] is js same = absurd (omega (arith, same))
same_length n (c ∷ xs) (d ∷ bs) is js same =
    by_first (nat_lt c d) (c == d) refl refl
    (same_length (n * 10 + digit_value c) xs bs (more_digits c xs is) (more_digits d bs js) (omega (arith, same)))
  where
    by_first : (less equal : Bool) → nat_lt c d ≡ less → (c == d) ≡ equal
        → slice_cmp nat_cmp xs bs ≡ nat_cmp (digits_value_after 10 (n * 10 + digit_value c) xs) (digits_value_after 10 (n * 10 + digit_value c) bs)
        → ordering_then (nat_cmp c d) (slice_cmp nat_cmp xs bs) ≡ nat_cmp (digits_value_after 10 n (c ∷ xs)) (digits_value_after 10 n (d ∷ bs))
    by_first true equal e f more =
        let c_is = first_digit c xs is in
        let d_is = first_digit d bs js in
        let below : c < d = search (rules, tests, arith) in
        rw e (nat_cmp_is _ _ Less (ahead _ _ xs bs (omega (arith, below, c_is.value, d_is.value)) (more_digits c xs is) (omega (arith, same))))
    by_first false true e f more =
        let here : c ≡ d = search (rules, tests, arith) in
        rw (e, f) (more ∙ ap (λ x. nat_cmp (digits_value_after 10 (n * 10 + digit_value c) xs) (digits_value_after 10 (n * 10 + digit_value x) bs)) here)
    by_first false false e f more =
        let c_is = first_digit c xs is in
        let d_is = first_digit d bs js in
        let above : d < c = search (rules, tests, arith) in
        rw (e, f) (nat_cmp_is _ _ Greater (ahead _ _ bs xs (omega (arith, above, c_is.value, d_is.value)) (more_digits d bs js) (omega (arith, same))))

-- fewer digits write a number that is less than any that follow a number above zero
fewer : (xs bs : List ℕ) (m : ℕ) → 0 < m → AreDigits xs → length xs ≤ length bs → digits_value 10 xs < digits_value_after 10 m bs
fewer xs [] m some is few = ahead 0 m xs [] some is (omega (arith, few))
fewer xs (d ∷ bs) m some is few =
    by_length (nat_le (length xs) (length bs)) refl (λ within. fewer xs bs (m * 10 + digit_value d) (omega (arith, some)) is within)
  where
    by_length : (b : Bool) → nat_le (length xs) (length bs) ≡ b
        → (length xs ≤ length bs → digits_value 10 xs < digits_value_after 10 (m * 10 + digit_value d) bs)
        → digits_value 10 xs < digits_value_after 10 m (d ∷ bs)
    by_length true e more = more (search (rules, tests, arith))
    by_length false e more =
        let beyond : length bs < length xs = search (rules, tests, arith) in ahead 0 m xs (d ∷ bs) some is (omega (arith, beyond, few))

-- a digit that is no zero
pub above_zero : (d : ℕ) → IsDigit d → (d == 48) ≡ false → 0 < digit_value d
above_zero d value first =
    let other : d ≢ 48 = λ e. true≢false (ap (λ x. x == 48) (sym e) ∙ first) in
    above (digit_value d) refl value.value other
  where
    above : (v : ℕ) → digit_value d ≡ v → digit_value d + 48 ≡ d → d ≢ 48 → 0 < digit_value d
    above zero e value other = absurd (other (omega (arith, e, value)))
    above (suc v) e value other = omega (arith, e)

-- fewer digits write less than more, of which the first is no zero
pub less_by_length : (xs : List ℕ) (d : ℕ) (bs : List ℕ) → AreDigits xs → 0 < digit_value d → length xs < length (d ∷ bs)
    → digits_value 10 xs < digits_value 10 (d ∷ bs)
less_by_length xs d bs is some less = fewer xs bs (0 * 10 + digit_value d) (omega (arith, some)) is (omega (arith, less))

-- ---- how many digits a number has

at_least_power : (k m : ℕ) (ds : List ℕ) → 10 ^ k ≤ m → 10 ^ (k + length ds) ≤ digits_value_after 10 m ds
at_least_power k m [] enough = subst (λ n. 10 ^ n ≤ m) (sym (add-zero k)) enough
at_least_power k m (d ∷ ds) enough =
    let more : 10 ^ (suc k) ≤ m * 10 + digit_value d = omega (arith, enough, pow-succ' 10 k) in
    let here = at_least_power (suc k) (m * 10 + digit_value d) ds more in
    subst (λ n. 10 ^ n ≤ digits_value_after 10 (m * 10 + digit_value d) ds) (moved k (length ds)) here
  where
    moved : (k n : ℕ) → suc k + n ≡ k + suc n
    moved k n = omega arith

first_power : (d : ℕ) (ds : List ℕ) → 0 < digit_value d → 10 ^ length ds ≤ digits_value 10 (d ∷ ds)
first_power d ds some =
    subst (λ n. 10 ^ n ≤ digits_value 10 (d ∷ ds)) (zero-add (length ds)) (at_least_power 0 (0 * 10 + digit_value d) ds (omega (arith, some)))

-- a number has as many digits as are written from one on that is no zero
pub few_digits : (d : ℕ) (ds : List ℕ) (total : ℕ) → AreDigits (d ∷ ds) → 0 < digit_value d
    → nat_le (length (d ∷ ds)) total ≡ nat_lt (digits_value 10 (d ∷ ds)) (10 ^ total)
few_digits d ds total is some = by_length (nat_le (length (d ∷ ds)) total) refl
  where
    below : length (d ∷ ds) ≤ total → digits_value 10 (d ∷ ds) < 10 ^ total
    below le = digits_value_short own (d ∷ ds) total is le

    beyond : total < length (d ∷ ds) → 10 ^ total ≤ digits_value 10 (d ∷ ds)
    beyond more = omega (arith, first_power d ds some, pow-le-pow_right {n = 10} (omega arith) {i = total} {j = length ds} (omega (arith, more)))

    by_length : (b : Bool) → nat_le (length (d ∷ ds)) total ≡ b → nat_le (length (d ∷ ds)) total ≡ nat_lt (digits_value 10 (d ∷ ds)) (10 ^ total)
    by_length true e =
        let le : length (d ∷ ds) ≤ total = search (rules, tests, arith) in let small = below le in search (rules, tests, arith)
    by_length false e =
        let more : total < length (d ∷ ds) = search (rules, tests, arith) in let large = beyond more in search (rules, tests, arith)
