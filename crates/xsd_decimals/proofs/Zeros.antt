-- Zeros in front of digits and behind them.
use Rattle.std.proofs.Common.{◌≡◌, ◌≢◌, ℕ, ◌+◌, ◌*◌, ◌%◌, ◌<◌, List, [], ◌∷◌, ◌++◌, Bool, true, false, cond, ◌==◌, ◌&&◌}
use Rattle.std.proofs.Common.{refl, sym, ap, ◌∙◌, rules, arith, tests, true≢false}
use Rattle.std.specs.Char.{is_ascii_digit, digit_value}
use Rattle.std.specs.List.{list_all}
use Rattle.std.specs.Str.Parse.{digits_value, digits_value_after}
use Rattle.std.proofs.lemmas.Bool.{and_parts, and_from}
use Rattle.rng_model.specs.xsd.primitives.Decimals.{is_zero_digit, significant}
use Rattle.xsd_decimals.specs.plain.Numbers.{past_zeros, AreWhole, AreFraction}
use Rattle.xsd_decimals.proofs.ComparedDigits.{AreDigits, first_digit, more_digits, above_zero}

-- ---- in front

pub value-past_zeros : (ds behind : List ℕ) → digits_value 10 (past_zeros ds ++ behind) ≡ digits_value 10 (ds ++ behind)
value-past_zeros [] behind = refl
value-past_zeros (d ∷ ds) behind = by_zero (d == 48) refl (value-past_zeros ds behind)
  where
    by_zero : (b : Bool) → (d == 48) ≡ b → digits_value 10 (past_zeros ds ++ behind) ≡ digits_value 10 (ds ++ behind)
        → digits_value 10 (past_zeros (d ∷ ds) ++ behind) ≡ digits_value 10 ((d ∷ ds) ++ behind)
    by_zero true e more = let is : d ≡ 48 = search (rules, tests, arith) in rw e (more ∙ sym (ap (λ x. digits_value 10 ((x ∷ ds) ++ behind)) is))
    by_zero false e more = rw e refl

pub whole-past_zeros : (ds : List ℕ) → AreDigits ds → AreWhole (past_zeros ds)
whole-past_zeros [] is = record { digits = refl; first = refl }
whole-past_zeros (d ∷ ds) is = by_zero (d == 48) refl (whole-past_zeros ds (more_digits d ds is))
  where
    by_zero : (b : Bool) → (d == 48) ≡ b → AreWhole (past_zeros ds) → AreWhole (past_zeros (d ∷ ds))
    by_zero true e more = rw e more
    by_zero false e more = rw e (record { digits = is; first = e })

-- ---- at the end

zeros_with : (ds : List ℕ) → list_all is_zero_digit (ds ++ 48 ∷ []) ≡ list_all is_zero_digit ds
zeros_with [] = refl
zeros_with (d ∷ ds) = ap (λ b. is_zero_digit d && b) (zeros_with ds)

-- one zero more changes nothing
significant-zero : (ds : List ℕ) → significant (ds ++ 48 ∷ []) ≡ significant ds
significant-zero [] = refl
significant-zero (d ∷ ds) =
    ap (λ b. cond (is_zero_digit d && b) [] (d ∷ significant (ds ++ 48 ∷ []))) (zeros_with ds)
    ∙ ap (λ t. cond (list_all is_zero_digit (d ∷ ds)) [] (d ∷ t)) (significant-zero ds)

zeros_same : (d : ℕ) (ds : List ℕ) → list_all is_zero_digit (significant ds) ≡ list_all is_zero_digit ds
    → list_all is_zero_digit (significant (d ∷ ds)) ≡ list_all is_zero_digit (d ∷ ds)
zeros_same d ds more = by_zeros (list_all is_zero_digit (d ∷ ds)) refl
  where
    by_zeros : (b : Bool) → list_all is_zero_digit (d ∷ ds) ≡ b → list_all is_zero_digit (significant (d ∷ ds)) ≡ list_all is_zero_digit (d ∷ ds)
    by_zeros true e = ap (λ b. list_all is_zero_digit (cond b [] (d ∷ significant ds))) e ∙ sym e
    by_zeros false e = ap (λ b. list_all is_zero_digit (cond b [] (d ∷ significant ds))) e ∙ ap (λ b. is_zero_digit d && b) more

zeros-significant : (ds : List ℕ) → list_all is_zero_digit (significant ds) ≡ list_all is_zero_digit ds
zeros-significant [] = refl
zeros-significant (d ∷ ds) = zeros_same d ds (zeros-significant ds)

twice_by : (d : ℕ) (ds : List ℕ) (b : Bool) → list_all is_zero_digit (d ∷ ds) ≡ b → significant (significant ds) ≡ significant ds
    → significant (significant (d ∷ ds)) ≡ significant (d ∷ ds)
twice_by d ds true e more = rw e refl
twice_by d ds false e more =
    let same : list_all is_zero_digit (d ∷ significant ds) ≡ false = ap (λ b. is_zero_digit d && b) (zeros-significant ds) ∙ e in
    rw e (ap (λ b. cond b [] (d ∷ significant (significant ds))) same ∙ ap (λ t. d ∷ t) more)

significant-twice : (ds : List ℕ) → significant (significant ds) ≡ significant ds
significant-twice [] = refl
significant-twice (d ∷ ds) = twice_by d ds (list_all is_zero_digit (d ∷ ds)) refl (significant-twice ds)

digits_by : (d : ℕ) (ds : List ℕ) (b : Bool) → list_all is_zero_digit (d ∷ ds) ≡ b → AreDigits (d ∷ ds) → AreDigits (significant ds)
    → AreDigits (significant (d ∷ ds))
digits_by d ds true e is more = rw e refl
digits_by d ds false e is more = rw e (and_from (is_ascii_digit d) _ (and_parts (is_ascii_digit d) _ is).0 more)

digits-significant : (ds : List ℕ) → AreDigits ds → AreDigits (significant ds)
digits-significant [] is = refl
digits-significant (d ∷ ds) is = digits_by d ds (list_all is_zero_digit (d ∷ ds)) refl is (digits-significant ds (more_digits d ds is))

pub fraction-significant : (ds : List ℕ) → AreDigits ds → AreFraction (significant ds)
fraction-significant ds is = record { digits = digits-significant ds is; last = significant-twice ds }

-- what ends in another byte has none
zeros_other : (ds : List ℕ) (c : ℕ) → is_zero_digit c ≡ false → list_all is_zero_digit (ds ++ c ∷ []) ≡ false
zeros_other [] c e = rw e refl
zeros_other (d ∷ ds) c e = ap (λ b. is_zero_digit d && b) (zeros_other ds c e) ∙ none (is_zero_digit d)
  where
    none : (b : Bool) → (b && false) ≡ false
    none true = refl
    none false = refl

significant-other : (ds : List ℕ) (c : ℕ) → is_zero_digit c ≡ false → significant (ds ++ c ∷ []) ≡ ds ++ c ∷ []
significant-other [] c e = rw e refl
significant-other (d ∷ ds) c e =
    ap (λ b. cond b [] (d ∷ significant (ds ++ c ∷ []))) (zeros_other (d ∷ ds) c e) ∙ ap (λ t. d ∷ t) (significant-other ds c e)

-- so zeros are left out one by one
pub zero_behind : (ds rest front : List ℕ) (c : ℕ) → rest ≡ front ++ c ∷ [] → c ≡ 48 → significant rest ≡ significant ds → significant front ≡ significant ds
zero_behind ds rest front c parts is same =
    sym (significant-zero front) ∙ (ap (λ x. significant (front ++ x ∷ [])) (sym is) ∙ (ap significant (sym parts) ∙ same))

pub other_behind : (ds rest front : List ℕ) (c : ℕ) → rest ≡ front ++ c ∷ [] → is_zero_digit c ≡ false → significant rest ≡ significant ds → rest ≡ significant ds
other_behind ds rest front c parts other same = parts ∙ (sym (significant-other front c other) ∙ (ap significant (sym parts) ∙ same))

-- ---- a fraction that has digits ends in one that is no zero

none_if : (d : ℕ) (ds rest : List ℕ) (b : Bool) → cond b [] (d ∷ rest) ≡ d ∷ ds → (b ≡ false) × (rest ≡ ds)
none_if d ds rest true e = absurd (nothing d ds e)
  where
    nothing : (d : ℕ) (ds : List ℕ) → [] ≡ d ∷ ds → ⊥
    nothing d ds e = search rules
none_if d ds rest false e = (refl, cc)

-- its digits are not all zeros
pub not_zeros : (d : ℕ) (ds : List ℕ) → significant (d ∷ ds) ≡ d ∷ ds → list_all is_zero_digit (d ∷ ds) ≡ false
not_zeros d ds e = (none_if d ds (significant ds) (list_all is_zero_digit (d ∷ ds)) e).0

pub further : (d : ℕ) (ds : List ℕ) → significant (d ∷ ds) ≡ d ∷ ds → significant ds ≡ ds
further d ds e = (none_if d ds (significant ds) (list_all is_zero_digit (d ∷ ds)) e).1

one_digit : (m v : ℕ) → 0 < v → v < 10 → (m * 10 + v) % 10 ≢ 0
one_digit m v some low e = omega (arith, some, low, e)

pub ends_above_zero : (m d : ℕ) (ds : List ℕ) → AreDigits (d ∷ ds) → significant (d ∷ ds) ≡ d ∷ ds → digits_value_after 10 m (d ∷ ds) % 10 ≢ 0
ends_above_zero m d [] is last =
    let digit = first_digit d [] is in
    one_digit m (digit_value d) (above_zero d digit (alone (is_zero_digit d) (not_zeros d [] last))) digit.low
  where
    alone : (b : Bool) → (b && true) ≡ false → b ≡ false
    alone true e = e
    alone false e = refl
ends_above_zero m d (c ∷ ds) is last =
    ends_above_zero (m * 10 + digit_value d) c ds (more_digits d (c ∷ ds) is) (further d (c ∷ ds) last)

-- ---- digits that are not all zeros write a number above zero

pub stays_above : (m : ℕ) (ds : List ℕ) → 0 < m → 0 < digits_value_after 10 m ds
stays_above m [] some = some
stays_above m (d ∷ ds) some = stays_above (m * 10 + digit_value d) ds (omega (arith, some))

above_by : (m d : ℕ) (ds : List ℕ) (b : Bool) → is_zero_digit d ≡ b → AreDigits (d ∷ ds) → list_all is_zero_digit (d ∷ ds) ≡ false
    → (list_all is_zero_digit ds ≡ false → 0 < digits_value_after 10 (m * 10 + digit_value d) ds) → 0 < digits_value_after 10 m (d ∷ ds)
above_by m d ds true e is other more = more (sym (ap (λ b. b && list_all is_zero_digit ds) e) ∙ other)
above_by m d ds false e is other more = stays_above (m * 10 + digit_value d) ds (omega (arith, above_zero d (first_digit d ds is) e))

pub is_above : (m : ℕ) (ds : List ℕ) → AreDigits ds → list_all is_zero_digit ds ≡ false → 0 < digits_value_after 10 m ds
is_above m [] is other = absurd (true≢false other)
is_above m (d ∷ ds) is other = above_by m d ds (is_zero_digit d) refl is other (is_above (m * 10 + digit_value d) ds (more_digits d ds is))
