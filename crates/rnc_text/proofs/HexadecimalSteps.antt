-- The digits of an escape, one by one.
use Rattle.std.proofs.Common.{◌≡◌, ℕ, zero, suc, ◌+◌, ◌-◌, ◌*◌, ◌<◌, ◌≤◌, true, false, eqb, ltb, ◌⊎◌, inl, inr, List, Option, Some, None, refl, sym, ◌∙◌, arith}
use Rattle.std.specs.Prelude.{◌&&◌}
use Rattle.std.specs.Char.{digit_value}
use Rattle.std.proofs.lemmas.Bool.{lt-ltb, ltb-true, ne_eqb, le-ltb, and_right, false_from_ne_true}
use Rattle.rnc_text.specs.plain.DecodingSteps.{first_and_rest, hexadecimal_end, hexadecimal_step}

step_at : (k count n : ℕ) (cs : List ℕ) → 7 - count ≡ suc k
    → hexadecimal_end (7 - count) n cs ≡ hexadecimal_step (hexadecimal_end (7 - (count + 1))) (6 - count) n (first_and_rest cs)
unfolding hexadecimal_end
step_at k count n cs e =
    let f : 7 - (count + 1) ≡ k = omega arith in
    let g : 6 - count ≡ k = omega arith in
    rw (e, f, g) refl

pub step : (count n : ℕ) (cs : List ℕ) → count < 7
    → hexadecimal_end (7 - count) n cs ≡ hexadecimal_step (hexadecimal_end (7 - (count + 1))) (6 - count) n (first_and_rest cs)
step count n cs lt = step_at (6 - count) count n cs (omega arith)

pub is_out : (count n : ℕ) (cs : List ℕ) → 7 ≤ count → hexadecimal_end (7 - count) n cs ≡ None
unfolding hexadecimal_end
is_out count n cs le = let e : 7 - count ≡ 0 = omega arith in rw e refl

-- numbers of n digits are less than this
abbrev pub most : ℕ → ℕ
most zero = 1
most (suc n) = 16 * most n

pub most_next : (n : ℕ) → most (n + 1) ≡ 16 * most n
most_next n = let e : n + 1 ≡ suc n = omega arith in rw e refl

pub most_fits : (n : ℕ) → n ≤ 6 → most n ≤ 16777216
most_fits zero le = omega arith
most_fits (suc zero) le = omega arith
most_fits (suc (suc zero)) le = omega arith
most_fits (suc (suc (suc zero))) le = omega arith
most_fits (suc (suc (suc (suc zero)))) le = omega arith
most_fits (suc (suc (suc (suc (suc zero))))) le = omega arith
most_fits (suc (suc (suc (suc (suc (suc zero)))))) le = omega arith
most_fits (suc (suc (suc (suc (suc (suc (suc n))))))) le = absurd (omega arith)

-- a brace after a digit ends them
pub closes : (count n c : ℕ) (cs rest : List ℕ) (all : Option (ℕ × List ℕ)) → count < 7 → c ≡ 0x7D → 0 < count
    → ◌≡◌ {A = Option (ℕ × List ℕ)} (Some (c, rest)) (first_and_rest cs) → hexadecimal_end (7 - count) n cs ≡ all
    → ◌≡◌ {A = Option (ℕ × List ℕ)} (Some (n, rest)) all
closes count n c cs rest all lt brace some first same =
    let below : ltb (6 - count) 6 ≡ true = lt-ltb _ _ (omega arith) in
    sym (sym same ∙ step count n cs lt ∙ rw (← first, brace, below) refl)

-- the tests that recognize a closing brace
abbrev pub IsNoEnd : ℕ → ℕ → Type 0
IsNoEnd c count = (c ≡ 0x7D → ⊥) ⊎ (count ≡ 0)

no_end : (c count : ℕ) → IsNoEnd c count → (eqb c 0x7D && ltb (6 - count) 6) ≡ false
no_end c count (inl h) = rw (ne_eqb c 0x7D h) refl
no_end c count (inr h) = let e : ltb (6 - count) 6 ≡ false = le-ltb _ _ (omega arith) in rw e (and_right _ _ refl)

pub no_digit : (count n c : ℕ) (cs rest : List ℕ) (all : Option (ℕ × List ℕ)) → count < 7 → IsNoEnd c count → (digit_value c < 16 → ⊥)
    → ◌≡◌ {A = Option (ℕ × List ℕ)} (Some (c, rest)) (first_and_rest cs) → hexadecimal_end (7 - count) n cs ≡ all → ◌≡◌ {A = Option (ℕ × List ℕ)} None all
no_digit count n c cs rest all lt end refuses first same =
    let none : ltb (digit_value c) 16 ≡ false = false_from_ne_true _ (λ t. refuses (ltb-true _ _ t)) in
    sym (sym same ∙ step count n cs lt ∙ rw (← first, no_end c count end, none) refl)

pub goes_on : (count n c d : ℕ) (cs rest : List ℕ) (all : Option (ℕ × List ℕ)) → count < 7 → IsNoEnd c count → digit_value c < 16 → d ≡ digit_value c
    → ◌≡◌ {A = Option (ℕ × List ℕ)} (Some (c, rest)) (first_and_rest cs) → hexadecimal_end (7 - count) n cs ≡ all
    → hexadecimal_end (7 - (count + 1)) (n * 16 + d) rest ≡ all
goes_on count n c d cs rest all lt end digit d-is first same =
    let yes : ltb (digit_value c) 16 ≡ true = lt-ltb _ _ digit in
    sym (sym same ∙ step count n cs lt ∙ rw (← first, no_end c count end, yes, d-is) refl)
