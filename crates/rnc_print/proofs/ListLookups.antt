-- Look-ups in lists.
use Rattle.std.proofs.Common.{◌≡◌, ◌∙◌, ℕ, zero, suc, ◌<◌, Bool, true, false, cond, not, nat_lt, List, [], ◌∷◌, length, refl, sym, ap, Option, Some}
use Rattle.std.proofs.Common.{None, position, arith}
use Rattle.std.specs.Prelude.{slice_get, slice_index_or}
use Rattle.std.specs.Option.{unwrap_or}
use Rattle.std.specs.List.{AllByRecursion, position_or_len}
use Rattle.std.proofs.lemmas.Bool.{ltb-false}
use Rattle.std.proofs.lemmas.List.Sums.{prefix_len-le-length}
use Rattle.rnc_print.proofs.FailedTests.{false_true}

pub get_below : {X : Type 0} (xs : List X) (k : ℕ) (x : X) → slice_get xs k ≡ Some x → k < length xs
get_below [] k x e = absurd (cc)
get_below (y ∷ xs) zero x e = omega arith
get_below (y ∷ xs) (suc k) x e = let h = get_below xs k x e in omega (arith, h)

pub each_at : {X : Type 0} (P : X → Type 0) (xs : List X) (k : ℕ) (d : X) → AllByRecursion P xs → k < length xs → P (slice_index_or xs k d)
each_at P [] k d h l = absurd (omega (arith, l))
each_at P (x ∷ xs) zero d h l = h.0
each_at P (x ∷ xs) (suc k) d h l = each_at P xs k d h.1 (omega (arith, l))

-- the number of what is found, or the length of the list
pub number_is : {X : Type 0} (p : X → Bool) (xs : List X) (found : Option ℕ) (len number : ℕ) → found ≡ position p xs → len ≡ length xs
    → number ≡ unwrap_or found len
    → number ≡ position_or_len p xs
number_is p xs found len number f l n =
    n ∙ ap (λ o. unwrap_or o len) f ∙ ap (unwrap_or (position p xs)) l ∙ at_test (nat_lt (position_or_len p xs) (length xs)) refl
  where
    at_test : (b : Bool) → nat_lt (position_or_len p xs) (length xs) ≡ b
        → unwrap_or (cond b (Some (position_or_len p xs)) None) (length xs) ≡ position_or_len p xs
    at_test true e = refl
    at_test false e =
        let over = ltb-false (position_or_len p xs) (length xs) e in
        let under = prefix_len-le-length (λ x. not (p x)) xs in
        omega (arith, over, under)

-- a test whose negation is known
pub is_old : (flag was : Bool) → flag ≡ not was → flag ≡ false → was ≡ true
is_old flag true e f = refl
is_old flag false e f = absurd (false_true (sym f ∙ e))

pub is_new : (flag was : Bool) → flag ≡ not was → flag ≡ true → was ≡ false
is_new flag true e f = absurd (false_true (sym e ∙ f))
is_new flag false e f = refl
