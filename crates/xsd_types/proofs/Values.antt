-- Values that texts have if they pass a test.
use Rattle.std.proofs.Common.{◌≡◌, ℕ, List, Bool, true, false, not, cond, ◌&&◌, Option, Some, None, ℤ, pos, negsuc, int_le, int_lt, Less, Equal, Greater}
use Rattle.std.proofs.Common.{refl, sym, ap, ◌∙◌, rules, tests, arith}
use Rattle.std.specs.Ordering.{int_eq, int_cmp, is_lt}
use Rattle.std.specs.Str.{bytes_eq}
use Rattle.std.proofs.lemmas.Bool.Decides.{Decides-int_eq}
use Rattle.rng_model.specs.datatypes.Texts.{Value, number, text_if, are_equal}
use Rattle.rng_model.specs.xsd.Types.{number_if}

-- two texts with values of the same kind
pub texts_if : (f g : Bool) (v w : List ℕ) → are_equal (text_if f v) (text_if g w) ≡ (f && (g && bytes_eq v w))
texts_if true true v w = refl
texts_if true false v w = refl
texts_if false g v w = refl

-- ---- numbers

both_if : (f g : Bool) (m n : ℤ) → are_equal (cond f (Some (number m)) None) (cond g (Some (number n)) None) ≡ (f && (g && int_eq m n))
both_if true true m n = refl
both_if true false m n = refl
both_if false g m n = refl

-- if the numbers are equal, one test decides
pub numbers_if : (test : ℤ → Bool) (m n : ℤ) → are_equal (number_if test m) (number_if test n) ≡ (int_eq m n && test m)
numbers_if test m n = both_if (test m) (test n) m n ∙ by_equal (int_eq m n) refl
  where
    none : (f g : Bool) → (f && (g && false)) ≡ false
    none true true = refl
    none true false = refl
    none false g = refl

    twice : (f : Bool) → (f && (f && true)) ≡ f
    twice true = refl
    twice false = refl

    by_equal : (b : Bool) → int_eq m n ≡ b → (test m && (test n && int_eq m n)) ≡ (int_eq m n && test m)
    by_equal true e = rw e (ap (λ k. test m && (test k && true)) (sym ((Decides-int_eq m n).0 e)) ∙ twice (test m))
    by_equal false e = rw e (none (test m) (test n))

pub no_right : (a : Option Value) → are_equal a None ≡ false
no_right None = refl
no_right (Some a) = refl

-- ---- the order of numbers

by_tests : (a b : Bool) → is_lt (cond a Less (cond b Greater Equal)) ≡ a
by_tests true b = refl
by_tests false true = refl
by_tests false false = refl

pub less_is : (m n : ℤ) → is_lt (int_cmp m n) ≡ int_lt m n
less_is m n = by_tests (int_lt m n) (int_lt n m)

not_less : (m n : ℤ) → not (int_lt n m) ≡ int_le m n
not_less (pos m) (pos n) = search (rules, tests, arith)
not_less (pos m) (negsuc n) = refl
not_less (negsuc m) (pos n) = refl
not_less (negsuc m) (negsuc n) = search (rules, tests, arith)

pub at_most_is : (m n : ℤ) → not (is_lt (int_cmp n m)) ≡ int_le m n
at_most_is m n = ap not (less_is n m) ∙ not_less m n
