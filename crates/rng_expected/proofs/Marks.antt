-- Marks that are added.
use Rattle.std.proofs.Common.{◌≡◌, ◌∙◌, inl, inr, ℕ, ◌<◌, List, [], ◌∷◌, ◌++◌, length, Bool, true, false, set, get_or, refl, sym, subst, ⊎_elim}
use Rattle.std.proofs.Common.{Contains, replicate, zero, suc, ap, arith}
use Rattle.std.proofs.lemmas.Bool.{cases_eq}
use Rattle.std.proofs.lemmas.List.{get_or-set_same, get_or-set_other, length-set}
use Rattle.std.proofs.lemmas.List.Elements.{Contains-append_cases, Contains-append_left, Contains-append_right, Contains-get_or}
use Rattle.rng_model.proofs.Members.{not_in_none, one_only}
use Rattle.rng_deriv_table.specs.plain.Selecting.{IsMarked}
use Rattle.rng_expected.specs.plain.Leaves.{AddsMarks, side}

pub no_marks : (marks : List Bool) → AddsMarks marks marks []
no_marks marks = record { long = refl; which = λ k. (λ m. inr m, λ c. ⊎_elim (λ n. absurd (not_in_none n)) (λ m. m) c) }

pub one_mark : (marks : List Bool) (i : ℕ) → i < length marks → AddsMarks marks (set marks i true) (i ∷ [])
one_mark marks i inside = record {
  long = length-set marks i true;
  which = λ k. (
    λ m. ⊎_elim
        (λ e. inl (subst (Contains (i ∷ [])) (sym e) (Contains-get_or (i ∷ []) 0 i (omega arith))))
        (λ n. inr (sym (get_or-set_other marks i k true false n) ∙ m))
        (cases_eq k i),
    λ c. ⊎_elim
        (λ h. subst (IsMarked (set marks i true)) (one_only i k h) here)
        (λ m. ⊎_elim (λ e. subst (IsMarked (set marks i true)) (sym e) here) (λ n. get_or-set_other marks i k true false n ∙ m) (cases_eq k i))
        c,
  );
}
  where
    here : get_or (set marks i true) i false ≡ true
    here = get_or-set_same marks i true false inside

pub more_marks : (old mid new : List Bool) (ms ks : List ℕ) → AddsMarks old mid ms → AddsMarks mid new ks → AddsMarks old new (ms ++ ks)
more_marks old mid new ms ks f g = record {
  long = g.long ∙ f.long;
  which = λ k. (
    λ m. ⊎_elim
        (λ c. inl (Contains-append_right ms ks k c))
        (λ o. ⊎_elim (λ c. inl (Contains-append_left ms ks k c)) (λ p. inr p) ((f.which k).0 o))
        ((g.which k).0 m),
    λ c. (g.which k).1 (⊎_elim
        (λ h. ⊎_elim (λ a. inr ((f.which k).1 (inl a))) (λ b. inl b) (Contains-append_cases ms ks k h))
        (λ m. inr ((f.which k).1 (inr m)))
        c),
  );
}

-- a mark under a test
pub mark_where : (b : Bool) (marks : List Bool) (i : ℕ) → b ≡ true → i < length marks → AddsMarks marks (set marks i true) (side b i)
mark_where b marks i e inside = subst (λ b. AddsMarks marks (set marks i true) (side b i)) (sym e) (one_mark marks i inside)

pub no_mark_where : (b : Bool) (marks : List Bool) (i : ℕ) → b ≡ false → AddsMarks marks marks (side b i)
no_mark_where b marks i e = subst (λ b. AddsMarks marks marks (side b i)) (sym e) (no_marks marks)

-- a list without marks
none_of_same : (n k : ℕ) → get_or (replicate n false) k false ≡ false
none_of_same zero k = refl
none_of_same (suc n) zero = refl
none_of_same (suc n) (suc k) = none_of_same n k

pub none_marked : (n : ℕ) (marks : List Bool) → marks ≡ replicate n false → (k : ℕ) → IsMarked marks k → ⊥
none_marked n marks are k m = let e : false ≡ true = sym (none_of_same n k) ∙ ap (λ ms. get_or ms k false) (sym are) ∙ m in absurd cc
