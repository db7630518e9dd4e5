-- The keys of a set after one more is inserted, for a test that does not distinguish equal keys.
use Rattle.std.proofs.Common.{◌≡◌, refl, sym, ap, ◌∙◌, List, [], ◌∷◌, ◌++◌, Bool, true, false, cond, ◌||◌, Bor, inl, inr, ℕ}
use Rattle.std.specs.List.{list_any}
use Rattle.std.specs.Str.{bytes_eq}
use Rattle.std.proofs.Math.Bool.{or-false}
use Rattle.std.proofs.lemmas.Bool.{or_cases, or_left, or_right}
use Rattle.std.proofs.lemmas.List.Folds.{list_any-append}
use Rattle.std.proofs.lemmas.Slice.Eq.{bytes_eq-Decides}
use Rattle.indexmap.specs.IndexSet.{insert_key}

module _ {K : Type 0} (eq : K → K → Bool) (test : K → Bool) (same : (k m : K) → eq k m ≡ true → test k ≡ test m) where
  met : (ks : List K) (k : K) → list_any (eq k) ks ≡ true → test k ≡ true → list_any test ks ≡ true
  met [] k e t = absurd cc
  met (m ∷ ks) k e t = elim (or_cases (eq k m) (list_any (eq k) ks) e) [
    | inl a ↦ or_left (test m) (list_any test ks) (sym (same k m a) ∙ t)
    | inr b ↦ or_right (test m) (list_any test ks) (met ks k b t)
  ]

  or_there : (ks : List K) (b : Bool) → (b ≡ true → list_any test ks ≡ true) → list_any test ks ≡ (list_any test ks || b)
  or_there ks false there = sym (or-false (list_any test ks))
  or_there ks true there = there refl ∙ sym (or_right (list_any test ks) true refl)

  inserted : (ks : List K) (k : K) (b : Bool) → list_any (eq k) ks ≡ b → list_any test (cond b ks (ks ++ k ∷ [])) ≡ (list_any test ks || test k)
  inserted ks k true e = or_there ks (test k) (met ks k e)
  inserted ks k false e = list_any-append test ks (k ∷ []) ∙ ap (λ b. list_any test ks || b) (or-false (test k))

  pub any_inserted : (ks : List K) (k : K) → list_any test (insert_key eq ks k) ≡ (list_any test ks || test k)
  any_inserted ks k = inserted ks k (list_any (eq k) ks) refl

-- borrowed texts
pub one_more_text : (ks : List (Bor (List ℕ))) (k : Bor (List ℕ)) (y : List ℕ) →
    list_any (λ k. bytes_eq y k.now) (insert_key (λ a b. bytes_eq a.now b.now) ks k) ≡ (list_any (λ k. bytes_eq y k.now) ks || bytes_eq y k.now)
one_more_text ks k y =
    any_inserted (λ a b. bytes_eq a.now b.now) (λ k. bytes_eq y k.now) (λ k m e. ap (bytes_eq y) ((bytes_eq-Decides k.now m.now).0 e)) ks k
