-- A wildcard in a choice, in terms of its members.
use Rattle.std.proofs.Common.{◌≡◌, ℕ, ◌<◌, ◌≤◌, ◌==◌, List, [], ◌∷◌, length, map, take, get_or, true, false, ◌||◌, refl, ap, sym, ◌∙◌, arith}
use Rattle.std.proofs.Common.{Decides, inl, inr}
use Rattle.std.proofs.lemmas.Bool.Decides.{Decides-or, Decides-like}
use Rattle.std.specs.List.{list_any}
use Rattle.std.proofs.lemmas.List.{take_all}
use Rattle.std.proofs.lemmas.List.Folds.{list_any_at}
use Rattle.rng_model.proofs.Truths.{no_truth, or_false_is}
use Rattle.rng_model.specs.names.Names.{NameClass, NameClasses, class_list, some_of, any_name, any_except, ns_name, ns_except, name_is, one_of, no_classes}
use Rattle.rng_model.specs.names.Names.{class_and}
use Rattle.rng_model.specs.restrictions.Restrictions.{HasWildcard, HaveWildcard, any, any_but, in_namespace, in_namespace_but, in_first, in_second, in_another}
use Rattle.rng_model.specs.restrictions.Restrictions.{in_this, in_later}
use Rattle.rng_rules.specs.plain.Facts.{has_wildcard, have_wildcard}

module _ {A : Type 0} where
  have_wildcard-members : (f : A → NameClass) (xs : List A) → have_wildcard (class_list (map f xs)) ≡ list_any (λ x. has_wildcard (f x)) xs
  have_wildcard-members f [] = refl
  have_wildcard-members f (x ∷ xs) = ap (λ b. has_wildcard (f x) || b) (have_wildcard-members f xs)

  -- a choice has a wildcard if one of its members has one
  pub has_wildcard-members : (f : A → NameClass) (x : A) (xs : List A) → has_wildcard (some_of (map f (x ∷ xs))) ≡ list_any (λ x. has_wildcard (f x)) (x ∷ xs)
  has_wildcard-members f x [] = or_false_is (has_wildcard (f x))
  has_wildcard-members f x (y ∷ xs) = ap (λ b. has_wildcard (f x) || (has_wildcard (f y) || b)) (have_wildcard-members f xs)

  -- a member has one
  pub wildcard_here : (f : A → NameClass) (xs : List A) (i : ℕ) (x : A) → i < length xs → x ≡ get_or xs i x → has_wildcard (f x) ≡ true
      → has_wildcard (some_of (map f xs)) ≡ true
  wildcard_here f [] i x inside at has = let never : ⊥ = omega (arith, inside) in elim never [ ]
  wildcard_here f (y ∷ xs) i x inside at has =
      has_wildcard-members f y xs ∙ list_any_at (λ x. has_wildcard (f x)) (y ∷ xs) i x inside (ap (λ x. has_wildcard (f x)) (sym at) ∙ has)

  -- no member has one
  pub wildcard_nowhere : (f : A → NameClass) (xs : List A) (i : ℕ) → length xs ≤ i → list_any (λ x. has_wildcard (f x)) (take i xs) ≡ false
      → (length xs == 0) ≡ has_wildcard (some_of (map f xs))
  wildcard_nowhere f [] i past none = refl
  wildcard_nowhere f (y ∷ xs) i past none =
      let nowhere = ap (list_any (λ x. has_wildcard (f x))) (sym (take_all i (y ∷ xs) past)) ∙ none in
      search (arith, has_wildcard-members f y xs ∙ nowhere)

-- ---- the test agrees with the definition

mutual
  pub has_wildcard-Decides : (c : NameClass) → Decides (has_wildcard c) (HasWildcard c)
  has_wildcard-Decides any_name = (λ _. any, λ _. refl)
  has_wildcard-Decides (any_except c) = (λ _. any_but, λ _. refl)
  has_wildcard-Decides (ns_name u) = (λ _. in_namespace, λ _. refl)
  has_wildcard-Decides (ns_except u c) = (λ _. in_namespace_but, λ _. refl)
  has_wildcard-Decides (name_is n) = (λ e. no_truth e, λ h. elim h [ ])
  has_wildcard-Decides (one_of c d cs) =
      Decides-like _ (λ s. elim s [ inl h ↦ in_first h | inr s ↦ elim s [ inl h ↦ in_second h | inr h ↦ in_another h ] ])
      (λ h. elim h [ in_first h ↦ inl h | in_second h ↦ inr (inl h) | in_another h ↦ inr (inr h) ])
      (Decides-or _ _ (has_wildcard-Decides c) (Decides-or _ _ (has_wildcard-Decides d) (have_wildcard-Decides cs)))

  have_wildcard-Decides : (cs : NameClasses) → Decides (have_wildcard cs) (HaveWildcard cs)
  have_wildcard-Decides no_classes = (λ e. no_truth e, λ h. elim h [ ])
  have_wildcard-Decides (class_and c cs) =
      Decides-like _ (λ s. elim s [ inl h ↦ in_this h | inr h ↦ in_later h ]) (λ h. elim h [ in_this h ↦ inl h | in_later h ↦ inr h ])
      (Decides-or _ _ (has_wildcard-Decides c) (have_wildcard-Decides cs))
