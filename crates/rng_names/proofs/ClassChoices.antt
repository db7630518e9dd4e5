-- A choice, in terms of its members.
use Rattle.std.proofs.Common.{◌≡◌, ℕ, ◌<◌, ◌≤◌, max, List, [], ◌∷◌, length, map, take, fold, get_or, Bool, true, false, ◌||◌, refl, ap, ap₂, ◌+◌, sym, ◌∙◌}
use Rattle.std.proofs.Common.{arith}
use Rattle.std.specs.List.{list_any}
use Rattle.std.proofs.lemmas.List.{take_all}
use Rattle.std.proofs.lemmas.List.Folds.{list_any_at, list_any_more}
use Rattle.rng_model.proofs.Truths.{or_false_is}
use Rattle.rng_model.specs.names.Names.{Name, NameClass, class_list, some_of}
use Rattle.rng_names.specs.plain.Holding.{holds, some_hold}
use Rattle.rng_names.specs.plain.Written.{is_met, is_some_met, longest, longest_of}

-- ---- a test over a list

module _ {A : Type 0} where
  -- a test that passes at one place passes at some place
  pub any_here : (p : A → Bool) (xs : List A) (i : ℕ) (x : A) → i < length xs → x ≡ get_or xs i x → p x ≡ true → list_any p xs ≡ true
  any_here p xs i x inside at passes = list_any_at p xs i x inside (ap p (sym at) ∙ passes)

  -- a test that passes at no place before the end passes nowhere
  pub none_before : (p : A → Bool) (xs : List A) (i : ℕ) → length xs ≤ i → list_any p (take i xs) ≡ false → list_any p xs ≡ false
  none_before p xs i past none = ap (list_any p) (sym (take_all i xs past)) ∙ none

  -- one more at which it passes nowhere
  pub none_more : (p : A → Bool) (xs : List A) (i : ℕ) (x : A) → i < length xs → x ≡ get_or xs i x → p x ≡ false → list_any p (take i xs) ≡ false
      → list_any p (take (i + 1) xs) ≡ false
  none_more p xs i x inside at off none = list_any_more p xs i x inside ∙ ap₂ (λ a b. a || b) none (ap p (sym at) ∙ off)

  -- ---- a choice holds what one of its members holds

  some_hold-members : (f : A → NameClass) (xs : List A) (q : Name) → some_hold (class_list (map f xs)) q ≡ list_any (λ x. holds (f x) q) xs
  some_hold-members f [] q = refl
  some_hold-members f (x ∷ xs) q = ap (λ b. holds (f x) q || b) (some_hold-members f xs q)

  pub holds-members : (f : A → NameClass) (xs : List A) (q : Name) → holds (some_of (map f xs)) q ≡ list_any (λ x. holds (f x) q) xs
  holds-members f [] q = refl
  holds-members f (x ∷ []) q = or_false_is (holds (f x) q)
  holds-members f (x ∷ (y ∷ xs)) q = ap (λ b. holds (f x) q || (holds (f y) q || b)) (some_hold-members f xs q)

  -- ---- a test passes for what is written in a choice if it does for a member

  some_met-members : (f : A → NameClass) (xs : List A) (test : Name → Bool) (fresh : List ℕ)
      → is_some_met test fresh (class_list (map f xs)) ≡ list_any (λ x. is_met test fresh (f x)) xs
  some_met-members f [] test fresh = refl
  some_met-members f (x ∷ xs) test fresh = ap (λ b. is_met test fresh (f x) || b) (some_met-members f xs test fresh)

  pub met-members : (f : A → NameClass) (xs : List A) (test : Name → Bool) (fresh : List ℕ)
      → is_met test fresh (some_of (map f xs)) ≡ list_any (λ x. is_met test fresh (f x)) xs
  met-members f [] test fresh = refl
  met-members f (x ∷ []) test fresh = or_false_is (is_met test fresh (f x))
  met-members f (x ∷ (y ∷ xs)) test fresh = ap (λ b. is_met test fresh (f x) || (is_met test fresh (f y) || b)) (some_met-members f xs test fresh)

  -- ---- the longest text of a choice is the longest of its members

  abbrev pub longest_among : (A → NameClass) → ℕ → List A → ℕ
  longest_among f = fold (λ n x. max n (longest (f x)))

  longest_of-members : (f : A → NameClass) (n : ℕ) (xs : List A) → max n (longest_of (class_list (map f xs))) ≡ longest_among f n xs
  longest_of-members f n [] = omega arith
  longest_of-members f n (x ∷ xs) =
      let grouped : max n (max (longest (f x)) (longest_of (class_list (map f xs)))) ≡ max (max n (longest (f x))) (longest_of (class_list (map f xs))) =
      omega arith in
      grouped ∙ longest_of-members f (max n (longest (f x))) xs

  pub longest-members : (f : A → NameClass) (xs : List A) → longest (some_of (map f xs)) ≡ longest_among f 0 xs
  longest-members f [] = refl
  longest-members f (x ∷ []) = omega arith
  longest-members f (x ∷ (y ∷ xs)) =
      let above : longest (some_of (map f (x ∷ (y ∷ xs)))) ≡ max 0 (longest_of (class_list (map f (x ∷ (y ∷ xs))))) = omega arith in
      above ∙ longest_of-members f 0 (x ∷ (y ∷ xs))
