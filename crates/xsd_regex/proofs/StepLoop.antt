-- A step over the rows, number by number and arc by arc, and characters that are in the same classes.
use Rattle.std.proofs.Common.{◌≡◌, ◌∙◌, ℕ, List, [], ◌∷◌, ◌++◌, Bool, true, false, cond, refl, sym, ap, subst, inl, inr}
use Rattle.std.specs.List.{AllByRecursion}
use Rattle.std.proofs.lemmas.List.{append_assoc, append-nil}
use Rattle.rng_model.specs.regexes.Expressions.{Class, holds}
use Rattle.rng_model.specs.regexes.plain.LinearForms.{OneOf, rests_at}
use Rattle.xsd_regex.specs.plain.StateTable.{StateRow, row_at, step_rows, Has, AreSame}
use Rattle.xsd_regex.proofs.OneOf.{in_first, in_second, of_both}
use Rattle.xsd_regex.proofs.StateTable.{step_alike}

-- ---- one more number, and one more arc

pub step_more : (rows : List StateRow) (ns : List ℕ) (i c : ℕ) → step_rows rows (ns ++ i ∷ []) c ≡ step_rows rows ns c ++ rests_at c (row_at rows i).arcs
step_more rows [] i c = append-nil (rests_at c (row_at rows i).arcs)
step_more rows (n ∷ ns) i c =
    ap (λ l. rests_at c (row_at rows n).arcs ++ l) (step_more rows ns i c)
    ∙ sym (append_assoc (rests_at c (row_at rows n).arcs) (step_rows rows ns c) (rests_at c (row_at rows i).arcs))

module _ {A : Type 0} (c : ℕ) (k : Class) (x : A) where
  pub rest_more : (fs : List (Class × A)) → holds k c ≡ true → rests_at c (fs ++ (k, x) ∷ []) ≡ rests_at c fs ++ x ∷ []
  rest_more [] e = ap (λ b. cond b (x ∷ []) []) e
  rest_more (f ∷ fs) e = ap (λ l. cond (holds f.0 c) (f.1 ∷ l) l) (rest_more fs e) ∙ under (holds f.0 c) where
    under : (b : Bool) → cond b (f.1 ∷ (rests_at c fs ++ x ∷ [])) (rests_at c fs ++ x ∷ []) ≡ cond b (f.1 ∷ rests_at c fs) (rests_at c fs) ++ x ∷ []
    under true = refl
    under false = refl

  pub rest_not_more : (fs : List (Class × A)) → holds k c ≡ false → rests_at c (fs ++ (k, x) ∷ []) ≡ rests_at c fs
  rest_not_more [] e = ap (λ b. cond b (x ∷ []) []) e
  rest_not_more (f ∷ fs) e = ap (λ l. cond (holds f.0 c) (f.1 ∷ l) l) (rest_not_more fs e)

-- ---- numbers that are found so far

pub found_new : (ns ms : List ℕ) (j : ℕ) → AreSame ns ms → AreSame (ns ++ j ∷ []) (ms ++ j ∷ [])
found_new ns ms j same = record { to = there ns ms same.to; back = there ms ns same.back } where
  there : (xs ys : List ℕ) → ((i : ℕ) → Has xs i → Has ys i) → (i : ℕ) → Has (xs ++ j ∷ []) i → Has (ys ++ j ∷ []) i
  there xs ys f i h =
      elim (of_both (λ l. i ≡ l) xs (j ∷ []) h) [ inl a ↦ in_first (λ l. i ≡ l) ys (j ∷ []) (f i a) | inr b ↦ in_second (λ l. i ≡ l) ys (j ∷ []) b ]

pub found_again : (ns ms : List ℕ) (j : ℕ) → AreSame ns ms → Has ns j → AreSame ns (ms ++ j ∷ [])
found_again ns ms j same has = record { to = λ i h. in_first (λ l. i ≡ l) ms (j ∷ []) (same.to i h); back = back } where
  only : (i : ℕ) → Has (j ∷ []) i → Has ns i
  only i (inl e) = subst (Has ns) (sym e) has
  only i (inr h) = absurd h

  back : (i : ℕ) → Has (ms ++ j ∷ []) i → Has ns i
  back i h = elim (of_both (λ l. i ≡ l) ms (j ∷ []) h) [ inl a ↦ same.back i a | inr b ↦ only i b ]

-- ---- groups of characters

module _ (classes : List Class) (c d : ℕ) (alike : AllByRecursion (λ k. holds k c ≡ holds k d) classes) where
  one_alike : (ks : List Class) → AllByRecursion (λ k. holds k c ≡ holds k d) ks → (k : Class) → OneOf (λ l. k ≡ l) ks → holds k c ≡ holds k d
  one_alike [] h k m = absurd m
  one_alike (l ∷ ks) h k (inl e) = subst (λ x. holds x c ≡ holds x d) (sym e) h.0
  one_alike (l ∷ ks) h k (inr m) = one_alike ks h.1 k m

  arcs_alike : (arcs : List (Class × ℕ)) → AllByRecursion (λ a. OneOf (λ l. a.0 ≡ l) classes) arcs → AllByRecursion (λ a. holds a.0 c ≡ holds a.0 d) arcs
  arcs_alike [] h = tt
  arcs_alike (a ∷ arcs) h = (one_alike classes alike a.0 h.0, arcs_alike arcs h.1)

  -- the classes of all arcs are among these, and the two characters are in the same ones of them
  pub group_step : (rows : List StateRow) → ((i : ℕ) → AllByRecursion (λ a. OneOf (λ l. a.0 ≡ l) classes) (row_at rows i).arcs) → (ns : List ℕ)
      → step_rows rows ns c ≡ step_rows rows ns d
  group_step rows h ns = step_alike rows c d (λ i. arcs_alike (row_at rows i).arcs (h i)) ns
