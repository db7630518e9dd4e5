-- Different items have different names.
use Rattle.std.proofs.Common.{◌≡◌, ◌∙◌, refl, sym, ap, subst, inl, inr, ℕ, ◌<◌, ◌^◌, Bool, true, List, [], ◌∷◌, length, Option, Some, None, arith}
use Rattle.std.specs.Prelude.{◌==◌, decimal}
use Rattle.std.specs.List.{filter_map, cons_option}
use Rattle.std.proofs.lemmas.Bool.{or_cases, eqb-true, or_right, or_left}
use Rattle.std.proofs.lemmas.Fmt.{decimal_injective}
use Rattle.rng_model.proofs.Members.{same_rest}
use Rattle.rncv_model.specs.printed.Items.{has, place_in, same_tree, PrintedItem, element, pattern, same_item}
use Rattle.rncv_model.specs.printed.PrintedText.{element_in, pattern_in, item_name}
use Rattle.rnc_print.proofs.FailedTests.{false_true}
use Rattle.rnc_print.proofs.SameTests.{item_exact, tree_exact, tree_itself, number_itself}
use Rattle.rng_model.specs.names.Lists.{Among}
use Rattle.rnc_print_laws.proofs.ReadBack.NumberedNames.{place_le, kept_le, one_place}
use Rattle.rnc_print_laws.proofs.Lines.ListedLines.{among_has}

heads_apart : (v w : List ℕ) → ◌≡◌ {A = List ℕ} (0x65 ∷ v) (0x70 ∷ w) → ⊥
heads_apart v w e = let c : ◌≡◌ {A = ℕ} 0x65 0x70 = cc in omega (arith, c)

kept : {A : Type 0} (g : PrintedItem → Option A) (same : A → A → Bool) → ((a : A) → same a a ≡ true) → ((a b : A) → same a b ≡ true → a ≡ b) → (items : List PrintedItem)
    (i : PrintedItem) (a : A) → g i ≡ Some a → has same_item items i ≡ true → has same (filter_map g items) a ≡ true
kept g same itself exact [] i a e h = absurd (false_true h)
kept g same itself exact (x ∷ items) i a e h = elim (or_cases (same_item i x) (has same_item items i) h) [
  | inl s ↦ kept_here (g x) (ap g (sym (item_exact i x s)) ∙ e)
  | inr d ↦ kept_later (g x) (kept g same itself exact items i a e d)
]
  where
    kept_here : (o : Option _) → o ≡ Some a → has same (cons_option o (filter_map g items)) a ≡ true
    kept_here o e = subst (λ (p : Option _). has same (cons_option p (filter_map g items)) a ≡ true) (sym e) (or_left (same a a) _ (itself a))

    kept_later : (o : Option _) → has same (filter_map g items) a ≡ true → has same (cons_option o (filter_map g items)) a ≡ true
    kept_later None h = h
    kept_later (Some b) h = or_right (same a b) _ h

module _ {A : Type 0} (g : PrintedItem → Option A) (same : A → A → Bool) (itself : (a : A) → same a a ≡ true) (exact : (a b : A) → same a b ≡ true → a ≡ b)
    (items : List PrintedItem) (few : length items < 2 ^ 64) where
  below : (a : A) → place_in same (filter_map g items) a < 2 ^ 64
  below a = let p = place_le same (filter_map g items) a in let q = kept_le g items in omega (arith, p, q, few)

  one_kept : (i j : PrintedItem) (a b : A) → g i ≡ Some a → g j ≡ Some b → has same_item items i ≡ true → has same_item items j ≡ true
      → decimal (place_in same (filter_map g items) a) ≡ decimal (place_in same (filter_map g items) b) → a ≡ b
  one_kept i j a b e f h k d =
      one_place same exact (filter_map g items) a b (kept g same itself exact items i a e h) (kept g same itself exact items j b f k)
      (decimal_injective _ _ (below a) (below b) d)

names_differ : (items : List PrintedItem) → length items < 2 ^ 64 → (i j : PrintedItem) → has same_item items i ≡ true → has same_item items j ≡ true
    → item_name items i ≡ item_name items j → i ≡ j
names_differ items few (element k) (element l) h i e =
    ap element (one_kept element_in (λ k l. k == l) number_itself eqb-true items few (element k) (element l) k l refl refl h i (same_rest e))
names_differ items few (pattern s) (pattern u) h i e =
    ap pattern (one_kept pattern_in same_tree tree_itself tree_exact items few (pattern s) (pattern u) s u refl refl h i (same_rest e))
names_differ items few (element k) (pattern u) h i e = absurd (heads_apart _ _ e)
names_differ items few (pattern s) (element l) h i e = absurd (heads_apart _ _ (sym e))

pub names_apart : (items : List PrintedItem) → length items < 2 ^ 64 → (i j : PrintedItem) → Among i items → Among j items → item_name items i ≡ item_name items j → i ≡ j
names_apart items few i j a b e = names_differ items few i j (among_has a) (among_has b) e
