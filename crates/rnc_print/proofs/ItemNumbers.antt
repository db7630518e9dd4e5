-- Items of the tables represent items of the grammar, one to one.
use Rattle.std.proofs.Common.{◌≡◌, ◌∙◌, ℕ, ◌<◌, Bool, true, false, cond, List, [], ◌∷◌, ◌++◌, length, map, refl, sym, ap, subst, codes, Option, Some, None}
use Rattle.std.specs.Prelude.{◌==◌, decimal}
use Rattle.std.specs.List.{AllByRecursion, filter_map, list_any, position_or_len}
use Rattle.std.proofs.lemmas.Bool.{eqb-true}
use Rattle.std.proofs.lemmas.List.{append-nil}
use Rattle.std.proofs.lemmas.List.Elements.{filter_map-append}
use Rattle.rng_model.proofs.Truths.{same_truth}
use Rattle.rng_model.specs.simple.Table.{Table, tree_at}
use Rattle.rng_model.specs.declared.simple.ElementId.{ElementId}
use Rattle.rng_model.specs.declared.simple.PatternId.{PatternId}
use Rattle.rncv_model.specs.printed.Items.{has, and_new, place_in, same_tree, same_item}
use Rattle.rncv_model.specs.printed.Items as text
use Rattle.rncv_model.specs.printed.PrintedText.{element_in, pattern_in, item_name}
use Rattle.rnc_print.specs.plain.PatternCodes.{number_at}
use Rattle.rnc_print.specs.views.Items.{AreIndexed, AreItems, AreWith, IsInside, element_of, item_at, items_seen, numbered_name, same_number, tree_number}
use Rattle.rnc_print.specs.views.TreeNumbers.{AreTreeNumbers}
use Rattle.rnc_print.specs.declared.items.Item.{Item}
use Rattle.rnc_print.specs.declared.items.Item.TheVariants as variants
use Rattle.rnc_print.specs.declared.items.Items.{Items}
use Rattle.rnc_print.proofs.SameTests.{number_itself, tree_exact, tree_itself}
use Rattle.rnc_print.proofs.CarriedNumberings.{with_all, with_map, place_map}

-- ---- one to one

pattern_test : (t : Table) (numbers : List ℕ) → AreTreeNumbers t numbers → (p q : PatternId) → p.0 < length t.patterns → q.0 < length t.patterns
    → same_tree (tree_at t.patterns p) (tree_at t.patterns q) ≡ (number_at numbers p == number_at numbers q)
pattern_test t numbers are p q i j =
    same_truth (same_tree (tree_at t.patterns p) (tree_at t.patterns q)) (number_at numbers p == number_at numbers q)
    (λ e. subst (λ n. (number_at numbers p == n) ≡ true) ((are p q i j).1 (tree_exact (tree_at t.patterns p) (tree_at t.patterns q) e))
    (number_itself (number_at numbers p)))
    (λ e. subst (λ s. same_tree (tree_at t.patterns p) s ≡ true) ((are p q i j).0 (eqb-true (number_at numbers p) (number_at numbers q) e))
    (tree_itself (tree_at t.patterns p)))

item_test : (t : Table) (numbers : List ℕ) → AreTreeNumbers t numbers → (x y : Item) → IsInside t x → IsInside t y
    → same_item (item_at t x) (item_at t y) ≡ same_number numbers x y
item_test t numbers are (variants.Element d) (variants.Element e) i j = refl
item_test t numbers are (variants.Element d) (variants.Pattern q) i j = refl
item_test t numbers are (variants.Pattern p) (variants.Element e) i j = refl
item_test t numbers are (variants.Pattern p) (variants.Pattern q) i j = pattern_test t numbers are p q i j

-- ---- one more item

pub items_with : (t : Table) (old new : Items) (x : Item) → AreItems t old → IsInside t x → AreWith old x new → AreItems t new
items_with t old new x h i w = record {
  table = h.table;
  numbered = subst (AreTreeNumbers t) (sym w.numbers) h.numbered;
  inside = subst (AllByRecursion (IsInside t)) (sym w.all)
      (with_all (same_number old.numbers.items) same_item (item_at t) (IsInside t) (item_test t old.numbers.items h.numbered) old.all.items x h.inside i);
  indexed = w.indexed;
}

-- what is written for a pattern that is an item
pub seen_one : (t : Table) (old new : Items) (x : Item) (is : List text.PrintedItem) → AreItems t old → IsInside t x → AreWith old x new
    → map (item_at t) (x ∷ []) ≡ is → items_seen t new ≡ and_new same_item (items_seen t old) is
seen_one t old new x is h i w m =
    ap (map (item_at t)) w.all
    ∙ with_map (same_number old.numbers.items) same_item (item_at t) (IsInside t) (item_test t old.numbers.items h.numbered) old.all.items x h.inside i
    ∙ ap (and_new same_item (items_seen t old)) m

-- ---- by kind

has_element : (numbers : List ℕ) (xs : List Item) (e : ElementId)
    → list_any (λ d. e.0 == d.0) (filter_map element_of xs) ≡ has (same_number numbers) xs (variants.Element e)
has_element numbers [] e = refl
has_element numbers (variants.Element d ∷ xs) e = rw (has_element numbers xs e) refl
has_element numbers (variants.Pattern q ∷ xs) e = has_element numbers xs e

has_pattern : (numbers : List ℕ) (xs : List Item) (p : PatternId)
    → list_any (λ n. number_at numbers p == n) (filter_map (tree_number numbers) xs) ≡ has (same_number numbers) xs (variants.Pattern p)
has_pattern numbers [] p = refl
has_pattern numbers (variants.Element d ∷ xs) p = has_pattern numbers xs p
has_pattern numbers (variants.Pattern q ∷ xs) p = rw (has_pattern numbers xs p) refl

-- items with the same numbers, and possibly one more
module _ (old new : Items) (h : AreIndexed old) (numbers : new.numbers.items ≡ old.numbers.items) where
  abbrev elements_among : List Item → List ElementId
  elements_among = filter_map element_of

  abbrev trees_among : List Item → List ℕ
  trees_among = filter_map (tree_number old.numbers.items)

  by_parts : new.elements.keys ≡ elements_among new.all.items → new.trees.keys ≡ trees_among new.all.items → AreIndexed new
  by_parts e f = record {
    elements = e;
    trees = f ∙ ap (λ ns. filter_map (tree_number ns) new.all.items) (sym numbers);
  }

  there : new.elements.keys ≡ old.elements.keys → new.trees.keys ≡ old.trees.keys → new.all.items ≡ old.all.items → AreIndexed new
  there e f all = by_parts (e ∙ h.elements ∙ ap elements_among (sym all)) (f ∙ h.trees ∙ ap trees_among (sym all))

  behind : (x : Item) → new.elements.keys ≡ old.elements.keys ++ elements_among (x ∷ []) → new.trees.keys ≡ old.trees.keys ++ trees_among (x ∷ [])
      → new.all.items ≡ old.all.items ++ x ∷ [] → AreIndexed new
  behind x e f all =
      by_parts
      (e ∙ ap (λ ks. ks ++ elements_among (x ∷ [])) h.elements ∙ sym (filter_map-append element_of old.all.items (x ∷ [])) ∙ ap elements_among (sym all))
      (f ∙ ap (λ ks. ks ++ trees_among (x ∷ [])) h.trees ∙ sym (filter_map-append (tree_number old.numbers.items) old.all.items (x ∷ []))
      ∙ ap trees_among (sym all))

  -- an element that is inserted among the elements, and appended to the items if it is new
  module _ (e : ElementId) (trees : new.trees.keys ≡ old.trees.keys) where
    abbrev was : Bool
    was = list_any (λ d. e.0 == d.0) old.elements.keys

    was_is : was ≡ has (same_number old.numbers.items) old.all.items (variants.Element e)
    was_is = ap (list_any (λ d. e.0 == d.0)) h.elements ∙ has_element old.numbers.items old.all.items e

    pub element_there : was ≡ true → new.elements.keys ≡ cond was old.elements.keys (old.elements.keys ++ e ∷ []) → new.all.items ≡ old.all.items
        → AreWith old (variants.Element e) new
    element_there w keys all = record {
      numbers = numbers;
      all = all ∙ ap (λ b. cond b old.all.items (old.all.items ++ variants.Element e ∷ [])) (sym w ∙ was_is);
      indexed = there (keys ∙ ap (λ b. cond b old.elements.keys (old.elements.keys ++ e ∷ [])) w) trees all;
    }

    pub element_new : was ≡ false → new.elements.keys ≡ cond was old.elements.keys (old.elements.keys ++ e ∷ [])
        → new.all.items ≡ old.all.items ++ variants.Element e ∷ [] → AreWith old (variants.Element e) new
    element_new w keys all = record {
      numbers = numbers;
      all = all ∙ ap (λ b. cond b old.all.items (old.all.items ++ variants.Element e ∷ [])) (sym w ∙ was_is);
      indexed = behind (variants.Element e) (keys ∙ ap (λ b. cond b old.elements.keys (old.elements.keys ++ e ∷ [])) w)
          (trees ∙ sym (append-nil old.trees.keys)) all;
    }

  -- a pattern, likewise, by its number
  module _ (p : PatternId) (n : ℕ) (is : n ≡ number_at old.numbers.items p) (elements : new.elements.keys ≡ old.elements.keys) where
    abbrev stood : Bool
    stood = list_any (λ m. n == m) old.trees.keys

    stood_is : stood ≡ has (same_number old.numbers.items) old.all.items (variants.Pattern p)
    stood_is =
        ap (λ k. list_any (λ m. k == m) old.trees.keys) is ∙ ap (list_any (λ m. number_at old.numbers.items p == m)) h.trees
        ∙ has_pattern old.numbers.items old.all.items p

    pub pattern_there : stood ≡ true → new.trees.keys ≡ cond stood old.trees.keys (old.trees.keys ++ n ∷ []) → new.all.items ≡ old.all.items
        → AreWith old (variants.Pattern p) new
    pattern_there w keys all = record {
      numbers = numbers;
      all = all ∙ ap (λ b. cond b old.all.items (old.all.items ++ variants.Pattern p ∷ [])) (sym w ∙ stood_is);
      indexed = there elements (keys ∙ ap (λ b. cond b old.trees.keys (old.trees.keys ++ n ∷ [])) w) all;
    }

    pub pattern_new : stood ≡ false → new.trees.keys ≡ cond stood old.trees.keys (old.trees.keys ++ n ∷ [])
        → new.all.items ≡ old.all.items ++ variants.Pattern p ∷ [] → AreWith old (variants.Pattern p) new
    pattern_new w keys all = record {
      numbers = numbers;
      all = all ∙ ap (λ b. cond b old.all.items (old.all.items ++ variants.Pattern p ∷ [])) (sym w ∙ stood_is);
      indexed = behind (variants.Pattern p) (elements ∙ sym (append-nil old.elements.keys))
          (keys ∙ ap (λ b. cond b old.trees.keys (old.trees.keys ++ n ∷ [])) w ∙ ap (λ k. old.trees.keys ++ k ∷ []) is) all;
    }

-- ---- names

elements_seen : (t : Table) (xs : List Item) → filter_map element_in (map (item_at t) xs) ≡ map (λ e. e.0) (filter_map element_of xs)
elements_seen t [] = refl
elements_seen t (variants.Element e ∷ xs) = ap (λ (z : List ℕ). e.0 ∷ z) (elements_seen t xs)
elements_seen t (variants.Pattern p ∷ xs) = elements_seen t xs

abbrev pattern_of : Item → Option PatternId
pattern_of (variants.Element e) = None
pattern_of (variants.Pattern p) = Some p

patterns_seen : (t : Table) (xs : List Item) → filter_map pattern_in (map (item_at t) xs) ≡ map (tree_at t.patterns) (filter_map pattern_of xs)
patterns_seen t [] = refl
patterns_seen t (variants.Element e ∷ xs) = patterns_seen t xs
patterns_seen t (variants.Pattern p ∷ xs) = ap (λ (z : List _). tree_at t.patterns p ∷ z) (patterns_seen t xs)

trees_numbered : (numbers : List ℕ) (xs : List Item) → filter_map (tree_number numbers) xs ≡ map (number_at numbers) (filter_map pattern_of xs)
trees_numbered numbers [] = refl
trees_numbered numbers (variants.Element e ∷ xs) = trees_numbered numbers xs
trees_numbered numbers (variants.Pattern p ∷ xs) = ap (λ (z : List ℕ). number_at numbers p ∷ z) (trees_numbered numbers xs)

patterns_inside : (t : Table) (xs : List Item) → AllByRecursion (IsInside t) xs → AllByRecursion (λ p. p.0 < length t.patterns) (filter_map pattern_of xs)
patterns_inside t [] h = tt
patterns_inside t (variants.Element e ∷ xs) h = patterns_inside t xs h.1
patterns_inside t (variants.Pattern p ∷ xs) h = (h.0, patterns_inside t xs h.1)

any_elements : (es : List ElementId) → AllByRecursion (λ e. Unit {0}) es
any_elements [] = tt
any_elements (e ∷ es) = (tt, any_elements es)

-- the name of an item is that of its view
pub name_is : (t : Table) (items : Items) (x : Item) → AreItems t items → IsInside t x → numbered_name items x ≡ item_name (items_seen t items) (item_at t x)
name_is t items (variants.Element e) h i =
    ap (λ n. codes "e" ++ decimal n)
    (ap (position_or_len (λ d. e.0 == d.0)) h.indexed.elements
    ∙ sym (place_map (λ d e. d.0 == e.0) (λ k l. k == l) (λ e. e.0) (λ e. Unit {0}) (λ a b p q. refl) (filter_map element_of items.all.items) e
    (any_elements _) tt)
    ∙ ap (λ ks. place_in (λ k l. k == l) ks e.0) (sym (elements_seen t items.all.items)))
name_is t items (variants.Pattern p) h i =
    let numbers = items.numbers.items in
    let all = filter_map pattern_of items.all.items in
    let inside = patterns_inside t items.all.items h.inside in
    let same : PatternId → PatternId → Bool = λ p q. number_at numbers p == number_at numbers q in
    ap (λ n. codes "p" ++ decimal n)
    (ap (position_or_len (λ n. number_at numbers p == n)) (h.indexed.trees ∙ trees_numbered numbers items.all.items)
    ∙ place_map same (λ k l. k == l) (number_at numbers) (λ p. p.0 < length t.patterns) (λ a b r s. refl) all p inside i
    ∙ sym (place_map same same_tree (tree_at t.patterns) (λ p. p.0 < length t.patterns) (pattern_test t numbers h.numbered) all p inside i)
    ∙ ap (λ ts. place_in same_tree ts (tree_at t.patterns p)) (sym (patterns_seen t items.all.items)))
