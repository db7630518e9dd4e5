-- Grammars that are the same up to the numbers of their elements have one text.
use Rattle.std.proofs.Common.{◌≡◌, ◌∙◌, ℕ, ◌<◌, Bool, true, false, List, [], ◌∷◌, ◌++◌, length, map, flat_map, refl, sym, ap, subst, codes}
use Rattle.std.specs.Prelude.{◌==◌, decimal}
use Rattle.std.specs.List.{AllByRecursion, filter_map}
use Rattle.std.specs.Str.{bytes_eq}
use Rattle.std.proofs.lemmas.Bool.{eqb-true, false_from_ne_true}
use Rattle.std.proofs.lemmas.Option.{get_or_from_slice_get, slice_get-get_or}
use Rattle.rng_model.specs.names.Names.{NameClass, any_name}
use Rattle.rng_model.specs.simple.Tree.{Simple, s_not_allowed, s_empty, s_text, s_leaf, s_attribute, s_list, s_data, s_data_except, s_value, s_one_or_more}
use Rattle.rng_model.specs.simple.Tree.{s_joined}
use Rattle.rng_model.specs.simple.Grammar.{Grammar}
use Rattle.rncv_model.specs.printed.Items.{place_in, first_times, same_tree, PrintedItem, element, pattern, same_item, named_item, element_at, parts_of}
use Rattle.rncv_model.specs.printed.Items.{mentions, IsItemsOf}
use Rattle.rncv_model.specs.printed.PrintedText.{element_in, pattern_in}
use Rattle.rncv_model.specs.printed.PrintedText.{item_name, namespaces_of, namespaces, reference, pattern_text, element_text, item_text, item_line}
use Rattle.rncv_model.specs.printed.PrintedText.{namespace_line, definition_line, schema_lines, text_of, IsPrinted, namespaces_in}
use Rattle.rncv_model.specs.printed.Words.{datatype_text, class_text, connector_text}
use Rattle.rnc_print.specs.plain.Renumbered.{renumbered, AreSameUpToNumbering}
use Rattle.rnc_print.proofs.Numberings.{all_append}
use Rattle.rnc_print.proofs.FailedTests.{false_true}
use Rattle.rnc_print.proofs.SameTests.{number_itself, tree_exact, tree_itself, item_exact, item_itself}
use Rattle.rnc_print.proofs.CarriedNumberings.{map_append, place_map, carried}
use Rattle.rnc_print.proofs.OneText.{one_text}
use Rattle.rnc_print.proofs.TreeShapes.{IsBelow, is_below}

-- an exact test gives the same result after things are mapped and mapped back
carried_test : {A B : Type 0} (same : A → A → Bool) (alike : B → B → Bool) → ((a b : A) → same a b ≡ true → a ≡ b) → ((a : A) → same a a ≡ true)
    → ((a b : B) → alike a b ≡ true → a ≡ b) → ((b : B) → alike b b ≡ true) → (f : A → B) (back : B → A) (a b : A) → back (f a) ≡ a → back (f b) ≡ b
    → alike (f a) (f b) ≡ same a b
carried_test same alike exact itself only alone f back a b p q = at_test (same a b) refl
  where
    at_test : (t : Bool) → same a b ≡ t → alike (f a) (f b) ≡ t
    at_test true e = subst (λ (x : _). alike (f a) (f x) ≡ true) (exact a b e) (alone (f a))
    at_test false e =
        false_from_ne_true (alike (f a) (f b))
        (λ m. false_true (sym e ∙ subst (λ (x : _). same a x ≡ true) (sym p ∙ ap back (only (f a) (f b) m) ∙ q) (itself a)))

pub renumbered_back : (f back : ℕ → ℕ) (n : ℕ) → ((k : ℕ) → k < n → back (f k) ≡ k) → (a : Simple ℕ) → IsBelow n a → renumbered back (renumbered f a) ≡ a
renumbered_back f back n e s_not_allowed h = refl
renumbered_back f back n e s_empty h = refl
renumbered_back f back n e s_text h = refl
renumbered_back f back n e (s_leaf k) h = ap (λ (x : ℕ). s_leaf x) (e k h)
renumbered_back f back n e (s_attribute c a) h = ap (s_attribute c) (renumbered_back f back n e a h)
renumbered_back f back n e (s_list a) h = ap (λ (x : Simple ℕ). s_list x) (renumbered_back f back n e a h)
renumbered_back f back n e (s_data d) h = refl
renumbered_back f back n e (s_data_except d a) h = ap (s_data_except d) (renumbered_back f back n e a h)
renumbered_back f back n e (s_value d v) h = refl
renumbered_back f back n e (s_one_or_more a) h = ap (λ (x : Simple ℕ). s_one_or_more x) (renumbered_back f back n e a h)
renumbered_back f back n e (s_joined k a b) h = rw (renumbered_back f back n e a h.0, renumbered_back f back n e b h.1) refl

abbrev moved : (ℕ → ℕ) → PrintedItem → PrintedItem
moved f (element k) = element (f k)
moved f (pattern a) = pattern (renumbered f a)

abbrev Below : ℕ → PrintedItem → Type 0
Below n (element k) = k < n
Below n (pattern a) = IsBelow n a

moved_back : (f back : ℕ → ℕ) (n : ℕ) → ((k : ℕ) → k < n → back (f k) ≡ k) → (i : PrintedItem) → Below n i → moved back (moved f i) ≡ i
moved_back f back n e (element k) h = ap element (e k h)
moved_back f back n e (pattern a) h = ap pattern (renumbered_back f back n e a h)

item_moved : (f : ℕ → ℕ) (a : Simple ℕ) → named_item (renumbered f a) ≡ map (moved f) (named_item a)
item_moved f s_not_allowed = refl
item_moved f s_empty = refl
item_moved f s_text = refl
item_moved f (s_leaf k) = refl
item_moved f (s_attribute c a) = refl
item_moved f (s_list a) = refl
item_moved f (s_data d) = refl
item_moved f (s_data_except d a) = refl
item_moved f (s_value d v) = refl
item_moved f (s_one_or_more a) = refl
item_moved f (s_joined k a b) = refl

parts_moved : (f : ℕ → ℕ) (a : Simple ℕ) → parts_of (renumbered f a) ≡ map (moved f) (parts_of a)
parts_moved f s_not_allowed = refl
parts_moved f s_empty = refl
parts_moved f s_text = refl
parts_moved f (s_leaf k) = refl
parts_moved f (s_attribute c a) = item_moved f a
parts_moved f (s_list a) = item_moved f a
parts_moved f (s_data d) = refl
parts_moved f (s_data_except d a) = item_moved f a
parts_moved f (s_value d v) = refl
parts_moved f (s_one_or_more a) = item_moved f a
parts_moved f (s_joined k a b) = rw (item_moved f a, item_moved f b) (sym (map_append (moved f) (named_item a) (named_item b)))

item_below : (n : ℕ) (a : Simple ℕ) → IsBelow n a → AllByRecursion (Below n) (named_item a)
item_below n s_not_allowed h = tt
item_below n s_empty h = tt
item_below n s_text h = tt
item_below n (s_leaf k) h = (h, tt)
item_below n (s_attribute c a) h = (h, tt)
item_below n (s_list a) h = (h, tt)
item_below n (s_data d) h = tt
item_below n (s_data_except d a) h = (h, tt)
item_below n (s_value d v) h = tt
item_below n (s_one_or_more a) h = (h, tt)
item_below n (s_joined k a b) h = (h, tt)

parts_below : (n : ℕ) (a : Simple ℕ) → IsBelow n a → AllByRecursion (Below n) (parts_of a)
parts_below n s_not_allowed h = tt
parts_below n s_empty h = tt
parts_below n s_text h = tt
parts_below n (s_leaf k) h = tt
parts_below n (s_attribute c a) h = item_below n a h
parts_below n (s_list a) h = item_below n a h
parts_below n (s_data d) h = tt
parts_below n (s_data_except d a) h = item_below n a h
parts_below n (s_value d v) h = tt
parts_below n (s_one_or_more a) h = item_below n a h
parts_below n (s_joined k a b) h = all_append (Below n) (named_item a) (named_item b) (item_below n a h.0) (item_below n b h.1)

-- ---- names

numbers_moved : (f : ℕ → ℕ) (items : List PrintedItem) → filter_map element_in (map (moved f) items) ≡ map f (filter_map element_in items)
numbers_moved f [] = refl
numbers_moved f (element k ∷ items) = ap (λ (x : List ℕ). f k ∷ x) (numbers_moved f items)
numbers_moved f (pattern a ∷ items) = numbers_moved f items

trees_moved : (f : ℕ → ℕ) (items : List PrintedItem) → filter_map pattern_in (map (moved f) items) ≡ map (renumbered f) (filter_map pattern_in items)
trees_moved f [] = refl
trees_moved f (element k ∷ items) = trees_moved f items
trees_moved f (pattern a ∷ items) = ap (λ (x : List (Simple ℕ)). renumbered f a ∷ x) (trees_moved f items)

numbers_below : (n : ℕ) (items : List PrintedItem) → AllByRecursion (Below n) items → AllByRecursion (λ k. k < n) (filter_map element_in items)
numbers_below n [] h = tt
numbers_below n (element k ∷ items) h = (h.0, numbers_below n items h.1)
numbers_below n (pattern a ∷ items) h = numbers_below n items h.1

trees_below : (n : ℕ) (items : List PrintedItem) → AllByRecursion (Below n) items → AllByRecursion (IsBelow n) (filter_map pattern_in items)
trees_below n [] h = tt
trees_below n (element k ∷ items) h = trees_below n items h.1
trees_below n (pattern a ∷ items) h = (h.0, trees_below n items h.1)

module _ (f back : ℕ → ℕ) (n : ℕ) (there : (k : ℕ) → k < n → back (f k) ≡ k) (items : List PrintedItem) (all : AllByRecursion (Below n) items) where
  name_moved : (i : PrintedItem) → Below n i → item_name (map (moved f) items) (moved f i) ≡ item_name items i
  name_moved (element k) h = ap (λ (x : ℕ). 0x65 ∷ decimal x)
      (ap (λ (x : List ℕ). place_in (λ j l. j == l) x (f k)) (numbers_moved f items)
      ∙ place_map (λ j l. j == l) (λ j l. j == l) f (λ k. k < n)
      (λ a b p q. carried_test (λ j l. j == l) (λ j l. j == l) eqb-true number_itself eqb-true number_itself f back a b (there a p) (there b q))
      (filter_map element_in items) k (numbers_below n items all) h)
  name_moved (pattern a) h = ap (λ (x : ℕ). 0x70 ∷ decimal x)
      (ap (λ (x : List (Simple ℕ)). place_in same_tree x (renumbered f a)) (trees_moved f items)
      ∙ place_map same_tree same_tree (renumbered f) (IsBelow n)
      (λ a b p q. carried_test same_tree same_tree tree_exact tree_itself tree_exact tree_itself (renumbered f) (renumbered back) a b
      (renumbered_back f back n there a p) (renumbered_back f back n there b q)) (filter_map pattern_in items) a (trees_below n items all) h)

  reference_moved : (a : Simple ℕ) → IsBelow n a → reference (map (moved f) items) (renumbered f a) ≡ reference items a
  reference_moved s_not_allowed h = refl
  reference_moved s_empty h = refl
  reference_moved s_text h = refl
  reference_moved (s_leaf k) h = name_moved (element k) h
  reference_moved (s_attribute c a) h = name_moved (pattern (s_attribute c a)) h
  reference_moved (s_list a) h = name_moved (pattern (s_list a)) h
  reference_moved (s_data d) h = refl
  reference_moved (s_data_except d a) h = name_moved (pattern (s_data_except d a)) h
  reference_moved (s_value d v) h = refl
  reference_moved (s_one_or_more a) h = name_moved (pattern (s_one_or_more a)) h
  reference_moved (s_joined k a b) h = name_moved (pattern (s_joined k a b)) h

  text_moved : (ns : List (List ℕ)) (a : Simple ℕ) → IsBelow n a → pattern_text ns (map (moved f) items) (renumbered f a) ≡ pattern_text ns items a
  text_moved ns s_not_allowed h = refl
  text_moved ns s_empty h = refl
  text_moved ns s_text h = refl
  text_moved ns (s_leaf k) h = name_moved (element k) h
  text_moved ns (s_attribute c a) h = ap (λ (x : List ℕ). codes "attribute " ++ (class_text ns c ++ (codes " { " ++ (x ++ codes " }")))) (reference_moved a h)
  text_moved ns (s_list a) h = ap (λ (x : List ℕ). codes "list { " ++ (x ++ codes " }")) (reference_moved a h)
  text_moved ns (s_data d) h = refl
  text_moved ns (s_data_except d a) h = ap (λ (x : List ℕ). datatype_text d ++ (codes " - " ++ x)) (reference_moved a h)
  text_moved ns (s_value d v) h = refl
  text_moved ns (s_one_or_more a) h = ap (λ (x : List ℕ). x ++ codes "+") (reference_moved a h)
  text_moved ns (s_joined k a b) h = ap (λ (x : List ℕ). x ++ (connector_text k ++ reference (map (moved f) items) (renumbered f b))) (reference_moved a h.0)
      ∙ ap (λ (x : List ℕ). reference items a ++ (connector_text k ++ x)) (reference_moved b h.1)

-- ---- two grammars

module _ (g h : Grammar) (s : AreSameUpToNumbering g h) where
  abbrev count : ℕ
  count = length g.elements

  element_moved : (k : ℕ) → k < count → element_at h (s.pairing k) ≡ ((element_at g k).0, renumbered s.pairing (element_at g k).1)
  element_moved k b =
      get_or_from_slice_get h.elements (s.pairing k) _ (any_name, s_not_allowed)
      (s.there.elements k _ _ (slice_get-get_or g.elements k (any_name, s_not_allowed) b)).0

  start_below : IsBelow count g.start
  start_below = is_below count g.start s.there.start_below

  body_below : (k : ℕ) → k < count → IsBelow count (element_at g k).1
  body_below k b = is_below count (element_at g k).1 (s.there.elements k _ _ (slice_get-get_or g.elements k (any_name, s_not_allowed) b)).1

  namespaces_moved : (i : PrintedItem) → Below count i → namespaces_of h (moved s.pairing i) ≡ namespaces_of g i
  namespaces_moved (element k) b = ap (λ (e : NameClass × Simple ℕ). namespaces_in e.0) (element_moved k b)
  namespaces_moved (pattern s_not_allowed) b = refl
  namespaces_moved (pattern s_empty) b = refl
  namespaces_moved (pattern s_text) b = refl
  namespaces_moved (pattern (s_leaf k)) b = refl
  namespaces_moved (pattern (s_attribute c a)) b = refl
  namespaces_moved (pattern (s_list a)) b = refl
  namespaces_moved (pattern (s_data d)) b = refl
  namespaces_moved (pattern (s_data_except d a)) b = refl
  namespaces_moved (pattern (s_value d v)) b = refl
  namespaces_moved (pattern (s_one_or_more a)) b = refl
  namespaces_moved (pattern (s_joined k x y)) b = refl

  all_namespaces : (items : List PrintedItem) → AllByRecursion (Below count) items
      → flat_map (namespaces_of h) (map (moved s.pairing) items) ≡ flat_map (namespaces_of g) items
  all_namespaces [] b = refl
  all_namespaces (i ∷ items) b = rw (namespaces_moved i b.0, all_namespaces items b.1) refl

  item_text_moved : (ns : List (List ℕ)) (items : List PrintedItem) → AllByRecursion (Below count) items → (i : PrintedItem) → Below count i
      → item_text h ns (map (moved s.pairing) items) (moved s.pairing i) ≡ item_text g ns items i
  item_text_moved ns items all (element k) b =
      ap (element_text ns (map (moved s.pairing) items)) (element_moved k b)
      ∙ ap (λ (x : List ℕ). codes "element " ++ (class_text ns (element_at g k).0 ++ (codes " { " ++ (x ++ codes " }"))))
      (reference_moved s.pairing s.back count s.there.leads_back items all (element_at g k).1 (body_below k b))
  item_text_moved ns items all (pattern a) b = text_moved s.pairing s.back count s.there.leads_back items all ns a b

  lines_moved : (ns : List (List ℕ)) (items : List PrintedItem) → AllByRecursion (Below count) items → (some : List PrintedItem) → AllByRecursion (Below count) some
      → flat_map (item_line h ns (map (moved s.pairing) items)) (map (moved s.pairing) some) ≡ flat_map (item_line g ns items) some
  lines_moved ns items all [] b = refl
  lines_moved ns items all (i ∷ some) b =
      rw (name_moved s.pairing s.back count s.there.leads_back items all i b.0, item_text_moved ns items all i b.0, lines_moved ns items all some b.1) refl

  mentions_moved : (i : PrintedItem) → Below count i → mentions h (moved s.pairing i) ≡ map (moved s.pairing) (mentions g i)
  mentions_moved (element k) b = ap (λ (e : NameClass × Simple ℕ). named_item e.1) (element_moved k b) ∙ item_moved s.pairing (element_at g k).1
  mentions_moved (pattern a) b = parts_moved s.pairing a

  mentions_below : (i : PrintedItem) → Below count i → AllByRecursion (Below count) (mentions g i)
  mentions_below (element k) b = item_below count (element_at g k).1 (body_below k b)
  mentions_below (pattern a) b = parts_below count a b

  items_moved : (items : List PrintedItem) → IsItemsOf g items → AllByRecursion (Below count) items × IsItemsOf h (map (moved s.pairing) items)
  items_moved items n = carried same_item same_item (moved s.pairing) (Below count)
      (λ a b p q. carried_test same_item same_item item_exact item_itself item_exact item_itself (moved s.pairing) (moved s.back) a b
      (moved_back s.pairing s.back count s.there.leads_back a p) (moved_back s.pairing s.back count s.there.leads_back b q))
      (named_item g.start) (mentions g) (named_item h.start) (mentions h) (ap named_item s.there.start ∙ item_moved s.pairing g.start) mentions_moved
      (item_below count g.start start_below) mentions_below items n

  texts_same : (items : List PrintedItem) → AllByRecursion (Below count) items → text_of h (map (moved s.pairing) items) ≡ text_of g items
  texts_same items all =
      let ns : namespaces h (map (moved s.pairing) items) ≡ namespaces g items = ap (first_times bytes_eq) (all_namespaces items all) in
      let start : reference (map (moved s.pairing) items) h.start ≡ reference items g.start =
      ap (reference (map (moved s.pairing) items)) s.there.start
      ∙ reference_moved s.pairing s.back count s.there.leads_back items all g.start start_below in
      ap (λ (x : List (List ℕ)). schema_lines h x (map (moved s.pairing) items)) ns
      ∙ ap (λ (x : List ℕ). flat_map (namespace_line (namespaces g items)) (namespaces g items)
      ++ (definition_line (codes "start") x ++ flat_map (item_line h (namespaces g items) (map (moved s.pairing) items)) (map (moved s.pairing) items))) start
      ∙ ap (λ (x : List ℕ). flat_map (namespace_line (namespaces g items)) (namespaces g items) ++ (definition_line (codes "start") (reference items g.start) ++ x))
      (lines_moved (namespaces g items) items all items all)

  -- grammars that are the same up to numbering have one text
  pub same_text : (t u : List ℕ) → IsPrinted g t → IsPrinted h u → t ≡ u
  same_text t u p q =
      let m = items_moved p.items p.numbered in
      p.is ∙ sym (texts_same p.items m.0)
      ∙ one_text h (text_of h (map (moved s.pairing) p.items)) u (record { items = map (moved s.pairing) p.items; numbered = m.1; is = refl }) q
