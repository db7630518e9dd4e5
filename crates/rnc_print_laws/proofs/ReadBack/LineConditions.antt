-- The lines of a printable grammar meet the conditions of sentences, nesting and declarations.
use Rattle.std.proofs.Common.{◌≡◌, ◌≢◌, ◌∙◌, ℕ, zero, suc, ◌<◌, ◌^◌, Bool, true, false, List, [], ◌∷◌, ◌++◌, length, flat_map, refl, sym, subst, arith}
use Rattle.std.specs.List.{AllByRecursion, slice_index_or}
use Rattle.std.specs.Str.{bytes_eq}
use Rattle.rng_model.specs.names.Names.{any_name}
use Rattle.rng_model.specs.simple.Tree.{Simple, s_not_allowed, s_empty, s_text, s_leaf, s_attribute, s_list, s_data, s_data_except, s_value, s_one_or_more}
use Rattle.rng_model.specs.simple.Tree.{s_joined}
use Rattle.rng_model.specs.simple.Grammar.{Grammar}
use Rattle.rnc_model.specs.grammar.Sentence.{nesting_limit}
use Rattle.rnc_model.specs.loading.SchemaFile.{IsFileTree}
use Rattle.rnc_grammar.proofs.AppliedTrees.{applied_where_made}
use Rattle.rncv_model.specs.printed.Items.{has, first_times, IsReached, at_start, in_line, PrintedItem, element, pattern, same_item, named_item, element_at}
use Rattle.rncv_model.specs.printed.Items.{parts_of, mentions, IsItemsOf}
use Rattle.rncv_model.specs.printed.PrintedText.{namespaces_of, namespaces}
use Rattle.rnc_print_laws.specs.plain.Printable.{IsPrintableClass, IsPrintableTree, IsPrintable}
use Rattle.rnc_print_laws.specs.plain.MarkLexemes.{lexemes_from}
use Rattle.rnc_print_laws.specs.plain.PrintedMarks.{marks_of}
use Rattle.rnc_print_laws.specs.plain.LinesSyntax as lines
use Rattle.rnc_print_laws.specs.plain.LinesTree.{lines_tree}
use Rattle.std.proofs.lemmas.Bool.{false≢true}
use Rattle.rng_model.proofs.Texts.{bytes_same, bytes_itself}
use Rattle.rnc_print.proofs.Numberings.{AreNew, has_contained, contained_has, has_left, has_right, has_last, and_has_right, and_fresh, fresh_new}
use Rattle.rnc_print.proofs.Numberings.{all_contained, all_append, all_each}
use Rattle.rnc_print.proofs.CarriedNumberings.{each_of}
use Rattle.rnc_print_laws.proofs.ReadBack.NumberedNames.{item_no_keyword, prefix_apart}
use Rattle.rnc_print_laws.proofs.ReadBack.LineSentences.{KnowsType, KnowsTypes, KnowsItem, lines_sentence}
use Rattle.rnc_print_laws.proofs.ReadBack.LineNesting.{Shallow, ShallowItem, lines_nest}
use Rattle.rnc_print_laws.proofs.ReadBack.ResolvedPrefixes.{Knows, HasOtherPrefix, HaveDistinctPrefixes, file_found}
use Rattle.rnc_print_laws.proofs.ReadBack.LineDeclarations.{rules_kept}

-- ---- what is reached is printable

abbrev pub PrintableItem : Grammar → PrintedItem → Type 0
PrintableItem g (element k) = IsPrintableClass (element_at g k).0 × IsPrintableTree (element_at g k).1
PrintableItem g (pattern s) = IsPrintableTree s

at_place : {A : Type 0} (P : A → Type 0) (xs : List A) (d : A) → AllByRecursion P xs → P d → (k : ℕ) → P (slice_index_or xs k d)
at_place P [] d h i k = i
at_place P (x ∷ xs) d h i zero = h.0
at_place P (x ∷ xs) d h i (suc k) = at_place P xs d h.1 i k

element_printable : (g : Grammar) → IsPrintable g → (k : ℕ) → PrintableItem g (element k)
element_printable g p k = at_place (λ e. IsPrintableClass e.0 × IsPrintableTree e.1) g.elements (any_name, s_not_allowed) p.elements ((tt, omega arith), tt) k

written_printable : (g : Grammar) → IsPrintable g → (s : Simple ℕ) → IsPrintableTree s → AllByRecursion (PrintableItem g) (named_item s)
written_printable g p s_not_allowed h = tt
written_printable g p s_empty h = tt
written_printable g p s_text h = tt
written_printable g p (s_data d) h = tt
written_printable g p (s_value d v) h = tt
written_printable g p (s_leaf k) h = (element_printable g p k, tt)
written_printable g p (s_attribute c a) h = (h, tt)
written_printable g p (s_list a) h = (h, tt)
written_printable g p (s_data_except d a) h = (h, tt)
written_printable g p (s_one_or_more a) h = (h, tt)
written_printable g p (s_joined j a b) h = (h, tt)

parts_printable : (g : Grammar) → IsPrintable g → (s : Simple ℕ) → IsPrintableTree s → AllByRecursion (PrintableItem g) (parts_of s)
parts_printable g p s_not_allowed h = tt
parts_printable g p s_empty h = tt
parts_printable g p s_text h = tt
parts_printable g p (s_data d) h = tt
parts_printable g p (s_value d v) h = tt
parts_printable g p (s_leaf k) h = tt
parts_printable g p (s_attribute c a) h = written_printable g p a h.1
parts_printable g p (s_list a) h = written_printable g p a h
parts_printable g p (s_data_except d a) h = written_printable g p a h.1
parts_printable g p (s_one_or_more a) h = written_printable g p a h
parts_printable g p (s_joined j a b) h = all_append (PrintableItem g) (named_item a) (named_item b) (written_printable g p a h.0) (written_printable g p b h.1)

mentions_printable : (g : Grammar) → IsPrintable g → (i : PrintedItem) → PrintableItem g i → AllByRecursion (PrintableItem g) (mentions g i)
mentions_printable g p (element k) h = written_printable g p (element_at g k).1 h.1
mentions_printable g p (pattern s) h = parts_printable g p s h

reached_printable : (g : Grammar) → IsPrintable g → (i : PrintedItem) → IsReached same_item (named_item g.start) (mentions g) i → PrintableItem g i
reached_printable g p i (at_start {a} c) = all_contained (PrintableItem g) (named_item g.start) (written_printable g p g.start p.start) a c
reached_printable g p i (in_line {a} {x} r c) = all_contained (PrintableItem g) (mentions g x) (mentions_printable g p x (reached_printable g p x r)) a c

pub items_printable : (g : Grammar) → IsPrintable g → (items : List PrintedItem) → IsItemsOf g items → AllByRecursion (PrintableItem g) items
items_printable g p items n = each_of (IsReached same_item (named_item g.start) (mentions g)) (PrintableItem g) items (reached_printable g p) n.reached

-- ---- the conditions on lines

knows_type : (s : Simple ℕ) → IsPrintableTree s → KnowsType s
knows_type s_not_allowed h = tt
knows_type s_empty h = tt
knows_type s_text h = tt
knows_type (s_data d) h = h.0
knows_type (s_value d v) h = h.0.0
knows_type (s_leaf k) h = tt
knows_type (s_attribute c a) h = tt
knows_type (s_list a) h = tt
knows_type (s_data_except d a) h = tt
knows_type (s_one_or_more a) h = tt
knows_type (s_joined j a b) h = tt

knows_types : (s : Simple ℕ) → IsPrintableTree s → KnowsTypes s
knows_types s_not_allowed h = tt
knows_types s_empty h = tt
knows_types s_text h = tt
knows_types (s_data d) h = h.0
knows_types (s_value d v) h = h.0.0
knows_types (s_leaf k) h = tt
knows_types (s_attribute c a) h = knows_type a h.1
knows_types (s_list a) h = knows_type a h
knows_types (s_data_except d a) h = (h.0.0, knows_type a h.1)
knows_types (s_one_or_more a) h = knows_type a h
knows_types (s_joined j a b) h = (knows_type a h.0, knows_type b h.1)

knows_item : (g : Grammar) (i : PrintedItem) → PrintableItem g i → KnowsItem g i
knows_item g (element k) h = knows_type (element_at g k).1 h.1
knows_item g (pattern s) h = knows_types s h

shallow : (s : Simple ℕ) → IsPrintableTree s → Shallow nesting_limit s
shallow (s_attribute c a) h = h.0.1
shallow s_not_allowed h = tt
shallow s_empty h = tt
shallow s_text h = tt
shallow (s_data d) h = tt
shallow (s_value d v) h = tt
shallow (s_leaf k) h = tt
shallow (s_list a) h = tt
shallow (s_data_except d a) h = tt
shallow (s_one_or_more a) h = tt
shallow (s_joined j a b) h = tt

shallow_item : (g : Grammar) (i : PrintedItem) → PrintableItem g i → ShallowItem g nesting_limit i
shallow_item g (element k) h = h.0.1
shallow_item g (pattern s) h = shallow s h

-- ---- the namespaces

-- what is new after others is not among them
new_behind : (w us : List (List ℕ)) → AreNew bytes_eq bytes_same bytes_itself w us → AllByRecursion (λ v. has bytes_eq w v ≡ false) us
new_behind w [] n = tt
new_behind w (u ∷ us) n = (
  n.0,
  each_of (λ v. has bytes_eq (w ++ u ∷ []) v ≡ false) (λ v. has bytes_eq w v ≡ false) us (λ v h. not_left v h (has bytes_eq w v) refl)
      (new_behind (w ++ u ∷ []) us n.1),
)
  where
    not_left : (v : List ℕ) → has bytes_eq (w ++ u ∷ []) v ≡ false → (b : Bool) → has bytes_eq w v ≡ b → has bytes_eq w v ≡ false
    not_left v h true e = absurd (false≢true (sym h ∙ has_left bytes_eq bytes_same bytes_itself w (u ∷ []) v e))
    not_left v h false e = e

other_than : (w : List (List ℕ)) (u v : List ℕ) → has bytes_eq (w ++ u ∷ []) v ≡ false → u ≢ v
other_than w u v h e = false≢true (sym h ∙ subst (λ (x : List ℕ). has bytes_eq (w ++ u ∷ []) x ≡ true) e (has_last bytes_eq bytes_same bytes_itself w u))

apart_from : (ns : List (List ℕ)) → length ns < 2 ^ 64 → (w us : List (List ℕ)) → AreNew bytes_eq bytes_same bytes_itself w us
    → AllByRecursion (λ v. has bytes_eq ns v ≡ true) us → HaveDistinctPrefixes ns us
apart_from ns lt w [] n h = tt
apart_from ns lt w (u ∷ us) n h =
    (both us (new_behind (w ++ u ∷ []) us n.1) h.1, apart_from ns lt (w ++ u ∷ []) us n.1 h.1)
  where
    both : (us : List (List ℕ)) → AllByRecursion (λ v. has bytes_eq (w ++ u ∷ []) v ≡ false) us → AllByRecursion (λ v. has bytes_eq ns v ≡ true) us
        → AllByRecursion (HasOtherPrefix ns u) us
    both [] i j = tt
    both (v ∷ us) i j = (prefix_apart ns lt u v h.0 j.0 (other_than w u v i.0), both us i.1 j.1)

all_itself : (ns : List (List ℕ)) → AllByRecursion (λ v. has bytes_eq ns v ≡ true) ns
all_itself ns = all_each (λ v. has bytes_eq ns v ≡ true) ns (λ v c. has_contained bytes_eq bytes_same bytes_itself ns v c)

namespaces_apart : (us : List (List ℕ)) → length (first_times bytes_eq us) < 2 ^ 64 → HaveDistinctPrefixes (first_times bytes_eq us) (first_times bytes_eq us)
namespaces_apart us lt =
    apart_from (first_times bytes_eq us) lt [] (first_times bytes_eq us)
    (subst (AreNew bytes_eq bytes_same bytes_itself []) (sym (and_fresh bytes_eq bytes_same bytes_itself [] us))
    (fresh_new bytes_eq bytes_same bytes_itself [] us)) (all_itself (first_times bytes_eq us))

each_namespace : (Q : List ℕ → Type 0) (f : PrintedItem → List (List ℕ)) (items : List PrintedItem) → ((u : List ℕ) → has bytes_eq (flat_map f items) u ≡ true → Q u)
    → AllByRecursion (λ i. AllByRecursion Q (f i)) items
each_namespace Q f [] h = tt
each_namespace Q f (i ∷ items) h = (
  all_each Q (f i)
      (λ u c. h u (has_left bytes_eq bytes_same bytes_itself (f i) (flat_map f items) u (has_contained bytes_eq bytes_same bytes_itself (f i) u c))),
  each_namespace Q f items (λ u e. h u (has_right bytes_eq bytes_same bytes_itself (f i) (flat_map f items) u e)),
)

-- what holds for all namespaces holds for those of each item
namespaces_serve : (g : Grammar) (items : List PrintedItem) (P : List ℕ → Type 0) → AllByRecursion P (namespaces g items)
    → AllByRecursion (λ i. AllByRecursion P (namespaces_of g i)) items
namespaces_serve g items P k =
    let ns = namespaces g items in
    each_namespace P (namespaces_of g) items
    (λ u e. all_contained P ns k u
    (contained_has bytes_eq bytes_same bytes_itself ns u (and_has_right bytes_eq bytes_same bytes_itself [] (flat_map (namespaces_of g) items) u e)))

-- ---- the tokens of the printed text

-- they break no clause, and their file tree is that of the lines
pub tokens_read : (g : Grammar) (items : List PrintedItem) → IsPrintable g → IsItemsOf g items → length items < 2 ^ 64 → length (namespaces g items) < 2 ^ 64
    → (n : ℕ) → IsFileTree (lexemes_from n (marks_of g items)) (lines_tree g items)
tokens_read g items p is lt lt' n =
    let ns = namespaces g items in
    let all = items_printable g p items is in
    let start = knows_type g.start p.start in
    let apart = namespaces_apart (flat_map (namespaces_of g) items) lt' in
    let knows = each_of (PrintableItem g) (KnowsItem g) items (knows_item g) all in
    record {
      nesting = lines_nest g ns items nesting_limit (omega arith) (each_of (PrintableItem g) (ShallowItem g nesting_limit) items (shallow_item g) all) n;
      file = lines.file g ns items;
      sentence = lines_sentence g ns items (item_no_keyword items lt) start knows n;
      kept = rules_kept ns g items apart (namespaces_serve g items);
      tree = applied_where_made (lines.file g ns items) (lines_tree g items)
          (file_found g ns items start knows apart (λ s k. namespaces_serve g items (Knows s ns) k));
    }
