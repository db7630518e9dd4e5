-- Each grammar has one printed text.
use Rattle.std.proofs.Common.{◌≡◌, ◌∙◌, ℕ, zero, suc, ◌≤◌, true, List, [], ◌∷◌, ◌++◌, length, flat_map, refl, sym, ap}
use Rattle.std.specs.Prelude.{Contains}
use Rattle.std.specs.List.{AllByRecursion, slice_index_or}
use Rattle.rng_model.specs.names.Names.{NameClass, any_name}
use Rattle.rng_model.specs.simple.Tree.{Simple, s_not_allowed, s_empty, s_text, s_leaf, s_attribute, s_list, s_data, s_data_except, s_value, s_one_or_more}
use Rattle.rng_model.specs.simple.Tree.{s_joined}
use Rattle.rng_model.specs.simple.Grammar.{Grammar}
use Rattle.rncv_model.specs.printed.Items.{has, IsReached, at_start, in_line, PrintedItem, element, pattern, same_item, named_item, element_at, parts_of}
use Rattle.rncv_model.specs.printed.Items.{mentions, IsItemsOf}
use Rattle.rncv_model.specs.printed.NumberingSteps.{numbered}
use Rattle.rncv_model.specs.printed.PrintedText.{text_of, IsPrinted}
use Rattle.rnc_print.proofs.SameTests.{item_exact, item_itself}
use Rattle.rnc_print.proofs.Numberings.{one_numbering, numbering_found, numbering_there, has_contained, all_each, all_contained}

-- ---- one text

pub one_items : (g : Grammar) (xs ys : List PrintedItem) → IsItemsOf g xs → IsItemsOf g ys → xs ≡ ys
one_items g xs ys n m = one_numbering same_item item_exact item_itself (named_item g.start) (mentions g) xs ys n m

pub one_text : (g : Grammar) (t u : List ℕ) → IsPrinted g t → IsPrinted g u → t ≡ u
one_text g t u p q = p.is ∙ ap (text_of g) (one_items g p.items q.items p.numbered q.numbered) ∙ sym q.is

-- it is the text that the steps give, if there are as many steps as items
pub items_found : (g : Grammar) (items : List PrintedItem) → IsItemsOf g items → (steps : ℕ) → length items ≤ steps
    → numbered same_item steps (named_item g.start) (mentions g) ≡ items
items_found g items n steps le = numbering_found same_item item_exact item_itself (named_item g.start) (mentions g) items n steps le

-- ---- there is one

-- the items in a tree
abbrev inside : Simple ℕ → List PrintedItem
inside s_not_allowed = []
inside s_empty = []
inside s_text = []
inside (s_data d) = []
inside (s_value d v) = []
inside (s_leaf k) = element k ∷ []
inside (s_attribute c a) = pattern (s_attribute c a) ∷ inside a
inside (s_list a) = pattern (s_list a) ∷ inside a
inside (s_data_except d a) = pattern (s_data_except d a) ∷ inside a
inside (s_one_or_more a) = pattern (s_one_or_more a) ∷ inside a
inside (s_joined k a b) = pattern (s_joined k a b) ∷ (inside a ++ inside b)

-- all items of a grammar
abbrev all_inside : Grammar → List PrintedItem
all_inside g = inside g.start ++ flat_map (λ e. inside e.1) g.elements

abbrev Has : List PrintedItem → PrintedItem → Type 0
Has xs i = has same_item xs i ≡ true

-- each of these is there
abbrev AllAmong : List PrintedItem → List PrintedItem → Type 0
AllAmong cs xs = AllByRecursion (Has cs) xs

among_append : (cs xs ys : List PrintedItem) → AllAmong cs xs → AllAmong cs ys → AllAmong cs (xs ++ ys)
among_append cs [] ys h i = i
among_append cs (x ∷ xs) ys h i = (h.0, among_append cs xs ys h.1 i)

-- a tree whose items are all there
among_parts : (cs xs ys : List PrintedItem) → AllAmong cs (xs ++ ys) → AllAmong cs xs × AllAmong cs ys
among_parts cs [] ys h = (tt, h)
among_parts cs (x ∷ xs) ys h = let r = among_parts cs xs ys h.1 in ((h.0, r.0), r.1)

written_among : (cs : List PrintedItem) (s : Simple ℕ) → AllAmong cs (inside s) → AllAmong cs (named_item s)
written_among cs s_not_allowed h = tt
written_among cs s_empty h = tt
written_among cs s_text h = tt
written_among cs (s_data d) h = tt
written_among cs (s_value d v) h = tt
written_among cs (s_leaf k) h = h
written_among cs (s_attribute c a) h = (h.0, tt)
written_among cs (s_list a) h = (h.0, tt)
written_among cs (s_data_except d a) h = (h.0, tt)
written_among cs (s_one_or_more a) h = (h.0, tt)
written_among cs (s_joined k a b) h = (h.0, tt)

-- an item whose parts' items are all there
abbrev Whole : Grammar → List PrintedItem → PrintedItem → Type 0
Whole g cs (element k) = Has cs (element k)
Whole g cs (pattern s) = Has cs (pattern s) × AllAmong cs (inside s)

whole_has : (g : Grammar) (cs : List PrintedItem) (i : PrintedItem) → Whole g cs i → Has cs i
whole_has g cs (element k) h = h
whole_has g cs (pattern s) h = h.0

written_whole : (g : Grammar) (cs : List PrintedItem) (s : Simple ℕ) → AllAmong cs (inside s) → AllByRecursion (Whole g cs) (named_item s)
written_whole g cs s_not_allowed h = tt
written_whole g cs s_empty h = tt
written_whole g cs s_text h = tt
written_whole g cs (s_data d) h = tt
written_whole g cs (s_value d v) h = tt
written_whole g cs (s_leaf k) h = h
written_whole g cs (s_attribute c a) h = ((h.0, h), tt)
written_whole g cs (s_list a) h = ((h.0, h), tt)
written_whole g cs (s_data_except d a) h = ((h.0, h), tt)
written_whole g cs (s_one_or_more a) h = ((h.0, h), tt)
written_whole g cs (s_joined k a b) h = ((h.0, h), tt)

parts_whole : (g : Grammar) (cs : List PrintedItem) (s : Simple ℕ) → AllAmong cs (inside s) → AllByRecursion (Whole g cs) (parts_of s)
parts_whole g cs s_not_allowed h = tt
parts_whole g cs s_empty h = tt
parts_whole g cs s_text h = tt
parts_whole g cs (s_data d) h = tt
parts_whole g cs (s_value d v) h = tt
parts_whole g cs (s_leaf k) h = tt
parts_whole g cs (s_attribute c a) h = written_whole g cs a h.1
parts_whole g cs (s_list a) h = written_whole g cs a h.1
parts_whole g cs (s_data_except d a) h = written_whole g cs a h.1
parts_whole g cs (s_one_or_more a) h = written_whole g cs a h.1
parts_whole g cs (s_joined k a b) h =
    let p = among_parts cs (inside a) (inside b) h.1 in
    both_whole (named_item a) (named_item b) (written_whole g cs a p.0) (written_whole g cs b p.1)
  where
    both_whole : (xs ys : List PrintedItem) → AllByRecursion (Whole g cs) xs → AllByRecursion (Whole g cs) ys → AllByRecursion (Whole g cs) (xs ++ ys)
    both_whole [] ys h i = i
    both_whole (x ∷ xs) ys h i = (h.0, both_whole xs ys h.1 i)

bodies_among : (cs : List PrintedItem) (es : List (NameClass × Simple ℕ)) → AllAmong cs (flat_map (λ e. inside e.1) es) → (k : ℕ)
    → AllAmong cs (inside (slice_index_or es k (any_name, s_not_allowed)).1)
bodies_among cs [] h k = tt
bodies_among cs (e ∷ es) h zero = (among_parts cs (inside e.1) _ h).0
bodies_among cs (e ∷ es) h (suc k) = bodies_among cs es (among_parts cs (inside e.1) _ h).1 k

all_among : (xs : List PrintedItem) → AllAmong xs xs
all_among xs = each xs (λ i c. has_contained same_item item_exact item_itself xs i c)
  where
    each : (ys : List PrintedItem) → ((i : PrintedItem) → Contains ys i → Has xs i) → AllAmong xs ys
    each ys f = all_each (Has xs) ys f

reached_whole : (g : Grammar) (i : PrintedItem) → IsReached same_item (named_item g.start) (mentions g) i → Whole g (all_inside g) i
reached_whole g i (at_start {a} c) =
    all_contained (Whole g (all_inside g)) (named_item g.start)
    (written_whole g (all_inside g) g.start (among_parts (all_inside g) (inside g.start) _ (all_among (all_inside g))).0) a c
reached_whole g i (in_line {a} {x} r c) = all_contained (Whole g (all_inside g)) (mentions g x) (line_whole x (reached_whole g x r)) a c
  where
    line_whole : (x : PrintedItem) → Whole g (all_inside g) x → AllByRecursion (Whole g (all_inside g)) (mentions g x)
    line_whole (element k) h =
        written_whole g (all_inside g) (element_at g k).1
        (bodies_among (all_inside g) g.elements (among_parts (all_inside g) (inside g.start) _ (all_among (all_inside g))).1 k)
    line_whole (pattern s) h = parts_whole g (all_inside g) s h.1

pub items_there : (g : Grammar) → (items : List PrintedItem) × IsItemsOf g items
items_there g =
    numbering_there same_item item_exact item_itself (named_item g.start) (mentions g) (all_inside g) (λ i r. whole_has g (all_inside g) i (reached_whole g i r))

-- each grammar has a printed text
pub text_there : (g : Grammar) → (t : List ℕ) × IsPrinted g t
text_there g = let n = items_there g in (text_of g n.0, record { items = n.0; numbered = n.1; is = refl })
