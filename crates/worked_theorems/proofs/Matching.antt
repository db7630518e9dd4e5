-- Matching (RELAX NG Specification, section 6.2): small documents, by small grammars.
use Rattle.std.proofs.Common.{◌≡◌, ℕ, List, [], ◌∷◌, ◌++◌, codes, refl, sym, ap, ◌∙◌, subst, Option, Some, None, true≢false, arith}
use Rattle.std.specs.Prelude.{IsTrue}
use Rattle.rng_model.specs.names.Names.{Name, NameClass, any_name, name_is, In}
use Rattle.rng_model.specs.simple.Tree.{Datatype, Tree, group, interleave, as_tree, leaf, value, data_except, Simple, s_empty, s_not_allowed}
use Rattle.rng_model.specs.simple.Tree.{s_text, s_leaf, s_attribute, s_list, s_data, s_data_except, s_value, s_one_or_more, s_joined}
use Rattle.rng_model.specs.simple.Grammar.{Grammar}
use Rattle.rng_model.specs.matching.Document.{Attribute, Item, a_text, an_element, Items, no_items, item_and, list_of, done, left, right}
use Rattle.rng_model.specs.matching.Document.{in_order, in_any_order, text_and, no_texts, SharesName, same, later_left, later_right}
use Rattle.rng_model.specs.matching.Document.{Padded, alone, before, after, both_sides}
use Rattle.rng_model.specs.datatypes.Texts.{Texts, texts_of, pieces, collapse}
use Rattle.rng_model.specs.matching.Matching.{Matches, Weakly, empty_is, text_is, all, once, more, attribute_is, element_is, data_is, data_but, value_is}
use Rattle.rng_model.specs.matching.Matching.{list_is, stands_for, none, and, as_is, blank_text, nothing_there, HasText}
use Rattle.rng_model.specs.matching.GrammarMatching.{is_listed, grammar_leaves, IsValidBy}
use Rattle.rng_model.specs.datatypes.Datatypes.{text_tests, type_named}

-- ---- the grammars and documents of this file

abbrev name : List ℕ → Name
name local = record { ns = []; local = local }

-- `element r { body }`, where `a` and `b` in the body are `element a { empty }` and `element b { empty }`
abbrev root_with : Simple ℕ → Grammar
root_with body = record {
  start = s_leaf 0;
  elements = (name_is (name (codes "r")), body) ∷ (name_is (name (codes "a")), s_empty) ∷ (name_is (name (codes "b")), s_empty) ∷ [];
}

abbrev pattern_a : Simple ℕ
pattern_a = s_leaf 1

abbrev pattern_b : Simple ℕ
pattern_b = s_leaf 2

abbrev items : List Item → Items
items [] = no_items
items (n ∷ ns) = item_and n (items ns)

abbrev root : List Attribute → List Item → Item
root attrs ns = an_element (name (codes "r")) attrs (items ns)

abbrev item_a : Item
item_a = an_element (name (codes "a")) [] no_items

abbrev item_b : Item
item_b = an_element (name (codes "b")) [] no_items

abbrev blank : Item
blank = a_text (codes " ")

abbrev the_texts : Texts
the_texts = texts_of text_tests

-- the document with this root is valid by `element r { body }`
abbrev IsValidRoot : Simple ℕ → Item → Type 0
IsValidRoot body document = IsValidBy (root_with body) the_texts document

-- in this grammar, a tree matches attributes and items
abbrev Takes : Simple ℕ → Tree ℕ → List Attribute → List Item → Type 0
Takes body tree attrs ns = Matches (grammar_leaves (root_with body) the_texts) In the_texts tt tree attrs ns

abbrev TakesWeakly : Simple ℕ → Tree ℕ → List Attribute → List Item → Type 0
TakesWeakly body tree attrs ns = Weakly (grammar_leaves (root_with body) the_texts) In the_texts tt tree attrs ns

-- the root is valid if the body matches its attributes and items weakly
into : (body : Simple ℕ) (attrs : List Attribute) (kids : Items) → TakesWeakly body (as_tree body) attrs (list_of kids) →
    IsValidRoot body (an_element (name (codes "r")) attrs kids)
into body attrs kids w = element_is {y = tt} {c = name_is (name (codes "r"))} (is_listed {s = body} refl refl) refl refl w alone

takes_a : (body : Simple ℕ) (ns : List Item) → Padded the_texts.blank item_a ns → Takes body (leaf 1) [] ns
takes_a body ns padded = element_is {y = tt} {c = name_is (name (codes "a"))} (is_listed {s = s_empty} refl refl) refl refl (as_is empty_is) padded

takes_b : (body : Simple ℕ) (ns : List Item) → Padded the_texts.blank item_b ns → Takes body (leaf 2) [] ns
takes_b body ns padded = element_is {y = tt} {c = name_is (name (codes "b"))} (is_listed {s = s_empty} refl refl) refl refl (as_is empty_is) padded

-- ---- blanks between elements

abbrev a_then_b : Simple ℕ
a_then_b = s_joined group pattern_a pattern_b

-- `<r> <a/> <b/> </r>` is valid by `element r { a, b }`: blank text beside elements counts as nothing (section 6.2.7)
blanks_count_as_nothing : IsValidRoot a_then_b (root [] (blank ∷ item_a ∷ blank ∷ item_b ∷ blank ∷ []))
blanks_count_as_nothing = into a_then_b [] (items (blank ∷ item_a ∷ blank ∷ item_b ∷ blank ∷ [])) (as_is (all
    (takes_a a_then_b (blank ∷ item_a ∷ []) (before refl))
    (and (takes_b a_then_b (blank ∷ item_b ∷ blank ∷ []) (both_sides refl refl)) none done (in_order refl)) done (in_order refl)))

-- ---- any order

abbrev a_and_b : Simple ℕ
a_and_b = s_joined interleave pattern_a pattern_b

-- `<r><b/><a/></r>` is valid by `element r { a & b }`: an interleave takes its parts in any order (section 6.2.6)
parts_in_any_order : IsValidRoot a_and_b (root [] (item_b ∷ item_a ∷ []))
parts_in_any_order = into a_and_b [] (items (item_b ∷ item_a ∷ [])) (as_is (all (takes_a a_and_b (item_a ∷ []) alone)
    (and (takes_b a_and_b (item_b ∷ []) alone) none done (in_any_order (left done))) done (in_any_order (right (left done)))))

-- ---- what is not valid

abbrev body_in : Option (NameClass × Simple ℕ) → Simple ℕ
body_in None = s_not_allowed
body_in (Some e) = e.1

-- if the root is valid, the body matches its attributes and items weakly
pub out_of : (body : Simple ℕ) (attrs : List Attribute) (kids : Items) → IsValidRoot body (an_element (name (codes "r")) attrs kids) →
    TakesWeakly body (as_tree body) attrs (list_of kids)
out_of body attrs kids (element_is {q = q} {xs = ys} {kids = found} {ns = inner} (is_listed {c = c} {s = s} is e) i k w alone) =
    let body_is : s ≡ body = sym (ap body_in is) in
    subst (λ b. TakesWeakly body (as_tree b) attrs (list_of kids)) body_is
    (subst (λ l. TakesWeakly body (as_tree s) attrs l) k (subst (λ t. TakesWeakly body t attrs inner) e w))
out_of body attrs kids (stands_for s m) = elim s [ ]

-- what an element of this name takes: an element with this name, and perhaps a blank text on either side
abbrev IsElementNamed : Name → List Item → Type 0
IsElementNamed n ns = (q : Name) × (ys : List Attribute) × (kids : Items) × (q ≡ n) × Padded the_texts.blank (an_element q ys kids) ns

abbrev class_in : Option (NameClass × Simple ℕ) → NameClass
class_in None = any_name
class_in (Some e) = e.0

a_takes : (body : Simple ℕ) (xs : List Attribute) (ns : List Item) → Takes body (leaf 1) xs ns → IsElementNamed (name (codes "a")) ns
a_takes body xs ns (element_is {q = q} {xs = ys} {kids = found} {ns = inner} (is_listed {c = c} {s = s} is e) i k w padded) =
    let class_is : c ≡ name_is (name (codes "a")) = sym (ap class_in is) in
    (q, ys, found, subst (λ d. In d q) class_is i, padded)
a_takes body xs ns (stands_for s m) = elim s [ ]

b_takes : (body : Simple ℕ) (xs : List Attribute) (ns : List Item) → Takes body (leaf 2) xs ns → IsElementNamed (name (codes "b")) ns
b_takes body xs ns (element_is {q = q} {xs = ys} {kids = found} {ns = inner} (is_listed {c = c} {s = s} is e) i k w padded) =
    let class_is : c ≡ name_is (name (codes "b")) = sym (ap class_in is) in
    (q, ys, found, subst (λ d. In d q) class_is i, padded)
b_takes body xs ns (stands_for s m) = elim s [ ]

-- a text that is not blank is beside no element
no_text_before : (n : Name) (others : List Item) → ¬ (IsElementNamed n (a_text (codes "x") ∷ others))
no_text_before n others (q, ys, kids, e, before h) = true≢false (sym h)
no_text_before n others (q, ys, kids, e, both_sides h g) = true≢false (sym h)

-- `<r>x<a/></r>` is not valid by `element r { a }`: a text that is not blank counts (section 6.2.7)
text_counts : ¬ (IsValidRoot pattern_a (root [] (a_text (codes "x") ∷ item_a ∷ [])))
text_counts v = refuted (out_of pattern_a [] (items (a_text (codes "x") ∷ item_a ∷ [])) v) where
  refuted : ¬ (TakesWeakly pattern_a (leaf 1) [] (a_text (codes "x") ∷ item_a ∷ []))
  refuted (as_is m) = no_text_before (name (codes "a")) (item_a ∷ []) (a_takes pattern_a [] _ m)

abbrev name_in : List Item → Name
name_in (an_element q ys kids ∷ ns) = q
name_in ns = name []

abbrev first_of : List ℕ → ℕ
first_of [] = 0
first_of (c ∷ cs) = c

a_is_not_b : ¬ (name (codes "a") ≡ name (codes "b"))
a_is_not_b e =
    let same : ◌≡◌ {A = ℕ} 97 98 = ap (λ n. first_of n.local) e in
    omega (arith, same)

-- what `a` takes first is not `b`
not_b_first : (ms ns others : List Item) → IsElementNamed (name (codes "a")) ms → ms ++ ns ≡ item_b ∷ others → ⊥
not_b_first ms ns others (q, ys, kids, e, alone) parts = a_is_not_b (sym e ∙ ap name_in parts)
not_b_first ms ns others (q, ys, kids, e, before h) parts = cc
not_b_first ms ns others (q, ys, kids, e, after h) parts = a_is_not_b (sym e ∙ ap name_in parts)
not_b_first ms ns others (q, ys, kids, e, both_sides h g) parts = cc

-- `<r><b/><a/></r>` is not valid by `element r { a, b }`: a group takes its parts in order (section 6.2.2)
group_is_in_order : ¬ (IsValidRoot a_then_b (root [] (item_b ∷ item_a ∷ [])))
group_is_in_order v = refuted (out_of a_then_b [] (items (item_b ∷ item_a ∷ [])) v) where
  refuted : ¬ (TakesWeakly a_then_b (as_tree a_then_b) [] (item_b ∷ item_a ∷ []))
  refuted (as_is (all {ms = ms} {ns = ns} d e i (in_order parts))) = not_b_first ms ns (item_a ∷ []) (a_takes a_then_b _ ms d) parts

-- ---- attributes

abbrev attribute_named : List ℕ → List ℕ → Attribute
attribute_named local content = record { name = name local; content = content }

abbrev any_attribute : Simple ℕ
any_attribute = s_attribute any_name s_text

takes_one_attribute : (body : Simple ℕ) (a : Attribute) → Takes body (as_tree any_attribute) (a ∷ []) []
takes_one_attribute body a = attribute_is tt (as_is (text_is (text_and no_texts)))

abbrev x_is_1 : Attribute
x_is_1 = attribute_named (codes "x") (codes "1")

abbrev y_is_2 : Attribute
y_is_2 = attribute_named (codes "y") (codes "2")

x_and_y_are_two : ¬ (SharesName (x_is_1 ∷ []) (y_is_2 ∷ []))
x_and_y_are_two (same e) =
    let heads : ◌≡◌ {A = ℕ} 120 121 = ap (λ n. first_of n.local) e in
    omega (arith, heads)
x_and_y_are_two (later_left (later_right s)) = elim s [ ]
x_and_y_are_two (later_right (later_left s)) = elim s [ ]

-- `<r x="1" y="2"/>` is valid by `element r { attribute * { text }+ }`: each repetition takes one attribute (section 6.2.5)
wildcard_is_repeated : IsValidRoot (s_one_or_more any_attribute) (root (x_is_1 ∷ y_is_2 ∷ []) [])
wildcard_is_repeated = into (s_one_or_more any_attribute) (x_is_1 ∷ y_is_2 ∷ []) no_items (as_is
    (more (takes_one_attribute (s_one_or_more any_attribute) x_is_1) (once (takes_one_attribute (s_one_or_more any_attribute) y_is_2)) x_and_y_are_two
    (left (right done)) refl))

-- it is not valid by `element r { attribute * { text } }`: an attribute pattern takes one attribute (section 6.2.7)
wildcard_takes_one : ¬ (IsValidRoot any_attribute (root (x_is_1 ∷ y_is_2 ∷ []) []))
wildcard_takes_one v = refuted (out_of any_attribute (x_is_1 ∷ y_is_2 ∷ []) no_items v) where
  refuted : ¬ (TakesWeakly any_attribute (as_tree any_attribute) (x_is_1 ∷ y_is_2 ∷ []) [])
  refuted (as_is m) = elim m [ ]
  refuted (nothing_there m) = elim m [ ]

-- ---- texts

abbrev token_type : Datatype
token_type = record { library = []; name = codes "token"; parameters = [] }

abbrev string_type : Datatype
string_type = record { library = []; name = codes "string"; parameters = [] }

abbrev y_and_token : Simple ℕ
y_and_token = s_list (s_joined group (s_value token_type (codes "y")) (s_data token_type))

-- `<r>y z</r>` is valid by `element r { list { "y", token } }`: a list takes the pieces between blanks (section 6.2.10)
list_takes_pieces : IsValidRoot y_and_token (root [] (a_text (codes "y z") ∷ []))
unfolding pieces collapse type_named
list_takes_pieces = into y_and_token [] (items (a_text (codes "y z") ∷ [])) (as_is (list_is {ns = a_text (codes "y") ∷ a_text (codes "z") ∷ []} refl
    (all (value_is refl) (and (data_is refl) none done (in_order refl)) done (in_order refl))))

-- `<r>z y</r>` is not: the pieces are taken in order (section 6.2.10)
list_is_in_order : ¬ (IsValidRoot y_and_token (root [] (a_text (codes "z y") ∷ [])))
unfolding pieces collapse type_named
list_is_in_order v = refuted (out_of y_and_token [] (items (a_text (codes "z y") ∷ [])) v) where
  text_in : List Item → List ℕ
  text_in (a_text s ∷ ns) = s
  text_in ns = []

  first_is_z : (w : List ℕ) (ns os : List Item) → a_text w ∷ ns ≡ os → os ≡ a_text (codes "z") ∷ a_text (codes "y") ∷ [] → w ≡ codes "z"
  first_is_z w ns os parts e = ap text_in (parts ∙ e)

  not_z : (w : List ℕ) → w ≡ codes "z" → ¬ (IsTrue (text_tests.equals token_type (codes "y") w))
  not_z w e h = true≢false (sym (subst (λ w. IsTrue (text_tests.equals token_type (codes "y") w)) e h))

  refuted : ¬ (TakesWeakly y_and_token (as_tree y_and_token) [] (a_text (codes "z y") ∷ []))
  refuted (as_is (list_is e (all (value_is {w = w} h) rest i (in_order parts)))) = not_z w (first_is_z w _ _ parts e) h
  refuted (blank_text m b) = elim m [ ]

-- `<r> y </r>` is valid by `element r { "y" }`, since a `token` is compared without the blanks around it (section 6.2.9)
token_is_collapsed : IsValidRoot (s_value token_type (codes "y")) (root [] (a_text (codes " y ") ∷ []))
unfolding pieces collapse type_named
token_is_collapsed = into (s_value token_type (codes "y")) [] (items (a_text (codes " y ") ∷ [])) (as_is (value_is refl))

-- it is not valid by `element r { string "y" }`: a `string` is compared exactly (section 6.2.9)
string_is_exact : ¬ (IsValidRoot (s_value string_type (codes "y")) (root [] (a_text (codes " y ") ∷ [])))
unfolding type_named
string_is_exact v = refuted (out_of (s_value string_type (codes "y")) [] (items (a_text (codes " y ") ∷ [])) v) where
  refuted : ¬ (TakesWeakly (s_value string_type (codes "y")) (value string_type (codes "y")) [] (a_text (codes " y ") ∷ []))
  refuted (as_is (value_is h)) = true≢false (sym h)
  refuted (blank_text m b) = elim m [ ]

-- `token - "x"`
abbrev not_x : Simple ℕ
not_x = s_data_except token_type (s_value token_type (codes "x"))

abbrev literal_x : Tree ℕ
literal_x = value token_type (codes "x")

abbrev first_text : List (List ℕ) → List ℕ
first_text [] = []
first_text (w ∷ ws) = w

-- `<r>y</r>` is valid by `element r { token - "x" }` (section 6.2.8)
except_is_avoided : IsValidRoot not_x (root [] (a_text (codes "y") ∷ []))
unfolding pieces collapse type_named
except_is_avoided = into not_x [] (items (a_text (codes "y") ∷ [])) (as_is (data_but refl has_no_y)) where
  has_no_y : ¬ (HasText {L = ℕ} the_texts literal_x (codes "y"))
  has_no_y (w, e, h) =
      true≢false (sym (subst (λ u. IsTrue (text_tests.equals token_type (codes "x") u)) (sym (ap first_text e)) h))

-- `<r> x </r>` is not valid by it: its text has the value of the except (section 6.2.8)
except_is_by_value : ¬ (IsValidRoot not_x (root [] (a_text (codes " x ") ∷ [])))
unfolding pieces collapse type_named
except_is_by_value v = refuted (out_of not_x [] (items (a_text (codes " x ") ∷ [])) v) where
  refuted : ¬ (TakesWeakly not_x (data_except token_type literal_x) [] (a_text (codes " x ") ∷ []))
  refuted (as_is (data_but allowed has_none)) = has_none (codes " x ", refl, refl)
  refuted (blank_text m b) = elim m [ ]

-- `<r/>` is valid by `element r { "" }`: if an element has nothing, that counts as the empty text too (section 6.2.7)
nothing_is_the_empty_text : IsValidRoot (s_value token_type []) (root [] [])
unfolding pieces collapse type_named
nothing_is_the_empty_text = into (s_value token_type []) [] no_items (nothing_there (value_is refl))

-- `<r> </r>` is valid by `element r { empty }`: blank text that is all of the content counts as nothing (section 6.2.7)
blank_is_empty : IsValidRoot s_empty (root [] (blank ∷ []))
blank_is_empty = into s_empty [] (items (blank ∷ [])) (blank_text empty_is refl)
