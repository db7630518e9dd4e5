-- The items of a simple grammar: what has its own line in its text, numbered in the order in which they first occur there.
use Rattle.std.specs.Prelude.{◌≡◌, ℕ, Bool, if◌then◌else◌, List, [], ◌∷◌, ◌++◌, flat_map, Contains, true, false, ◌&&◌, ◌==◌}
use Rattle.std.specs.List.{list_any, position_or_len, AllByRecursion, slice_index_or}
use Rattle.std.specs.Str.{bytes_eq}
use Rattle.rng_model.specs.names.Names.{Name, NameClass, any_name, any_except, ns_name, ns_except, name_is, one_of, NameClasses, no_classes, class_and}
use Rattle.rng_model.specs.simple.Tree.{Datatype, Connector, choice, group, interleave, Simple, s_not_allowed, s_empty, s_text, s_leaf, s_attribute, s_list}
use Rattle.rng_model.specs.simple.Tree.{s_data, s_data_except, s_value, s_one_or_more, s_joined}
use Rattle.rng_model.specs.simple.Grammar.{Grammar}

module _ {A : Type 0} (same : A → A → Bool) where
  -- the list has this member
  abbrev pub has : List A → A → Bool
  has xs a = list_any (same a) xs

  -- the list, with the thing at the end, unless the list has it already
  abbrev pub with_new : List A → A → List A
  with_new xs a = if has xs a then xs else xs ++ a ∷ []

  -- the list, followed by those of the others that are new, in order
  abbrev pub and_new : List A → List A → List A
  and_new xs [] = xs
  and_new xs (a ∷ more) = and_new (with_new xs a) more

  -- each member once, in the order in which they first occur
  abbrev pub first_times : List A → List A
  first_times xs = and_new [] xs

  -- how many members are before it
  abbrev pub place_in : List A → A → ℕ
  place_in xs a = position_or_len (same a) xs

  -- what is written at the start, or in the line of something that is reached
  pub data IsReached (start : List A) (line : A → List A) : A → Type 0 where
    at_start : {a : A} → Contains start a → IsReached start line a
    in_line : {a x : A} → IsReached start line x → Contains (line x) a → IsReached start line a

  -- A numbering: all that is reached, each once, in the order in which it first occurs in the text. The text is the
  -- start, and then the line of each thing.
  pub record IsNumbering (start : List A) (line : A → List A) (all : List A) : Type 0 where
    pub in_order : all ≡ first_times (start ++ flat_map line all)
    pub reached : AllByRecursion (IsReached start line) all

-- ---- whether two trees are equal, as a test

abbrev pub same_expanded_name : Name → Name → Bool
same_expanded_name a b = bytes_eq a.ns b.ns && bytes_eq a.local b.local

abbrev mutual
  pub same_class : NameClass → NameClass → Bool
  same_class any_name any_name = true
  same_class (any_except c) (any_except d) = same_class c d
  same_class (ns_name u) (ns_name v) = bytes_eq u v
  same_class (ns_except u c) (ns_except v d) = bytes_eq u v && same_class c d
  same_class (name_is n) (name_is m) = same_expanded_name n m
  same_class (one_of a b cs) (one_of c d ds) = same_class a c && (same_class b d && same_classes cs ds)
  same_class _ _ = false

  pub same_classes : NameClasses → NameClasses → Bool
  same_classes no_classes no_classes = true
  same_classes (class_and c cs) (class_and d ds) = same_class c d && same_classes cs ds
  same_classes _ _ = false

abbrev pub same_parameters : List (List ℕ × List ℕ) → List (List ℕ × List ℕ) → Bool
same_parameters [] [] = true
same_parameters (p ∷ ps) (q ∷ qs) = (bytes_eq p.0 q.0 && bytes_eq p.1 q.1) && same_parameters ps qs
same_parameters _ _ = false

abbrev pub same_datatype : Datatype → Datatype → Bool
same_datatype a b = bytes_eq a.library b.library && (bytes_eq a.name b.name && same_parameters a.parameters b.parameters)

abbrev pub same_connector : Connector → Connector → Bool
same_connector choice choice = true
same_connector group group = true
same_connector interleave interleave = true
same_connector _ _ = false

abbrev pub same_tree : Simple ℕ → Simple ℕ → Bool
same_tree s_not_allowed s_not_allowed = true
same_tree s_empty s_empty = true
same_tree s_text s_text = true
same_tree (s_leaf k) (s_leaf l) = k == l
same_tree (s_attribute c a) (s_attribute d b) = same_class c d && same_tree a b
same_tree (s_list a) (s_list b) = same_tree a b
same_tree (s_data d) (s_data e) = same_datatype d e
same_tree (s_data_except d a) (s_data_except e b) = same_datatype d e && same_tree a b
same_tree (s_value d v) (s_value e w) = same_datatype d e && bytes_eq v w
same_tree (s_one_or_more a) (s_one_or_more b) = same_tree a b
same_tree (s_joined k a b) (s_joined l c d) = same_connector k l && (same_tree a c && same_tree b d)
same_tree _ _ = false

-- ---- items: what has its own line

-- an element, named by its position among the grammar's elements, or a pattern that has parts; equal patterns are one
-- item
pub data PrintedItem : Type 0 where
  element : ℕ → PrintedItem
  pattern : Simple ℕ → PrintedItem

abbrev pub same_item : PrintedItem → PrintedItem → Bool
same_item (element k) (element l) = k == l
same_item (pattern a) (pattern b) = same_tree a b
same_item _ _ = false

-- the item whose name is written for a pattern, if there is one
abbrev pub named_item : Simple ℕ → List PrintedItem
named_item s_not_allowed = []
named_item s_empty = []
named_item s_text = []
named_item (s_data d) = []
named_item (s_value d v) = []
named_item (s_leaf k) = element k ∷ []
named_item s = pattern s ∷ []

-- the class and the body of an element
abbrev pub element_at : Grammar → ℕ → NameClass × Simple ℕ
element_at g k = slice_index_or g.elements k (any_name, s_not_allowed)

-- the items whose names the line of a pattern writes
abbrev pub parts_of : Simple ℕ → List PrintedItem
parts_of (s_attribute c a) = named_item a
parts_of (s_list a) = named_item a
parts_of (s_data_except d a) = named_item a
parts_of (s_one_or_more a) = named_item a
parts_of (s_joined k a b) = named_item a ++ named_item b
parts_of _ = []

-- the items whose names the line of an item writes, after its own name
abbrev pub mentions : Grammar → PrintedItem → List PrintedItem
mentions g (element k) = named_item (element_at g k).1
mentions g (pattern s) = parts_of s

-- the numbering of the items: those that the start reaches, in the order in which their names first occur in the text
abbrev pub IsItemsOf : Grammar → List PrintedItem → Type 0
IsItemsOf g items = IsNumbering same_item (named_item g.start) (mentions g) items
