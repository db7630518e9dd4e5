-- The text of a simple grammar: a line for each namespace, then a line for the start, for each element, and for each
-- pattern that has parts.
use Rattle.std.specs.Prelude.{◌≡◌, ℕ, ◌==◌, List, [], ◌∷◌, ◌++◌, flat_map, codes, decimal, Option, Some, None}
use Rattle.std.specs.List.{filter_map}
use Rattle.std.specs.Str.{bytes_eq}
use Rattle.rng_model.specs.names.Names.{NameClass, any_name, any_except, ns_name, ns_except, name_is, one_of, NameClasses, no_classes, class_and}
use Rattle.rng_model.specs.simple.Tree.{Simple, s_not_allowed, s_empty, s_text, s_leaf, s_attribute, s_list, s_data, s_data_except, s_value, s_one_or_more}
use Rattle.rng_model.specs.simple.Tree.{s_joined}
use Rattle.rng_model.specs.simple.Grammar.{Grammar}
use Rattle.rncv_model.specs.printed.Items.{first_times, place_in, same_tree, PrintedItem, element, pattern, element_at, IsItemsOf}
use Rattle.rncv_model.specs.printed.Words.{prefix_of, literal, class_text, type_text, datatype_text, connector_text}

-- ---- names

abbrev pub element_in : PrintedItem → Option ℕ
element_in (element k) = Some k
element_in (pattern s) = None

abbrev pub pattern_in : PrintedItem → Option (Simple ℕ)
pattern_in (element k) = None
pattern_in (pattern s) = Some s

-- e0, e1, .. for elements, and p0, p1, .. for patterns
abbrev pub item_name : List PrintedItem → PrintedItem → List ℕ
item_name items (element k) = codes "e" ++ decimal (place_in (λ k l. k == l) (filter_map element_in items) k)
item_name items (pattern s) = codes "p" ++ decimal (place_in same_tree (filter_map pattern_in items) s)

-- ---- the namespaces, in the order in which they are written as prefixes

abbrev pub namespace_if_any : List ℕ → List (List ℕ)
namespace_if_any [] = []
namespace_if_any (c ∷ u) = (c ∷ u) ∷ []

abbrev mutual
  pub namespaces_in : NameClass → List (List ℕ)
  namespaces_in any_name = []
  namespaces_in (any_except c) = namespaces_in c
  namespaces_in (ns_name u) = u ∷ []
  namespaces_in (ns_except u c) = u ∷ namespaces_in c
  namespaces_in (name_is n) = namespace_if_any n.ns
  namespaces_in (one_of c d cs) = namespaces_in c ++ (namespaces_in d ++ namespaces_among cs)

  pub namespaces_among : NameClasses → List (List ℕ)
  namespaces_among no_classes = []
  namespaces_among (class_and c cs) = namespaces_in c ++ namespaces_among cs

abbrev pub namespaces_of : Grammar → PrintedItem → List (List ℕ)
namespaces_of g (element k) = namespaces_in (element_at g k).0
namespaces_of g (pattern (s_attribute c a)) = namespaces_in c
namespaces_of g (pattern _) = []

-- the numbering of the namespaces
abbrev pub namespaces : Grammar → List PrintedItem → List (List ℕ)
namespaces g items = first_times bytes_eq (flat_map (namespaces_of g) items)

-- ---- lines

-- what is written for a pattern within a line
abbrev pub reference : List PrintedItem → Simple ℕ → List ℕ
reference items s_not_allowed = codes "notAllowed"
reference items s_empty = codes "empty"
reference items s_text = codes "text"
reference items (s_leaf k) = item_name items (element k)
reference items (s_data d) = datatype_text d
reference items (s_value d v) = type_text d ++ (codes " " ++ literal v)
reference items s = item_name items (pattern s)

-- what is after `=` in the line of a pattern
abbrev pub pattern_text : List (List ℕ) → List PrintedItem → Simple ℕ → List ℕ
pattern_text ns items (s_joined k a b) = reference items a ++ (connector_text k ++ reference items b)
pattern_text ns items (s_one_or_more a) = reference items a ++ codes "+"
pattern_text ns items (s_list a) = codes "list { " ++ (reference items a ++ codes " }")
pattern_text ns items (s_attribute c a) = codes "attribute " ++ (class_text ns c ++ (codes " { " ++ (reference items a ++ codes " }")))
pattern_text ns items (s_data_except d a) = datatype_text d ++ (codes " - " ++ reference items a)
pattern_text ns items s = reference items s

abbrev pub element_text : List (List ℕ) → List PrintedItem → NameClass × Simple ℕ → List ℕ
element_text ns items e = codes "element " ++ (class_text ns e.0 ++ (codes " { " ++ (reference items e.1 ++ codes " }")))

abbrev pub item_text : Grammar → List (List ℕ) → List PrintedItem → PrintedItem → List ℕ
item_text g ns items (element k) = element_text ns items (element_at g k)
item_text g ns items (pattern s) = pattern_text ns items s

-- a name, its text, and an LF
abbrev pub definition_line : List ℕ → List ℕ → List ℕ
definition_line name w = name ++ (codes " = " ++ (w ++ 0xA ∷ []))

abbrev pub namespace_line : List (List ℕ) → List ℕ → List ℕ
namespace_line ns u = codes "namespace " ++ definition_line (prefix_of ns u) (literal u)

abbrev pub item_line : Grammar → List (List ℕ) → List PrintedItem → PrintedItem → List ℕ
item_line g ns items i = definition_line (item_name items i) (item_text g ns items i)

-- the text with these namespaces and items
abbrev pub schema_lines : Grammar → List (List ℕ) → List PrintedItem → List ℕ
schema_lines g ns items = flat_map (namespace_line ns) ns ++ (definition_line (codes "start") (reference items g.start) ++ flat_map (item_line g ns items) items)

-- ---- the printed text

abbrev pub text_of : Grammar → List PrintedItem → List ℕ
text_of g items = schema_lines g (namespaces g items) items

-- the bytes are the printed text of the grammar
pub record IsPrinted (g : Grammar) (text : List ℕ) : Type 0 where
  pub items : List PrintedItem
  pub numbered : IsItemsOf g items
  pub is : text ≡ text_of g items
