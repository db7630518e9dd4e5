-- The marks that make up the text of a simple grammar, in the order of `PrintedText`.
use Rattle.std.specs.Prelude.{ℕ, Bool, true, false, ◌||◌, if◌then◌else◌, List, [], ◌∷◌, ◌++◌, flat_map, codes}
use Rattle.std.specs.Str.{bytes_eq}
use Rattle.rng_model.specs.names.Names.{NameClass, any_name, any_except, ns_name, ns_except, name_is, one_of, NameClasses, no_classes, class_and}
use Rattle.rng_model.specs.simple.Tree.{Datatype, Connector, choice, group, interleave, Simple, s_not_allowed, s_empty, s_text, s_leaf, s_attribute, s_list}
use Rattle.rng_model.specs.simple.Tree.{s_data}
use Rattle.rng_model.specs.simple.Tree.{s_data_except, s_value, s_one_or_more, s_joined}
use Rattle.rng_model.specs.simple.Grammar.{Grammar}
use Rattle.rnc_model.specs.declared.token.Sign.TheVariants.{Equal, Comma, Bar, And, Star, Plus, Minus, OpenBrace, CloseBrace, OpenParenthesis, CloseParenthesis}
use Rattle.rnc_model.specs.declared.token.Sign.TheVariants.{Tilde}
use Rattle.rncv_model.specs.printed.Items.{PrintedItem, element, pattern, element_at}
use Rattle.rncv_model.specs.printed.PrintedText.{item_name, namespaces}
use Rattle.rncv_model.specs.printed.Words.{prefix_of, runs_of, is_choice, is_except}
use Rattle.rnc_text.specs.plain.Marks.{Mark, space, line_end, word, cname, segment, sign}
use Rattle.rnc_text.specs.plain.Marks as marks

-- ---- literals

abbrev pub run_mark : ℕ × List ℕ → Mark
run_mark run = segment run.0 run.1

abbrev pub more_run_marks : List (ℕ × List ℕ) → List Mark
more_run_marks runs = flat_map (λ run. space ∷ sign Tilde ∷ space ∷ run_mark run ∷ []) runs

abbrev pub joined_run_marks : List (ℕ × List ℕ) → List Mark
joined_run_marks [] = segment 0x22 [] ∷ []
joined_run_marks (run ∷ runs) = run_mark run ∷ more_run_marks runs

abbrev pub literal_marks : List ℕ → List Mark
literal_marks w = joined_run_marks (runs_of w)

-- ---- name classes

abbrev pub in_parentheses_if : Bool → List Mark → List Mark
in_parentheses_if true ms = sign OpenParenthesis ∷ (ms ++ sign CloseParenthesis ∷ [])
in_parentheses_if false ms = ms

abbrev pub name_mark : List (List ℕ) → List ℕ → List ℕ → Mark
name_mark namespaces [] local = word local
name_mark namespaces (c ∷ u) local = cname (prefix_of namespaces (c ∷ u)) local

abbrev mutual
  pub class_marks : List (List ℕ) → NameClass → List Mark
  class_marks ns any_name = sign Star ∷ []
  class_marks ns (any_except c) = sign Star ∷ space ∷ sign Minus ∷ space ∷ in_parentheses_if (is_choice c || is_except c) (class_marks ns c)
  class_marks ns (ns_name u) = marks.ns_name (prefix_of ns u) ∷ []
  class_marks ns (ns_except u c) =
      marks.ns_name (prefix_of ns u) ∷ space ∷ sign Minus ∷ space ∷ in_parentheses_if (is_choice c || is_except c) (class_marks ns c)
  class_marks ns (name_is n) = name_mark ns n.ns n.local ∷ []
  class_marks ns (one_of c d cs) =
      in_parentheses_if (is_except c) (class_marks ns c) ++ space ∷ sign Bar ∷ space ∷
      (in_parentheses_if (is_choice d || is_except d) (class_marks ns d) ++ classes_marks ns cs)

  pub classes_marks : List (List ℕ) → NameClasses → List Mark
  classes_marks ns no_classes = []
  classes_marks ns (class_and c cs) = space ∷ sign Bar ∷ space ∷ (in_parentheses_if (is_choice c || is_except c) (class_marks ns c) ++ classes_marks ns cs)

-- ---- lines

abbrev pub type_mark : Datatype → Mark
type_mark d = if bytes_eq d.library [] then word d.name else cname (codes "xsd") d.name

abbrev pub parameter_marks : List ℕ × List ℕ → List Mark
parameter_marks p = word p.0 ∷ space ∷ sign Equal ∷ space ∷ (literal_marks p.1 ++ space ∷ [])

abbrev pub parameters_marks : List (List ℕ × List ℕ) → List Mark
parameters_marks [] = []
parameters_marks (p ∷ ps) = space ∷ sign OpenBrace ∷ space ∷ (flat_map parameter_marks (p ∷ ps) ++ sign CloseBrace ∷ [])

abbrev pub datatype_marks : Datatype → List Mark
datatype_marks d = type_mark d ∷ parameters_marks d.parameters

abbrev pub reference_marks : List PrintedItem → Simple ℕ → List Mark
reference_marks items s_not_allowed = word (codes "notAllowed") ∷ []
reference_marks items s_empty = word (codes "empty") ∷ []
reference_marks items s_text = word (codes "text") ∷ []
reference_marks items (s_leaf k) = word (item_name items (element k)) ∷ []
reference_marks items (s_data d) = datatype_marks d
reference_marks items (s_value d v) = type_mark d ∷ space ∷ literal_marks v
reference_marks items s = word (item_name items (pattern s)) ∷ []

abbrev pub connector_marks : Connector → List Mark
connector_marks choice = space ∷ sign Bar ∷ space ∷ []
connector_marks group = sign Comma ∷ space ∷ []
connector_marks interleave = space ∷ sign And ∷ space ∷ []

abbrev pub braced_marks : List Mark → List Mark
braced_marks ms = sign OpenBrace ∷ space ∷ (ms ++ space ∷ sign CloseBrace ∷ [])

abbrev pub pattern_marks : List (List ℕ) → List PrintedItem → Simple ℕ → List Mark
pattern_marks ns items (s_joined k a b) = reference_marks items a ++ (connector_marks k ++ reference_marks items b)
pattern_marks ns items (s_one_or_more a) = reference_marks items a ++ sign Plus ∷ []
pattern_marks ns items (s_list a) = word (codes "list") ∷ space ∷ braced_marks (reference_marks items a)
pattern_marks ns items (s_attribute c a) = word (codes "attribute") ∷ space ∷ (class_marks ns c ++ space ∷ braced_marks (reference_marks items a))
pattern_marks ns items (s_data_except d a) = datatype_marks d ++ space ∷ sign Minus ∷ space ∷ reference_marks items a
pattern_marks ns items s = reference_marks items s

abbrev pub element_marks : List (List ℕ) → List PrintedItem → NameClass × Simple ℕ → List Mark
element_marks ns items e = word (codes "element") ∷ space ∷ (class_marks ns e.0 ++ space ∷ braced_marks (reference_marks items e.1))

abbrev pub item_marks : Grammar → List (List ℕ) → List PrintedItem → PrintedItem → List Mark
item_marks g ns items (element k) = element_marks ns items (element_at g k)
item_marks g ns items (pattern s) = pattern_marks ns items s

abbrev pub line_marks : List ℕ → List Mark → List Mark
line_marks name ms = word name ∷ space ∷ sign Equal ∷ space ∷ (ms ++ line_end ∷ [])

abbrev pub namespace_marks : List (List ℕ) → List ℕ → List Mark
namespace_marks ns u = word (codes "namespace") ∷ space ∷ line_marks (prefix_of ns u) (literal_marks u)

abbrev pub item_line_marks : Grammar → List (List ℕ) → List PrintedItem → PrintedItem → List Mark
item_line_marks g ns items i = line_marks (item_name items i) (item_marks g ns items i)

abbrev pub lines_marks : Grammar → List (List ℕ) → List PrintedItem → List Mark
lines_marks g ns items =
    flat_map (namespace_marks ns) ns ++ (line_marks (codes "start") (reference_marks items g.start) ++ flat_map (item_line_marks g ns items) items)

abbrev pub marks_of : Grammar → List PrintedItem → List Mark
marks_of g items = lines_marks g (namespaces g items) items
