-- The printed text is that of its marks.
use Rattle.std.proofs.Common.{◌≡◌, ◌∙◌, ℕ, Bool, true, false, List, [], ◌∷◌, ◌++◌, flat_map, refl, sym, ap, append_assoc, codes}
use Rattle.std.specs.Prelude.{◌||◌, cond}
use Rattle.std.specs.Str.{bytes_eq}
use Rattle.std.proofs.lemmas.List.{append-nil}
use Rattle.rng_model.specs.names.Names.{NameClass, any_name, any_except, ns_name, ns_except, name_is, one_of, NameClasses, no_classes, class_and}
use Rattle.rng_model.specs.simple.Tree.{Datatype, Connector, choice, group, interleave, Simple, s_not_allowed, s_empty, s_text, s_leaf, s_attribute, s_list}
use Rattle.rng_model.specs.simple.Tree.{s_data}
use Rattle.rng_model.specs.simple.Tree.{s_data_except, s_value, s_one_or_more, s_joined}
use Rattle.rng_model.specs.simple.Grammar.{Grammar}
use Rattle.rnc_model.specs.declared.token.Sign.TheVariants as signs
use Rattle.rncv_model.specs.printed.Words as printed
use Rattle.rncv_model.specs.printed.Items.{PrintedItem, element, pattern, element_at}
use Rattle.rncv_model.specs.printed.PrintedText.{item_name, namespaces, reference, pattern_text, item_text, definition_line, namespace_line}
use Rattle.rncv_model.specs.printed.PrintedText.{item_line, schema_lines, text_of}
use Rattle.rncv_model.specs.printed.Words.{prefix_of, escaped, runs_of, is_choice, is_except, run_text, joined_runs, literal, class_text}
use Rattle.rncv_model.specs.printed.Words.{classes_text, name_text, type_text, parameter_text, parameters_text, datatype_text, connector_text}
use Rattle.rnc_text.specs.plain.Marks.{Mark, space, line_end, word, cname, sign, mark_text, text_of_marks}
use Rattle.rnc_text.specs.plain.Marks as marks
use Rattle.rnc_print_laws.specs.plain.PrintedMarks.{run_mark, joined_run_marks, literal_marks, in_parentheses_if, name_mark, class_marks, classes_marks}
use Rattle.rnc_print_laws.specs.plain.PrintedMarks.{type_mark}
use Rattle.rnc_print_laws.specs.plain.PrintedMarks.{parameter_marks, parameters_marks, datatype_marks, reference_marks, connector_marks, braced_marks}
use Rattle.rnc_print_laws.specs.plain.PrintedMarks.{pattern_marks}
use Rattle.rnc_print_laws.specs.plain.PrintedMarks.{item_marks, line_marks, namespace_marks, item_line_marks, lines_marks, marks_of}

pub text_append : (ms ns : List Mark) → text_of_marks escaped (ms ++ ns) ≡ text_of_marks escaped ms ++ text_of_marks escaped ns
text_append [] ns = refl
text_append (m ∷ ms) ns =
    ap (λ (x : List ℕ). mark_text escaped m ++ x) (text_append ms ns)
    ∙ sym (append_assoc (mark_text escaped m) (text_of_marks escaped ms) (text_of_marks escaped ns))

-- a text of marks in front, followed by more
behind : (w v : List ℕ) (ms ns : List Mark) → w ≡ text_of_marks escaped ms → v ≡ text_of_marks escaped ns → w ++ v ≡ text_of_marks escaped (ms ++ ns)
behind w v ms ns e f = rw (e, f) (sym (text_append ms ns))

each_text : {A : Type 0} (f : A → List ℕ) (g : A → List Mark) → ((a : A) → f a ≡ text_of_marks escaped (g a)) → (all : List A)
    → flat_map f all ≡ text_of_marks escaped (flat_map g all)
each_text f g h [] = refl
each_text f g h (a ∷ all) = behind (f a) (flat_map f all) (g a) (flat_map g all) (h a) (each_text f g h all)

alone : (m : Mark) → mark_text escaped m ≡ text_of_marks escaped (m ∷ [])
alone m = sym (append-nil (mark_text escaped m))

-- ---- literals

run_alone : (run : ℕ × List ℕ) → run_text run ≡ text_of_marks escaped (run_mark run ∷ [])
run_alone run = alone (run_mark run)

more_alone : (run : ℕ × List ℕ) → codes " ~ " ++ run_text run ≡ text_of_marks escaped (space ∷ sign signs.Tilde ∷ space ∷ run_mark run ∷ [])
more_alone run = ap (λ (x : List ℕ). codes " ~ " ++ x) (run_alone run)

joined_text : (runs : List (ℕ × List ℕ)) → joined_runs runs ≡ text_of_marks escaped (joined_run_marks runs)
joined_text [] = refl
joined_text (run ∷ runs) =
    ap (λ (x : List ℕ). run_text run ++ x)
    (each_text (λ run. codes " ~ " ++ run_text run) (λ run. space ∷ sign signs.Tilde ∷ space ∷ run_mark run ∷ []) more_alone runs)

pub literal_text : (w : List ℕ) → literal w ≡ text_of_marks escaped (literal_marks w)
literal_text w = joined_text (runs_of w)

-- ---- name classes

parentheses_text : (b : Bool) (w : List ℕ) (ms : List Mark) → w ≡ text_of_marks escaped ms
    → printed.in_parentheses_if b w ≡ text_of_marks escaped (in_parentheses_if b ms)
parentheses_text true w ms e = ap (λ (x : List ℕ). 0x28 ∷ x) (behind w (codes ")") ms (sign signs.CloseParenthesis ∷ []) e refl)
parentheses_text false w ms e = e

name_alone : (ns : List (List ℕ)) (u l : List ℕ) → name_text ns u l ≡ text_of_marks escaped (name_mark ns u l ∷ [])
name_alone ns [] l = alone (word l)
name_alone ns (c ∷ u) l = alone (cname (prefix_of ns (c ∷ u)) l)

mutual
  pub class_is : (ns : List (List ℕ)) (c : NameClass) → class_text ns c ≡ text_of_marks escaped (class_marks ns c)
  class_is ns any_name = refl
  class_is ns (any_except c) = ap (λ (x : List ℕ). codes "* - " ++ x) (parentheses_text (is_choice c || is_except c) _ _ (class_is ns c))
  class_is ns (ns_name u) = alone (marks.ns_name (prefix_of ns u))
  class_is ns (ns_except u c) =
      ap (λ (x : List ℕ). prefix_of ns u ++ (codes ":* - " ++ x)) (parentheses_text (is_choice c || is_except c) _ _ (class_is ns c))
      ∙ sym (append_assoc (prefix_of ns u) (codes ":*") _)
  class_is ns (name_is n) = name_alone ns n.ns n.local
  class_is ns (one_of c d cs) =
      behind _ _ (in_parentheses_if (is_except c) (class_marks ns c)) _ (parentheses_text (is_except c) _ _ (class_is ns c))
      (ap (λ (x : List ℕ). codes " | " ++ x)
      (behind _ _ (in_parentheses_if (is_choice d || is_except d) (class_marks ns d)) (classes_marks ns cs)
      (parentheses_text (is_choice d || is_except d) _ _ (class_is ns d)) (classes_are ns cs)))

  classes_are : (ns : List (List ℕ)) (cs : NameClasses) → classes_text ns cs ≡ text_of_marks escaped (classes_marks ns cs)
  classes_are ns no_classes = refl
  classes_are ns (class_and c cs) =
      ap (λ (x : List ℕ). codes " | " ++ x)
      (behind _ _ (in_parentheses_if (is_choice c || is_except c) (class_marks ns c)) (classes_marks ns cs)
      (parentheses_text (is_choice c || is_except c) _ _ (class_is ns c)) (classes_are ns cs))

-- ---- lines

type_at : (b : Bool) (w : List ℕ) → cond b [] (codes "xsd:") ++ w ≡ mark_text escaped (cond b (word w) (cname (codes "xsd") w))
type_at true w = refl
type_at false w = refl

type_is : (d : Datatype) → type_text d ≡ mark_text escaped (type_mark d)
type_is d = type_at (bytes_eq d.library []) d.name

parameter_is : (p : List ℕ × List ℕ) → parameter_text p ≡ text_of_marks escaped (parameter_marks p)
parameter_is p = ap (λ (x : List ℕ). p.0 ++ (codes " = " ++ x)) (behind (literal p.1) (codes " ") (literal_marks p.1) (space ∷ []) (literal_text p.1) refl)

parameters_are : (ps : List (List ℕ × List ℕ)) → parameters_text ps ≡ text_of_marks escaped (parameters_marks ps)
parameters_are [] = refl
parameters_are (p ∷ ps) =
    ap (λ (x : List ℕ). codes " { " ++ x)
    (behind (flat_map parameter_text (p ∷ ps)) (codes "}") (flat_map parameter_marks (p ∷ ps)) (sign signs.CloseBrace ∷ [])
    (each_text parameter_text parameter_marks parameter_is (p ∷ ps)) refl)

datatype_is : (d : Datatype) → datatype_text d ≡ text_of_marks escaped (datatype_marks d)
datatype_is d = rw (type_is d, parameters_are d.parameters) refl

value_is : (d : Datatype) (v : List ℕ) → type_text d ++ (codes " " ++ literal v) ≡ text_of_marks escaped (type_mark d ∷ space ∷ literal_marks v)
value_is d v = rw (type_is d, literal_text v) refl

pub reference_is : (items : List PrintedItem) (s : Simple ℕ) → reference items s ≡ text_of_marks escaped (reference_marks items s)
reference_is items s_not_allowed = refl
reference_is items s_empty = refl
reference_is items s_text = refl
reference_is items (s_leaf k) = alone (word (item_name items (element k)))
reference_is items (s_data d) = datatype_is d
reference_is items (s_value d v) = value_is d v
reference_is items (s_attribute c a) = alone (word (item_name items (pattern (s_attribute c a))))
reference_is items (s_list a) = alone (word (item_name items (pattern (s_list a))))
reference_is items (s_data_except d a) = alone (word (item_name items (pattern (s_data_except d a))))
reference_is items (s_one_or_more a) = alone (word (item_name items (pattern (s_one_or_more a))))
reference_is items (s_joined k a b) = alone (word (item_name items (pattern (s_joined k a b))))

connector_is : (k : Connector) → connector_text k ≡ text_of_marks escaped (connector_marks k)
connector_is choice = refl
connector_is group = refl
connector_is interleave = refl

braced_is : (items : List PrintedItem) (a : Simple ℕ)
    → codes "{ " ++ (reference items a ++ codes " }") ≡ text_of_marks escaped (braced_marks (reference_marks items a))
braced_is items a =
    ap (λ (x : List ℕ). codes "{ " ++ x)
    (behind (reference items a) (codes " }") (reference_marks items a) (space ∷ sign signs.CloseBrace ∷ []) (reference_is items a) refl)

classed_is : (ns : List (List ℕ)) (items : List PrintedItem) (c : NameClass) (a : Simple ℕ)
    → class_text ns c ++ (codes " { " ++ (reference items a ++ codes " }"))
    ≡ text_of_marks escaped (class_marks ns c ++ space ∷ braced_marks (reference_marks items a))
classed_is ns items c a =
    behind (class_text ns c) _ (class_marks ns c) (space ∷ braced_marks (reference_marks items a)) (class_is ns c)
    (ap (λ (x : List ℕ). 0x20 ∷ x) (braced_is items a))

pattern_is : (ns : List (List ℕ)) (items : List PrintedItem) (s : Simple ℕ) → pattern_text ns items s ≡ text_of_marks escaped (pattern_marks ns items s)
pattern_is ns items (s_joined k a b) =
    behind (reference items a) _ (reference_marks items a) (connector_marks k ++ reference_marks items b) (reference_is items a)
    (behind (connector_text k) (reference items b) (connector_marks k) (reference_marks items b) (connector_is k) (reference_is items b))
pattern_is ns items (s_one_or_more a) = behind (reference items a) (codes "+") (reference_marks items a) (sign signs.Plus ∷ []) (reference_is items a) refl
pattern_is ns items (s_list a) = ap (λ (x : List ℕ). codes "list " ++ x) (braced_is items a)
pattern_is ns items (s_attribute c a) = ap (λ (x : List ℕ). codes "attribute " ++ x) (classed_is ns items c a)
pattern_is ns items (s_data_except d a) =
    behind (datatype_text d) _ (datatype_marks d) (space ∷ sign signs.Minus ∷ space ∷ reference_marks items a) (datatype_is d)
    (ap (λ (x : List ℕ). codes " - " ++ x) (reference_is items a))
pattern_is ns items s_not_allowed = refl
pattern_is ns items s_empty = refl
pattern_is ns items s_text = refl
pattern_is ns items (s_leaf k) = reference_is items (s_leaf k)
pattern_is ns items (s_data d) = reference_is items (s_data d)
pattern_is ns items (s_value d v) = reference_is items (s_value d v)

item_is : (g : Grammar) (ns : List (List ℕ)) (items : List PrintedItem) (i : PrintedItem) → item_text g ns items i ≡ text_of_marks escaped (item_marks g ns items i)
item_is g ns items (element k) = ap (λ (x : List ℕ). codes "element " ++ x) (classed_is ns items (element_at g k).0 (element_at g k).1)
item_is g ns items (pattern s) = pattern_is ns items s

line_is : (name w : List ℕ) (ms : List Mark) → w ≡ text_of_marks escaped ms → definition_line name w ≡ text_of_marks escaped (line_marks name ms)
line_is name w ms e = ap (λ (x : List ℕ). name ++ (codes " = " ++ x)) (behind w (0xA ∷ []) ms (line_end ∷ []) e refl)

namespace_is : (ns : List (List ℕ)) (u : List ℕ) → namespace_line ns u ≡ text_of_marks escaped (namespace_marks ns u)
namespace_is ns u = ap (λ (x : List ℕ). codes "namespace " ++ x) (line_is (prefix_of ns u) (literal u) (literal_marks u) (literal_text u))

pub lines_are : (g : Grammar) (ns : List (List ℕ)) (items : List PrintedItem) → schema_lines g ns items ≡ text_of_marks escaped (lines_marks g ns items)
lines_are g ns items =
    behind (flat_map (namespace_line ns) ns) _ (flat_map (namespace_marks ns) ns)
    (line_marks (codes "start") (reference_marks items g.start) ++ flat_map (item_line_marks g ns items) items)
    (each_text (namespace_line ns) (namespace_marks ns) (namespace_is ns) ns)
    (behind (definition_line (codes "start") (reference items g.start)) (flat_map (item_line g ns items) items)
    (line_marks (codes "start") (reference_marks items g.start)) (flat_map (item_line_marks g ns items) items)
    (line_is (codes "start") (reference items g.start) (reference_marks items g.start) (reference_is items g.start))
    (each_text (item_line g ns items) (item_line_marks g ns items)
    (λ i. line_is (item_name items i) (item_text g ns items i) (item_marks g ns items i) (item_is g ns items i)) items))

-- the printed text is that of its marks
pub text_is : (g : Grammar) (items : List PrintedItem) → text_of g items ≡ text_of_marks escaped (marks_of g items)
text_is g items = lines_are g (namespaces g items) items
