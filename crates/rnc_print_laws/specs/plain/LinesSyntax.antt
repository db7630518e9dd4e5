-- The syntax tree of the lines of a printed grammar, with unresolved prefixes (RELAX NG Compact Syntax, "Syntax").
use Rattle.std.specs.Prelude.{ℕ, if◌then◌else◌, List, [], ◌∷◌, ◌++◌, map, codes}
use Rattle.std.specs.Str.{bytes_eq}
use Rattle.rng_model.specs.names.Names as names
use Rattle.rng_model.specs.simple.Tree.{Simple, s_not_allowed, s_empty, s_text, s_leaf, s_attribute, s_list, s_data, s_data_except, s_value, s_one_or_more}
use Rattle.rng_model.specs.simple.Tree.{s_joined}
use Rattle.rng_model.specs.simple.Grammar.{Grammar}
use Rattle.rng_model.specs.declared.method.Method.TheVariants as methods
use Rattle.rnc_model.specs.grammar.Syntax as syntax
use Rattle.rnc_model.specs.grammar.Syntax.{written, NameAt, unprefixed, prefixed, NameClassAt, NameClassesAt, no_classes, class_and, any_name, any_except, ns_name}
use Rattle.rnc_model.specs.grammar.Syntax.{ns_except, name_is, one_of, choice_of, DatatypeName, string_type, token_type, prefixed_type, PatternAt, ComponentAt}
use Rattle.rnc_model.specs.grammar.Syntax.{Declaration, File}
use Rattle.rncv_model.specs.printed.Items.{PrintedItem, element, pattern, element_at}
use Rattle.rncv_model.specs.printed.PrintedText.{item_name}
use Rattle.rncv_model.specs.printed.Words.{prefix_of}

abbrev pub list_of : NameClassesAt written → List (NameClassAt written)
list_of no_classes = []
list_of (class_and c cs) = c ∷ list_of cs

-- the members of a choice, or the class itself
abbrev pub members_in : NameClassAt written → List (NameClassAt written)
members_in (one_of cs) = list_of cs
members_in any_name = any_name ∷ []
members_in (any_except c) = any_except c ∷ []
members_in (ns_name p) = ns_name p ∷ []
members_in (ns_except p c) = ns_except p c ∷ []
members_in (name_is n) = name_is n ∷ []

abbrev pub written_name : List (List ℕ) → List ℕ → List ℕ → NameAt written
written_name ns [] l = unprefixed l
written_name ns (c ∷ u) l = prefixed (prefix_of ns (c ∷ u)) l

-- a choice that is the first member of a choice is written without parentheses, so its members are members
abbrev mutual
  pub class_of : List (List ℕ) → names.NameClass → NameClassAt written
  class_of ns names.any_name = any_name
  class_of ns (names.any_except c) = any_except (class_of ns c)
  class_of ns (names.ns_name u) = ns_name (prefix_of ns u)
  class_of ns (names.ns_except u c) = ns_except (prefix_of ns u) (class_of ns c)
  class_of ns (names.name_is n) = name_is (written_name ns n.ns n.local)
  class_of ns (names.one_of c d cs) = choice_of (members_in (class_of ns c) ++ class_of ns d ∷ classes_of ns cs)

  pub classes_of : List (List ℕ) → names.NameClasses → List (NameClassAt written)
  classes_of ns names.no_classes = []
  classes_of ns (names.class_and c cs) = class_of ns c ∷ classes_of ns cs

abbrev pub type_of : List ℕ → List ℕ → DatatypeName written
type_of library name = if bytes_eq library [] then (if bytes_eq name (codes "string") then string_type else token_type) else prefixed_type (codes "xsd") name

abbrev pub reference_of : List PrintedItem → Simple ℕ → PatternAt written
reference_of items s_not_allowed = syntax.not_allowed
reference_of items s_empty = syntax.empty
reference_of items s_text = syntax.text
reference_of items (s_leaf k) = syntax.ref (item_name items (element k))
reference_of items (s_data d) = syntax.data_of (type_of d.library d.name) d.parameters
reference_of items (s_value d v) = syntax.value (type_of d.library d.name) v
reference_of items s = syntax.ref (item_name items (pattern s))

abbrev pub pattern_of : List (List ℕ) → List PrintedItem → Simple ℕ → PatternAt written
pattern_of ns items (s_joined k a b) = syntax.members k (reference_of items a ∷ reference_of items b ∷ [])
pattern_of ns items (s_one_or_more a) = syntax.one_or_more (reference_of items a)
pattern_of ns items (s_list a) = syntax.list (reference_of items a)
pattern_of ns items (s_attribute c a) = syntax.attribute (class_of ns c) (reference_of items a)
pattern_of ns items (s_data_except d a) = syntax.data_except (type_of d.library d.name) d.parameters (reference_of items a)
pattern_of ns items s = reference_of items s

abbrev pub item_pattern : Grammar → List (List ℕ) → List PrintedItem → PrintedItem → PatternAt written
item_pattern g ns items (element k) = syntax.element (class_of ns (element_at g k).0) (reference_of items (element_at g k).1)
item_pattern g ns items (pattern s) = pattern_of ns items s

-- a plain start, and a plain define for each item
abbrev pub components : Grammar → List (List ℕ) → List PrintedItem → List (ComponentAt written)
components g ns items =
    syntax.start methods.Plain (reference_of items g.start) ∷ map (λ i. syntax.define (item_name items i) methods.Plain (item_pattern g ns items i)) items

abbrev pub declarations : List (List ℕ) → List Declaration
declarations ns = map (λ u. syntax.namespace (prefix_of ns u) (syntax.literal u)) ns

abbrev pub file : Grammar → List (List ℕ) → List PrintedItem → File
file g ns items = record { declarations = declarations ns; body = syntax.grammar_body (syntax.components_of (components g ns items)) }
