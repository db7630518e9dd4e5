-- The file tree of the lines of a printed grammar: a plain `start`, followed by a plain define for each item, in order.
-- Each has the pattern that its line shows, with each prefix replaced by its namespace (RELAX NG Compact Syntax,
-- "Syntax").
use Rattle.std.specs.Prelude.{ℕ, List, [], ◌∷◌, ◌++◌, map}
use Rattle.rng_model.specs.names.Names as names
use Rattle.rng_model.specs.simple.Tree.{Datatype, Simple, s_not_allowed, s_empty, s_text, s_leaf, s_attribute, s_list, s_data, s_data_except, s_value}
use Rattle.rng_model.specs.simple.Tree.{s_one_or_more}
use Rattle.rng_model.specs.simple.Tree.{s_joined}
use Rattle.rng_model.specs.simple.Grammar.{Grammar}
use Rattle.rng_model.specs.declared.method.Method.TheVariants as methods
use Rattle.rnc_model.specs.grammar.Syntax as tree
use Rattle.rnc_model.specs.grammar.Syntax.{applied, Namespace, inherited, given, NameAt, NameClassAt, NameClassesAt, no_classes, class_and, any_name, any_except}
use Rattle.rnc_model.specs.grammar.Syntax.{ns_name, ns_except, name_is, one_of, choice_of, DatatypeName, PatternAt, ComponentAt}
use Rattle.rnc_model.specs.declarations.FileTree.{FileTree, grammar_file}
use Rattle.rncv_model.specs.printed.Items.{PrintedItem, element, pattern, element_at}
use Rattle.rncv_model.specs.printed.PrintedText.{item_name}

abbrev pub list_of : NameClassesAt applied → List (NameClassAt applied)
list_of no_classes = []
list_of (class_and c cs) = c ∷ list_of cs

-- the members of a choice, or the class itself
abbrev pub members_in : NameClassAt applied → List (NameClassAt applied)
members_in (one_of cs) = list_of cs
members_in any_name = any_name ∷ []
members_in (any_except c) = any_except c ∷ []
members_in (ns_name u) = ns_name u ∷ []
members_in (ns_except u c) = ns_except u c ∷ []
members_in (name_is n) = name_is n ∷ []

-- a name without namespace is written without prefix
abbrev pub name_of : Namespace → List ℕ → List ℕ → NameAt applied
name_of plain [] l = record { namespace = plain; local = l }
name_of plain (c ∷ u) l = record { namespace = given (c ∷ u); local = l }

abbrev mutual
  -- where a name without prefix has this namespace
  pub class_of : Namespace → names.NameClass → NameClassAt applied
  class_of plain names.any_name = any_name
  class_of plain (names.any_except c) = any_except (class_of plain c)
  class_of plain (names.ns_name u) = ns_name (given u)
  class_of plain (names.ns_except u c) = ns_except (given u) (class_of plain c)
  class_of plain (names.name_is n) = name_is (name_of plain n.ns n.local)
  class_of plain (names.one_of c d cs) = choice_of (members_in (class_of plain c) ++ class_of plain d ∷ classes_of plain cs)

  pub classes_of : Namespace → names.NameClasses → List (NameClassAt applied)
  classes_of plain names.no_classes = []
  classes_of plain (names.class_and c cs) = class_of plain c ∷ classes_of plain cs

-- `string` and `token` have the library with the empty URI
abbrev pub type_of : Datatype → DatatypeName applied
type_of d = record { library = d.library; name = d.name }

-- what a line shows for a pattern inside another: its own word, or the name of its line
abbrev pub reference_of : List PrintedItem → Simple ℕ → PatternAt applied
reference_of items s_not_allowed = tree.not_allowed
reference_of items s_empty = tree.empty
reference_of items s_text = tree.text
reference_of items (s_leaf k) = tree.ref (item_name items (element k))
reference_of items (s_data d) = tree.data_of (type_of d) d.parameters
reference_of items (s_value d v) = tree.value (type_of d) v
reference_of items s = tree.ref (item_name items (pattern s))

-- what its own line shows; an unprefixed name in an attribute's class has no namespace
abbrev pub pattern_of : List PrintedItem → Simple ℕ → PatternAt applied
pattern_of items (s_joined k a b) = tree.members k (reference_of items a ∷ reference_of items b ∷ [])
pattern_of items (s_one_or_more a) = tree.one_or_more (reference_of items a)
pattern_of items (s_list a) = tree.list (reference_of items a)
pattern_of items (s_attribute c a) = tree.attribute (class_of (given []) c) (reference_of items a)
pattern_of items (s_data_except d a) = tree.data_except (type_of d) d.parameters (reference_of items a)
pattern_of items s = reference_of items s

-- an unprefixed name in an element's class has the namespace that the file inherits
abbrev pub item_pattern : Grammar → List PrintedItem → PrintedItem → PatternAt applied
item_pattern g items (element k) = tree.element (class_of inherited (element_at g k).0) (reference_of items (element_at g k).1)
item_pattern g items (pattern s) = pattern_of items s

abbrev pub define_of : Grammar → List PrintedItem → PrintedItem → ComponentAt applied
define_of g items i = tree.define (item_name items i) methods.Plain (item_pattern g items i)

-- all lines; the main file of a schema inherits the empty namespace, so an unprefixed name has no namespace
abbrev pub lines_tree : Grammar → List PrintedItem → FileTree
lines_tree g items = grammar_file (tree.components_of (tree.start methods.Plain (reference_of items g.start) ∷ map (define_of g items) items))
