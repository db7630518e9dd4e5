-- The schema of the lines of a printed grammar: one grammar, with a plain start, and a plain define for each item, each
-- with the pattern that its line shows (RELAX NG Compact Syntax, "Syntax"; RELAX NG Specification, sections 4.17 and
-- 4.18).
use Rattle.std.specs.Prelude.{◌≡◌, ℕ, ◌<◌, ◌^◌, List, [], ◌∷◌, ◌++◌, length, map, Option, Some, None}
use Rattle.rng_model.specs.names.Names.{NameClass, any_name, any_except, ns_name, ns_except, name_is, one_of, NameClasses, no_classes, class_and, some_of}
use Rattle.rng_model.specs.simple.Tree.{Simple, s_not_allowed, s_empty, s_text, s_leaf, s_attribute, s_list, s_data, s_data_except, s_value, s_one_or_more}
use Rattle.rng_model.specs.simple.Tree.{s_joined}
use Rattle.rng_model.specs.simple.Grammar.{Grammar}
use Rattle.rng_model.specs.schema.Patterns as written
use Rattle.rng_model.specs.schema.Patterns.{Place, Pattern, no_patterns}
use Rattle.rng_model.specs.schema.Schema.{Schema, Component}
use Rattle.rng_model.specs.simple.SchemaForm.{IsSimpleGrammarOf}
use Rattle.rng_model.specs.schema.SchemaClauses.{BreaksNoClause}
use Rattle.rng_model.specs.declared.method.Method.TheVariants as methods
use Rattle.rncv_model.specs.printed.Items.{PrintedItem, element, pattern, element_at, IsItemsOf}
use Rattle.rncv_model.specs.printed.PrintedText.{item_name}
use Rattle.rncv_model.specs.printed.SchemaText.{IsPrintedForm}

-- ---- name classes: a choice at the front of a choice is written without parentheses, so its members are members

abbrev pub list_of : NameClasses → List NameClass
list_of no_classes = []
list_of (class_and c cs) = c ∷ list_of cs

-- the members of a choice, or the class itself
abbrev pub members_in : NameClass → List NameClass
members_in (one_of c d cs) = c ∷ d ∷ list_of cs
members_in any_name = any_name ∷ []
members_in (any_except c) = any_except c ∷ []
members_in (ns_name u) = ns_name u ∷ []
members_in (ns_except u c) = ns_except u c ∷ []
members_in (name_is n) = name_is n ∷ []

abbrev mutual
  pub flattened : NameClass → NameClass
  flattened any_name = any_name
  flattened (any_except c) = any_except (flattened c)
  flattened (ns_name u) = ns_name u
  flattened (ns_except u c) = ns_except u (flattened c)
  flattened (name_is n) = name_is n
  flattened (one_of c d cs) = some_of (members_in (flattened c) ++ flattened d ∷ all_flattened cs)

  pub all_flattened : NameClasses → List NameClass
  all_flattened no_classes = []
  all_flattened (class_and c cs) = flattened c ∷ all_flattened cs

-- ---- lines

-- what is written for a pattern within a line
abbrev pub reference_pattern : List PrintedItem → Simple ℕ → Pattern
reference_pattern items s_not_allowed = written.not_allowed
reference_pattern items s_empty = written.empty
reference_pattern items s_text = written.text
reference_pattern items (s_leaf k) = written.ref (item_name items (element k))
reference_pattern items (s_data d) = written.data_of d
reference_pattern items (s_value d v) = written.value d.library d.name v
reference_pattern items s = written.ref (item_name items (pattern s))

-- what is after `=` in the line of a pattern
abbrev pub line_pattern : List PrintedItem → Simple ℕ → Pattern
line_pattern items (s_joined k a b) = written.joined k (reference_pattern items a) (reference_pattern items b) no_patterns
line_pattern items (s_one_or_more a) = written.one_or_more (reference_pattern items a)
line_pattern items (s_list a) = written.list (reference_pattern items a)
line_pattern items (s_attribute c a) = written.attribute (flattened c) (reference_pattern items a)
line_pattern items (s_data_except d a) = written.data_except d (reference_pattern items a)
line_pattern items s = reference_pattern items s

abbrev pub item_pattern : Grammar → List PrintedItem → PrintedItem → Pattern
item_pattern g items (element k) = written.element (flattened (element_at g k).0) (reference_pattern items (element_at g k).1)
item_pattern g items (pattern s) = line_pattern items s

abbrev pub start_line : Grammar → List PrintedItem → Component
start_line g items = record { name = None; method = methods.Plain; pattern = reference_pattern items g.start }

abbrev pub item_line : Grammar → List PrintedItem → PrintedItem → Component
item_line g items i = record { name = Some (item_name items i); method = methods.Plain; pattern = item_pattern g items i }

abbrev pub lines_components : Grammar → List PrintedItem → List Component
lines_components g items = start_line g items ∷ map (item_line g items) items

-- the schema has one grammar, that of these lines
pub record IsSchemaOfLines (g : Grammar) (items : List PrintedItem) (s : Schema) : Type 0 where
  pub main : s.main ≡ []
  pub components : s.components [] ≡ Some (lines_components g items)
  pub only : (x : Place) (cs : List Component) → s.components x ≡ Some cs → x ≡ []

-- such a schema
abbrev pub components_at : Grammar → List PrintedItem → Place → Option (List Component)
components_at g items [] = Some (lines_components g items)
components_at g items (n ∷ x) = None

abbrev pub schema_of_lines : Grammar → List PrintedItem → Schema
schema_of_lines g items = record { main = []; components = components_at g items; outer = λ x. None }

-- The second schema is that of the lines in which a simple grammar of the first is printed. The first schema breaks no
-- clause. The number of lines is below 2^64.
pub record IsReprinted (s r : Schema) (g : Grammar) (items : List PrintedItem) : Type 0 where
  pub kept : BreaksNoClause s
  pub form : IsSimpleGrammarOf s g
  pub numbered : IsItemsOf g items
  pub few : length items < 2 ^ 64
  pub lines : IsSchemaOfLines g items r

-- The second schema is that of the lines of the text that is printed for the first. The first schema breaks no clause.
-- The number of bytes is below 2^64.
pub record IsReprintedAs (s r : Schema) (text : List ℕ) : Type 0 where
  pub kept : BreaksNoClause s
  pub printed : IsPrintedForm s text
  pub few : length text < 2 ^ 64
  pub lines : IsSchemaOfLines printed.grammar printed.is_printed.items r
