-- The schema of a set of files: the components of the grammar at each place, through `div`, `include` and overriding,
-- every name with its namespace (RELAX NG Specification, sections 4.6, 4.7, 4.9, 4.11 and 4.18; Compact Syntax,
-- "Declarations").
--
-- A place is the way to a grammar in the tree of the main file with each mention followed: the number of the child at
-- each level, the innermost first. The file of an include is its child 0, and its braces are its child 1. The pattern
-- of an external is its child 0. If the file of an external has grammar content, that is a grammar at the place of the
-- external itself.
use Rattle.std.specs.Prelude.{◌≡◌, ℕ, ◌+◌, List, [], ◌∷◌, ◌++◌, Option, Some, None, Bool}
use Rattle.std.specs.List.{list_any}
use Rattle.rng_model.specs.names.Names as names
use Rattle.rng_model.specs.simple.Tree.{Datatype, Connector}
use Rattle.rng_model.specs.schema.Patterns.{Place, Pattern, joined_members}
use Rattle.rng_model.specs.schema.Patterns as pattern
use Rattle.rng_model.specs.schema.Schema.{Component, same_component_name}
use Rattle.rng_model.specs.declared.method.Method.TheVariants as methods
use Rattle.rnc_model.specs.grammar.Syntax as tree
use Rattle.rnc_model.specs.grammar.Syntax.{applied, Namespace, inherited, given, DatatypeName}
use Rattle.rnc_model.specs.declarations.FileTree.{FileTree, grammar_file, pattern_file, whole_grammar}

-- ---- names, in a file that inherits a namespace

abbrev pub uri_in : List ℕ → Namespace → List ℕ
uri_in u inherited = u
uri_in u (given v) = v

abbrev pub name_in : List ℕ → tree.NameAt applied → names.Name
name_in u n = record { ns = uri_in u n.namespace; local = n.local }

abbrev mutual
  pub class_in : List ℕ → tree.NameClassAt applied → names.NameClass
  class_in u tree.any_name = names.any_name
  class_in u (tree.any_except c) = names.any_except (class_in u c)
  class_in u (tree.ns_name ns) = names.ns_name (uri_in u ns)
  class_in u (tree.ns_except ns c) = names.ns_except (uri_in u ns) (class_in u c)
  class_in u (tree.name_is n) = names.name_is (name_in u n)
  class_in u (tree.one_of cs) = names.some_of (classes_in u cs)

  pub classes_in : List ℕ → tree.NameClassesAt applied → List names.NameClass
  classes_in u tree.no_classes = []
  classes_in u (tree.class_and c cs) = class_in u c ∷ classes_in u cs

abbrev pub datatype_in : DatatypeName applied → List (List ℕ × List ℕ) → Datatype
datatype_in d ps = record { library = d.library; name = d.name; parameters = ps }

-- ---- patterns

-- the path to a pattern or a component in that tree, the innermost number first; the path to a grammar is its place
abbrev pub TreePath : Type 0
TreePath = List ℕ

-- a grammar that is nested in another: its place, the namespace that its file inherits, and its components
pub record Nested : Type 0 where
  pub place : Place
  pub uri : List ℕ
  pub components : tree.ComponentsAt applied

-- a component that its grammar gets, and the grammars that are nested directly in it
pub record Gathered : Type 0 where
  pub component : Component
  pub nested : List Nested

-- a component is overridden by one of its name, a start by a start
abbrev pub is_overridden : List Gathered → Gathered → Bool
is_overridden os g = list_any (λ o. same_component_name o.component.name g.component.name) os

-- the components of the grammar of the main file; any other pattern is the start of a grammar
abbrev pub grammar_or_start : tree.PatternAt applied → Option (tree.ComponentsAt applied) → tree.ComponentsAt applied
grammar_or_start p None = tree.component_and (tree.start methods.Plain p) tree.no_components
grammar_or_start p (Some cs) = cs

abbrev pub main_grammar : FileTree → tree.ComponentsAt applied
main_grammar (grammar_file cs) = cs
main_grammar (pattern_file p) = grammar_or_start p (whole_grammar p)

-- An example. The main file is
--   start = x | grammar { start = element c { empty } }
--   x = element b { empty }
-- Its grammar, at the place [], has two components. The start is its child 0, at the path 0 ∷ [] (`a_start`). Of the two members of the start's choice
-- (`joined_is`, `more_are`) the ref is at 0 ∷ 0 ∷ [] (`ref_is`), and the nested grammar is at 1 ∷ 0 ∷ [], which is its place (`grammar_is`). The
-- definition of x is child 1, at 1 ∷ [] (`a_define`). So there is a grammar at [] (`main_is`), and one at 1 ∷ 0 ∷ [] with [] around it (`nested_is`).
-- If an include were child 2, the components of its file would be at paths that end with 0 ∷ 2 ∷ [], and those in its braces at paths that end with
-- 1 ∷ 2 ∷ [] (`an_include`).
module _ (files : List ℕ → Option FileTree) where
  -- in a file that inherits this namespace, the pattern at this path is that one, and these grammars are nested
  -- directly in it
  mutual
    pub data Reads : List ℕ → TreePath → tree.PatternAt applied → Pattern → List Nested → Type 0 where
      element_is : {u : List ℕ} {x : TreePath} {c : tree.NameClassAt applied} {a : tree.PatternAt applied} {p : Pattern} {gs : List Nested} → Reads u (0 ∷ x) a p gs
          → Reads u x (tree.element c a) (pattern.element (class_in u c) p) gs
      attribute_is : {u : List ℕ} {x : TreePath} {c : tree.NameClassAt applied} {a : tree.PatternAt applied} {p : Pattern} {gs : List Nested}
          → Reads u (0 ∷ x) a p gs → Reads u x (tree.attribute c a) (pattern.attribute (class_in u c) p) gs
      list_is : {u : List ℕ} {x : TreePath} {a : tree.PatternAt applied} {p : Pattern} {gs : List Nested} → Reads u (0 ∷ x) a p gs
          → Reads u x (tree.list a) (pattern.list p) gs
      mixed_is : {u : List ℕ} {x : TreePath} {a : tree.PatternAt applied} {p : Pattern} {gs : List Nested} → Reads u (0 ∷ x) a p gs
          → Reads u x (tree.mixed a) (pattern.mixed p) gs
      optional_is : {u : List ℕ} {x : TreePath} {a : tree.PatternAt applied} {p : Pattern} {gs : List Nested} → Reads u (0 ∷ x) a p gs
          → Reads u x (tree.optional a) (pattern.optional p) gs
      zero_or_more_is : {u : List ℕ} {x : TreePath} {a : tree.PatternAt applied} {p : Pattern} {gs : List Nested} → Reads u (0 ∷ x) a p gs
          → Reads u x (tree.zero_or_more a) (pattern.zero_or_more p) gs
      one_or_more_is : {u : List ℕ} {x : TreePath} {a : tree.PatternAt applied} {p : Pattern} {gs : List Nested} → Reads u (0 ∷ x) a p gs
          → Reads u x (tree.one_or_more a) (pattern.one_or_more p) gs
      ref_is : {u : List ℕ} {x : TreePath} {y : List ℕ} → Reads u x (tree.ref y) (pattern.ref y) []
      parent_ref_is : {u : List ℕ} {x : TreePath} {y : List ℕ} → Reads u x (tree.parent_ref y) (pattern.parent_ref y) []
      empty_is : {u : List ℕ} {x : TreePath} → Reads u x tree.empty pattern.empty []
      text_is : {u : List ℕ} {x : TreePath} → Reads u x tree.text pattern.text []
      not_allowed_is : {u : List ℕ} {x : TreePath} → Reads u x tree.not_allowed pattern.not_allowed []
      value_is : {u : List ℕ} {x : TreePath} {d : DatatypeName applied} {v : List ℕ} → Reads u x (tree.value d v) (pattern.value d.library d.name v) []
      data_is : {u : List ℕ} {x : TreePath} {d : DatatypeName applied} {ps : List (List ℕ × List ℕ)} →
          Reads u x (tree.data_of d ps) (pattern.data_of (datatype_in d ps)) []
      except_is : {u : List ℕ} {x : TreePath} {d : DatatypeName applied} {ps : List (List ℕ × List ℕ)} {a : tree.PatternAt applied} {p : Pattern}
          {gs : List Nested} → Reads u (0 ∷ x) a p gs → Reads u x (tree.data_except d ps a) (pattern.data_except (datatype_in d ps) p) gs
      -- a nested grammar is at this place
      grammar_is : {u : List ℕ} {x : TreePath} {cs : tree.ComponentsAt applied} →
          Reads u x (tree.grammar cs) (pattern.grammar x) (record { place = x; uri = u; components = cs } ∷ [])
      -- an external is its file's pattern, read with the namespace that the mention passes on; a file of grammar
      -- content is a nested grammar
      pattern_file_is : {u : List ℕ} {x : TreePath} {m : tree.Mention applied} {a : tree.PatternAt applied} {p : Pattern} {gs : List Nested}
          → files m.href ≡ Some (pattern_file a) → Reads (uri_in u m.inherit) (0 ∷ x) a p gs → Reads u x (tree.external m) (pattern.external p) gs
      grammar_file_is : {u : List ℕ} {x : TreePath} {m : tree.Mention applied} {cs : tree.ComponentsAt applied} → files m.href ≡ Some (grammar_file cs) →
          Reads u x (tree.external m) (pattern.external (pattern.grammar x)) (record { place = x; uri = uri_in u m.inherit; components = cs } ∷ [])
      joined_is : {u : List ℕ} {x : TreePath} {k : Connector} {all : tree.PatternsAt applied} {ps : List Pattern} {gs : List Nested} → ReadAll u x 0 all ps gs
          → Reads u x (tree.joined k all) (joined_members k ps) gs

    -- the first of these patterns is the child with this number
    pub data ReadAll : List ℕ → TreePath → ℕ → tree.PatternsAt applied → List Pattern → List Nested → Type 0 where
      none_are : {u : List ℕ} {x : TreePath} {n : ℕ} → ReadAll u x n tree.no_patterns [] []
      more_are : {u : List ℕ} {x : TreePath} {n : ℕ} {a : tree.PatternAt applied} {all : tree.PatternsAt applied} {p : Pattern} {ps : List Pattern}
          {gs hs : List Nested}
          {both : List Nested} → Reads u (n ∷ x) a p gs → ReadAll u x (n + 1) all ps hs → both ≡ gs ++ hs → ReadAll u x n (tree.pattern_and a all) (p ∷ ps) both
