-- The schema of a set of files: the components of the grammar at each place, through `div`, `include` and overriding
-- (RELAX NG Specification, sections 4.7, 4.11 and 4.18). The example in `Places` names the constructors.
use Rattle.std.specs.Prelude.{◌≡◌, ℕ, ◌+◌, List, [], ◌∷◌, ◌++◌, filter, map, not, Option, Some, None}
use Rattle.rng_model.specs.names.Lists.{Among}
use Rattle.rng_model.specs.schema.Patterns.{Place, Pattern}
use Rattle.rng_model.specs.schema.Schema.{Schema, Component}
use Rattle.rng_model.specs.declared.method.Method.{Method}
use Rattle.rnc_model.specs.grammar.Syntax as tree
use Rattle.rnc_model.specs.grammar.Syntax.{applied}
use Rattle.rnc_model.specs.declarations.FileTree.{FileTree, grammar_components}
use Rattle.rng_model.specs.schema.Schema as schema
use Rattle.rnc_model.specs.loading.Loading.{TakenFiles, tree_in}
use Rattle.rnc_model.specs.loading.SchemaFile.{FileName}
use Rattle.rnc_model.specs.loading.Places.{uri_in, TreePath, Nested, Gathered, is_overridden, main_grammar, Reads}

module _ (files : List ℕ → Option FileTree) where
  -- the components that these give to their grammar, in order; the first of them is the child with this number
  pub data Gathers : List ℕ → TreePath → ℕ → tree.ComponentsAt applied → List Gathered → Type 0 where
    nothing : {u : List ℕ} {x : TreePath} {n : ℕ} → Gathers u x n tree.no_components []
    a_start : {u : List ℕ} {x : TreePath} {n : ℕ} {m : Method} {a : tree.PatternAt applied} {cs : tree.ComponentsAt applied} {p : Pattern} {gs : List Nested}
        {rest : List Gathered} → Reads files u (n ∷ x) a p gs → Gathers u x (n + 1) cs rest →
        Gathers u x n (tree.component_and (tree.start m a) cs) (record { component = record { name = None; method = m; pattern = p }; nested = gs } ∷ rest)
    a_define : {u : List ℕ} {x : TreePath} {n : ℕ} {y : List ℕ} {m : Method} {a : tree.PatternAt applied} {cs : tree.ComponentsAt applied} {p : Pattern}
        {gs : List Nested}
        {rest : List Gathered} → Reads files u (n ∷ x) a p gs → Gathers u x (n + 1) cs rest →
        Gathers u x n (tree.component_and (tree.define y m a) cs) (record { component = record { name = Some y; method = m; pattern = p }; nested = gs } ∷ rest)
    a_div : {u : List ℕ} {x : TreePath} {n : ℕ} {is cs : tree.ComponentsAt applied} {inner rest all : List Gathered} →
        Gathers u (n ∷ x) 0 is inner → Gathers u x (n + 1) cs rest → all ≡ inner ++ rest → Gathers u x n (tree.component_and (tree.div is) cs) all
    -- an include gives the components of its file that are not overridden, and then those in its braces
    an_include : {u : List ℕ} {x : TreePath} {n : ℕ} {m : tree.Mention applied} {over cs is : tree.ComponentsAt applied} {f : FileTree}
        {included overriding rest all : List Gathered} →
        files m.href ≡ Some f → grammar_components f ≡ Some is → Gathers (uri_in u m.inherit) (0 ∷ n ∷ x) 0 is included →
        Gathers u (1 ∷ n ∷ x) 0 over overriding → Gathers u x (n + 1) cs rest →
        all ≡ (filter (λ g. not (is_overridden overriding g)) included ++ overriding) ++ rest →
        Gathers u x n (tree.component_and (tree.include m over) cs) all

  -- At the place there is a grammar with these components, in a file that inherits this namespace; the main file
  -- inherits the empty one. The grammar around it is the one at the other place, if there is one.
  pub data HasGrammar (main : FileTree) : Place → Option Place → List ℕ → tree.ComponentsAt applied → Type 0 where
    main_is : {cs : tree.ComponentsAt applied} → cs ≡ main_grammar main → HasGrammar main [] None [] cs
    nested_is : {x : Place} {o : Option Place} {u : List ℕ} {cs : tree.ComponentsAt applied} {gathered : List Gathered} {g : Gathered} {n : Nested} →
        HasGrammar main x o u cs → Gathers u x 0 cs gathered → Among g gathered → Among n g.nested → HasGrammar main n.place (Some x) n.uri n.components

  -- The schema of these files, if they break none of S1 to S10: at each place of a grammar, its components and the
  -- place of the grammar around it; at any other place nothing.
  pub record IsSchemaOf (main : FileTree) (s : Schema) : Type 0 where
    pub main_place : s.main ≡ []
    pub there : (x : Place) (o : Option Place) (u : List ℕ) (cs : tree.ComponentsAt applied) → HasGrammar main x o u cs →
        (gathered : List Gathered) × Gathers u x 0 cs gathered × (s.components x ≡ Some (map (λ g. g.component) gathered)) × (s.outer x ≡ o)
    pub only_there : (x : Place) (all : List Component) → s.components x ≡ Some all →
        (o : Option Place) × (u : List ℕ) × (cs : tree.ComponentsAt applied) × HasGrammar main x o u cs
    pub none_around : (x : Place) → s.components x ≡ None → s.outer x ≡ None

-- the files that are taken, with the main one of this name, are this schema
pub record AreSchema (read : TakenFiles) (main : FileName) (s : schema.Schema) : Type 0 where
  pub tree : FileTree
  pub main_file : tree_in read main ≡ Some tree
  pub is : IsSchemaOf (tree_in read) tree s
