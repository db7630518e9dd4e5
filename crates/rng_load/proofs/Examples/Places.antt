-- Small schemas of a few files: the components of their grammars, and one whole schema.
use Rattle.std.proofs.Common.{◌≡◌, refl, sym, subst, List, ℕ, zero, suc, [], ◌∷◌, Option, Some, None, codes, map, if◌then◌else◌}
use Rattle.std.specs.Str.{bytes_eq}
use Rattle.rng_model.specs.names.Lists.{Among, here, there}
use Rattle.rng_model.specs.schema.Patterns.{Place}
use Rattle.rng_model.specs.schema.Schema.{Schema, Component}
use Rattle.rng_model.specs.names.Names as names
use Rattle.rng_model.specs.schema.Patterns as pattern
use Rattle.rng_model.specs.declared.method.Method.TheVariants as methods
use Rattle.rnc_model.specs.grammar.Syntax as tree
use Rattle.rnc_model.specs.grammar.Syntax.{applied, Namespace, inherited, given}
use Rattle.rnc_model.specs.declarations.FileTree.{FileTree, grammar_file, pattern_file}
use Rattle.rnc_model.specs.loading.Places.{Gathered, ref_is, element_is, empty_is, grammar_is}
use Rattle.rnc_model.specs.loading.LoadedSchema.{Gathers, nothing, a_start, a_define, an_include, HasGrammar, main_is, nested_is, IsSchemaOf}
use Rattle.rnc_model.specs.loading.Places.{Reads, pattern_file_is, grammar_file_is, Nested}
use Rattle.rng_load.proofs.NameLists.{in_none}

-- every mention is of this file
abbrev always : FileTree → List ℕ → Option FileTree
always f h = Some f

-- `element NAME { empty }`, where the name has this namespace
abbrev empty_element : Namespace → List ℕ → tree.PatternAt applied
empty_element u local = tree.element (tree.name_is (record { namespace = u; local = local })) tree.empty

abbrev read_element : List ℕ → List ℕ → pattern.Pattern
read_element u local = pattern.element (names.name_is (record { ns = u; local = local })) pattern.empty

abbrev mention : Namespace → tree.Mention applied
mention u = record { href = codes "b.rnc"; inherit = u; token = 1 }

abbrev a_component : Option (List ℕ) → pattern.Pattern → Gathered
a_component y p = record { component = record { name = y; method = methods.Plain; pattern = p }; nested = [] }

-- ---- a name that is overridden

-- b.rnc: start = x   x |= element z { empty }   x |= element w { empty }
abbrev two_of_x : tree.ComponentsAt applied
two_of_x =
    tree.component_and (tree.start methods.Plain (tree.ref (codes "x")))
    (tree.component_and (tree.define (codes "x") methods.Choice (empty_element inherited (codes "z")))
    (tree.component_and (tree.define (codes "x") methods.Choice (empty_element inherited (codes "w"))) tree.no_components))

-- include "b.rnc" { x = element y { empty } }
abbrev including : tree.ComponentsAt applied
including = tree.component_and
    (tree.include (mention inherited) (tree.component_and (tree.define (codes "x") methods.Plain (empty_element inherited (codes "y"))) tree.no_components))
    tree.no_components

-- both components of the name are removed, and the overriding one follows the rest
overridden : Gathers (always (grammar_file two_of_x)) [] [] 0 including
    (a_component None (pattern.ref (codes "x")) ∷ a_component (Some (codes "x")) (read_element [] (codes "y")) ∷ [])
overridden = an_include refl refl (a_start ref_is (a_define (element_is empty_is) (a_define (element_is empty_is) nothing)))
    (a_define (element_is empty_is) nothing) nothing refl

-- ---- a name that is overridden twice

-- a mention of b.rnc is of the first file, and any other of the second
abbrev first_or_second : FileTree → FileTree → List ℕ → Option FileTree
first_or_second b c h = if bytes_eq h (codes "b.rnc") then Some b else Some c

-- c.rnc: start = x   x = element w { empty }
abbrev one_of_x : tree.ComponentsAt applied
one_of_x =
    tree.component_and (tree.start methods.Plain (tree.ref (codes "x")))
    (tree.component_and (tree.define (codes "x") methods.Plain (empty_element inherited (codes "w"))) tree.no_components)

-- b.rnc: include "c.rnc" { x = element z { empty } }
abbrev including_c : tree.ComponentsAt applied
including_c = tree.component_and
    (tree.include (record { href = codes "c.rnc"; inherit = inherited; token = 1 })
    (tree.component_and (tree.define (codes "x") methods.Plain (empty_element inherited (codes "z"))) tree.no_components))
    tree.no_components

-- what overrides in b.rnc is overridden where b.rnc is included: one of three components of the name is left
overridden_twice : Gathers (first_or_second (grammar_file including_c) (grammar_file one_of_x)) [] [] 0 including
    (a_component None (pattern.ref (codes "x")) ∷ a_component (Some (codes "x")) (read_element [] (codes "y")) ∷ [])
overridden_twice = an_include refl refl
    (an_include refl refl (a_start ref_is (a_define (element_is empty_is) nothing)) (a_define (element_is empty_is) nothing) nothing refl)
    (a_define (element_is empty_is) nothing) nothing refl

-- ---- an inherited namespace

-- b.rnc: start = element a { empty }
abbrev one_start : tree.ComponentsAt applied
one_start = tree.component_and (tree.start methods.Plain (empty_element inherited (codes "a"))) tree.no_components

-- default namespace = "u"   include "b.rnc"
abbrev handing_on : tree.ComponentsAt applied
handing_on = tree.component_and (tree.include (mention (given (codes "u"))) tree.no_components) tree.no_components

handed_on : Gathers (always (grammar_file one_start)) [] [] 0 handing_on (a_component None (read_element (codes "u") (codes "a")) ∷ [])
handed_on = an_include refl refl (a_start (element_is empty_is) nothing) nothing nothing refl

-- ---- external files

-- `external "b.rnc" inherit = p`, where p is `v` and b.rnc is `element a { empty }`: the pattern of the file, its names
-- in the namespace of p
external_pattern : Reads (always (pattern_file (empty_element inherited (codes "a")))) [] (0 ∷ []) (tree.external (mention (given (codes "v"))))
    (pattern.external (read_element (codes "v") (codes "a"))) []
external_pattern = pattern_file_is refl (element_is empty_is)

-- with b.rnc as `start = element a { empty }`: a grammar that is nested at the place of the external
external_grammar : Reads (always (grammar_file one_start)) [] (0 ∷ []) (tree.external (mention inherited))
    (pattern.external (pattern.grammar (0 ∷ []))) (record { place = 0 ∷ []; uri = []; components = one_start } ∷ [])
external_grammar = grammar_file_is refl

-- ---- a nested grammar

-- start = parent x
abbrev inner_components : tree.ComponentsAt applied
inner_components = tree.component_and (tree.start methods.Plain (tree.parent_ref (codes "x"))) tree.no_components

-- start = element a { grammar { start = parent x } }   x = element b { empty }
abbrev outer_components : tree.ComponentsAt applied
outer_components =
    tree.component_and
    (tree.start methods.Plain (tree.element (tree.name_is (record { namespace = inherited; local = codes "a" })) (tree.grammar inner_components)))
    (tree.component_and (tree.define (codes "x") methods.Plain (empty_element inherited (codes "b"))) tree.no_components)

-- it is in the body of the first component's pattern, and the grammar around it is the main one
nested_place : HasGrammar (always (grammar_file outer_components)) (grammar_file outer_components) (0 ∷ 0 ∷ []) (Some []) [] inner_components
nested_place = nested_is (main_is refl) (a_start (element_is grammar_is) (a_define (element_is empty_is) nothing)) here here

-- ---- a whole schema

-- start = empty
abbrev empty_start : tree.ComponentsAt applied
empty_start = tree.component_and (tree.start methods.Plain tree.empty) tree.no_components

-- start = grammar { start = empty }
abbrev grammar_start : tree.ComponentsAt applied
grammar_start = tree.component_and (tree.start methods.Plain (tree.grammar empty_start)) tree.no_components

abbrev no_files : List ℕ → Option FileTree
no_files h = None

abbrev start_of : pattern.Pattern → List Component
start_of p = record { name = None; method = methods.Plain; pattern = p } ∷ []

-- the main grammar is at the empty place, the other is its first component's pattern, and there is no other
abbrev two_components : Place → Option (List Component)
two_components [] = Some (start_of (pattern.grammar (0 ∷ [])))
two_components (zero ∷ []) = Some (start_of pattern.empty)
two_components (zero ∷ (c ∷ x)) = None
two_components (suc n ∷ x) = None

abbrev around_two : Place → Option Place
around_two [] = None
around_two (zero ∷ []) = Some []
around_two (zero ∷ (c ∷ x)) = None
around_two (suc n ∷ x) = None

abbrev two_grammars : Schema
two_grammars = record { main = []; components = two_components; outer = around_two }

-- the two, at their places
data IsOneOfTwo : Place → Option Place → List ℕ → tree.ComponentsAt applied → Type 0 where
  the_main : IsOneOfTwo [] None [] grammar_start
  the_other : IsOneOfTwo (0 ∷ []) (Some []) [] empty_start

nested_in_one : {x : Place} {o : Option Place} {u : List ℕ} {cs : tree.ComponentsAt applied} {all : List Gathered} {g : Gathered} {n : Nested}
    → IsOneOfTwo x o u cs → Gathers no_files u x 0 cs all → Among g all → Among n g.nested → IsOneOfTwo n.place (Some x) n.uri n.components
nested_in_one the_main (a_start grammar_is nothing) here here = the_other
nested_in_one the_main (a_start grammar_is nothing) here (there j) = absurd (in_none j)
nested_in_one the_main (a_start grammar_is nothing) (there i) j = absurd (in_none i)
nested_in_one the_other (a_start empty_is nothing) here j = absurd (in_none j)
nested_in_one the_other (a_start empty_is nothing) (there i) j = absurd (in_none i)

one_of_two : {x : Place} {o : Option Place} {u : List ℕ} {cs : tree.ComponentsAt applied} → HasGrammar no_files (grammar_file grammar_start) x o u cs
    → IsOneOfTwo x o u cs
one_of_two (main_is e) = subst (λ cs. IsOneOfTwo [] None [] cs) (sym e) the_main
one_of_two (nested_is h d i j) = nested_in_one (one_of_two h) d i j

components_there : {x : Place} {o : Option Place} {u : List ℕ} {cs : tree.ComponentsAt applied} → IsOneOfTwo x o u cs
    → (gathered : List Gathered) × Gathers no_files u x 0 cs gathered × (two_components x ≡ Some (map (λ g. g.component) gathered)) × (around_two x ≡ o)
components_there the_main = (_, a_start grammar_is nothing, refl, refl)
components_there the_other = (_, a_start empty_is nothing, refl, refl)

grammar_there : (x : Place) (all : List Component) → two_components x ≡ Some all
    → (o : Option Place) × (u : List ℕ) × (cs : tree.ComponentsAt applied) × HasGrammar no_files (grammar_file grammar_start) x o u cs
grammar_there [] all e = (None, [], grammar_start, main_is refl)
grammar_there (zero ∷ []) all e = (Some [], [], empty_start, nested_is (main_is refl) (a_start grammar_is nothing) here here)
grammar_there (zero ∷ (c ∷ x)) all e = absurd cc
grammar_there (suc n ∷ x) all e = absurd cc

none_elsewhere : (x : Place) → two_components x ≡ None → around_two x ≡ None
none_elsewhere [] e = refl
none_elsewhere (zero ∷ []) e = absurd cc
none_elsewhere (zero ∷ (c ∷ x)) e = refl
none_elsewhere (suc n ∷ x) e = refl

-- they are the schema of the file
two_are_schema : IsSchemaOf no_files (grammar_file grammar_start) two_grammars
two_are_schema = record {
  main_place = refl;
  there = λ x o u cs h. components_there (one_of_two h);
  only_there = grammar_there;
  none_around = none_elsewhere;
}
