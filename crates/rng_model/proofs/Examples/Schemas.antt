-- Small schemas: their definitions, and the trees of these.
use Rattle.std.proofs.Common.{◌≡◌, refl, ap, sym, subst, ℕ, List, [], ◌∷◌, Option, Some, None, codes}
use Rattle.std.proofs.lemmas.Option.{same_Some}
use Rattle.rng_model.specs.names.Names.{NameClass, name_is}
use Rattle.rng_model.specs.simple.Tree as tree
use Rattle.rng_model.specs.simple.Tree.{Tree, choice, group, interleave}
use Rattle.rng_model.specs.schema.Patterns.{Place, Pattern, element, empty, ref, parent_ref, grammar, external, joined, no_patterns, Point, an_element, a_ref}
use Rattle.rng_model.specs.names.Lists.{Among}
use Rattle.rng_model.specs.schema.Schema.{Schema, Component, Definition, body, main_start, HasComponent}
use Rattle.rng_model.specs.simple.Leaves as at
use Rattle.rng_model.specs.schema.Unfolding.{Leaf, to_definition, IsTreeOf, IsBodyOf}
use Rattle.rng_model.specs.schema.Unfolding as u
use Rattle.rng_model.specs.declared.method.Method.TheVariants.{Plain, Choice, Interleave}
use Rattle.rng_model.proofs.Unfolding.{IsStuck, none_of_stuck}

abbrev pub named : List ℕ → NameClass
named local = name_is (record { ns = []; local = local })

-- `element NAME { .. }`
abbrev pub an_element_of : List ℕ → Pattern → Pattern
an_element_of local p = element (named local) p

abbrev pub start : Pattern → Component
start p = record { name = None; method = Plain; pattern = p }

abbrev pub define : List ℕ → Pattern → Component
define y p = record { name = Some y; method = Plain; pattern = p }

-- the components of the only grammar, which is the main one
abbrev pub at_main : List Component → Place → Option (List Component)
at_main cs [] = Some cs
at_main cs (n ∷ x) = None

abbrev pub one_grammar : List Component → Schema
one_grammar cs = record { main = []; components = at_main cs; outer = λ z. None }

pub no_components : {cs : List Component} → None ≡ Some cs → ⊥
no_components e = cc

-- a component at any place is in the main grammar
pub only_main : {cs : List Component} (x : Place) {c : Component} → HasComponent (one_grammar cs) x c → Among c cs
only_main [] {c} h = subst (λ ds. Among c ds) (sym (same_Some _ _ h.there)) h.among
only_main (n ∷ x) h = absurd (no_components h.there)

-- a definition of the main grammar
abbrev pub in_main : Option (List ℕ) → Definition
in_main y = record { place = []; name = y }

-- an element of the main grammar with an empty body, at a position
abbrev pub empty_leaf : List ℕ → List ℕ → Leaf
empty_leaf position local = record { place = []; position = position; class = named local; content = empty }

-- ---- two components of one name

-- start = a   a |= element x { empty }   a |= element x { empty }
abbrev two_by_choice : Schema
two_by_choice = one_grammar (start (ref (codes "a"))
    ∷ record { name = Some (codes "a"); method = Choice; pattern = an_element_of (codes "x") empty }
    ∷ record { name = Some (codes "a"); method = Choice; pattern = an_element_of (codes "x") empty } ∷ [])

-- equal bodies of one name are two elements: the position of each begins with the number of its component
choice_of_two : IsTreeOf two_by_choice (main_start two_by_choice)
    (tree.joined choice (tree.leaf (empty_leaf (1 ∷ []) (codes "x"))) (tree.leaf (empty_leaf (2 ∷ []) (codes "x"))) tree.no_trees)
unfolding body
choice_of_two = (tree.leaf (a_ref (codes "a")), refl, u.found refl refl (u.joined_is (u.element_is refl) (u.element_is refl) u.none_is))

-- start = a | b   a = element x { empty }   b = element x { empty }
abbrev two_names : Schema
two_names = one_grammar (start (joined choice (ref (codes "a")) (ref (codes "b")) no_patterns)
    ∷ define (codes "a") (an_element_of (codes "x") empty) ∷ define (codes "b") (an_element_of (codes "x") empty) ∷ [])

-- equal bodies of two names are two elements too
choice_of_two_names : IsTreeOf two_names (main_start two_names)
    (tree.joined choice (tree.leaf (empty_leaf (1 ∷ []) (codes "x"))) (tree.leaf (empty_leaf (2 ∷ []) (codes "x"))) tree.no_trees)
unfolding body
choice_of_two_names = (
  tree.joined choice (tree.leaf (a_ref (codes "a"))) (tree.leaf (a_ref (codes "b"))) tree.no_trees,
  refl,
  u.joined_is (u.found refl refl (u.element_is refl)) (u.found refl refl (u.element_is refl)) u.none_is,
)

-- a &= element x { empty }   a = element y { empty }   a &= element z { empty }: an interleave, nested from the left
abbrev three_by_interleave : Schema
three_by_interleave = one_grammar (
    record { name = Some (codes "a"); method = Interleave; pattern = an_element_of (codes "x") empty }
    ∷ record { name = Some (codes "a"); method = Plain; pattern = an_element_of (codes "y") empty }
    ∷ record { name = Some (codes "a"); method = Interleave; pattern = an_element_of (codes "z") empty } ∷ [])

abbrev empty_point : List ℕ → List ℕ → Tree Point
empty_point position local = tree.leaf (an_element position (named local) empty)

interleave_of_three : body three_by_interleave (in_main (Some (codes "a"))) ≡
    Some (tree.joined interleave (tree.joined interleave (empty_point (0 ∷ []) (codes "x")) (empty_point (1 ∷ []) (codes "y")) tree.no_trees)
    (empty_point (2 ∷ []) (codes "z")) tree.no_trees)
unfolding body
interleave_of_three = refl

-- ---- other files, and nested grammars

-- start = external "b.rnc"   x = element a { empty }, where the file is no grammar: `x`
abbrev through_a_file : Schema
through_a_file = one_grammar (start (external (ref (codes "x"))) ∷ define (codes "x") (an_element_of (codes "a") empty) ∷ [])

-- its refs are looked up in the grammar that mentions it
ref_through_a_file : IsTreeOf through_a_file (main_start through_a_file) (tree.leaf (empty_leaf (1 ∷ []) (codes "a")))
unfolding body
ref_through_a_file = (tree.leaf (a_ref (codes "x")), refl, u.found refl refl (u.element_is refl))

-- start = element a { grammar { start = parent x, x   x = element c { empty } } }   x = element b { empty }
abbrev outer_components : List Component
outer_components = start (an_element_of (codes "a") (grammar (7 ∷ []))) ∷ define (codes "x") (an_element_of (codes "b") empty) ∷ []

abbrev inner_components : List Component
inner_components = start (joined group (parent_ref (codes "x")) (ref (codes "x")) no_patterns) ∷ define (codes "x") (an_element_of (codes "c") empty) ∷ []

abbrev components_of_both : Place → Option (List Component)
components_of_both [] = Some outer_components
components_of_both (n ∷ x) = Some inner_components

abbrev outer_of_both : Place → Option Place
outer_of_both [] = None
outer_of_both (n ∷ x) = Some []

abbrev nested_grammar : Schema
nested_grammar = record { main = []; components = components_of_both; outer = outer_of_both }

abbrev the_element_a : Leaf
the_element_a = record { place = []; position = 0 ∷ []; class = named (codes "a"); content = grammar (7 ∷ []) }

abbrev the_element_c : Leaf
the_element_c = record { place = 7 ∷ []; position = 1 ∷ []; class = named (codes "c"); content = empty }

-- the parent ref is b of the grammar around, the ref is c of its own grammar
parent_and_own : IsBodyOf nested_grammar the_element_a
    (tree.joined group (tree.leaf (empty_leaf (1 ∷ []) (codes "b"))) (tree.leaf the_element_c) tree.no_trees)
unfolding body
parent_and_own = u.found refl refl (u.joined_is (u.found refl refl (u.element_is refl)) (u.found refl refl (u.element_is refl)) u.none_is)

-- ---- loops

-- start = c   c = c | element b { empty }
abbrev pub looping : Schema
looping = one_grammar (start (ref (codes "c")) ∷ define (codes "c") (joined choice (ref (codes "c")) (an_element_of (codes "b") empty) no_patterns) ∷ [])

abbrev looping_body : Tree Point
looping_body = tree.joined choice (tree.leaf (a_ref (codes "c"))) (empty_point (1 ∷ 1 ∷ []) (codes "b")) tree.no_trees

the_body_of_c : body looping (in_main (Some (codes "c"))) ≡ Some looping_body
unfolding body
the_body_of_c = refl

is_its_own : IsStuck looping (λ d. d ≡ in_main (Some (codes "c")))
is_its_own d e a b = record {
  point = a_ref (codes "c");
  definition = in_main (Some (codes "c"));
  there = subst (at.LeafIn (a_ref (codes "c"))) own_body (at.of_first at.here);
  aimed = ap (λ f. to_definition (record { place = f.place; name = Some (codes "c") })) e;
  holds = refl;
} where
  own_body : looping_body ≡ a
  own_body = let f = the_body_of_c in cc

-- a pattern whose expansion loops has no tree
pub no_tree_of_c : (t : Tree Leaf) → IsTreeOf looping (in_main (Some (codes "c"))) t → ⊥
no_tree_of_c = none_of_stuck looping (λ d. d ≡ in_main (Some (codes "c"))) is_its_own (in_main (Some (codes "c"))) refl

-- start = c   c = element b { c }
abbrev recursive : Schema
recursive = one_grammar (start (ref (codes "c")) ∷ define (codes "c") (an_element_of (codes "b") (ref (codes "c"))) ∷ [])

abbrev the_element_b : Leaf
the_element_b = record { place = []; position = 1 ∷ []; class = named (codes "b"); content = ref (codes "c") }

-- a loop through an element does not count: the element is a leaf, and a leaf of its own body
recursive_start : IsTreeOf recursive (main_start recursive) (tree.leaf the_element_b)
unfolding body
recursive_start = (tree.leaf (a_ref (codes "c")), refl, u.found refl refl (u.element_is refl))

recursive_body : IsBodyOf recursive the_element_b (tree.leaf the_element_b)
unfolding body
recursive_body = u.found refl refl (u.element_is refl)
