-- The smallest schemas that break each clause from S11 to S17. `GoodSchema` has one that breaks none.
use Rattle.std.proofs.Common.{◌≡◌, refl, sym, subst, arith, ℕ, suc, zero, ◌+◌, List, [], ◌∷◌, Some, codes}
use Rattle.rng_model.specs.names.Lists.{Among, here, there, first_and}
use Rattle.rng_model.specs.names.Names.{any_except}
use Rattle.rng_model.specs.simple.Tree as tree
use Rattle.rng_model.specs.simple.Tree.{Datatype, Tree, Simple, s_text, s_list, as_tree}
use Rattle.rng_model.specs.datatypes.Datatypes.{IsKnownDatatype, type_named}
use Rattle.rng_model.specs.schema.Patterns.{Place, Position, Point, Pattern, text, element, attribute, list, data_of, ref, parent_ref}
use Rattle.rng_model.specs.schema.Patterns.{pattern_tree}
use Rattle.rng_model.specs.schema.Patterns as in_pattern
use Rattle.rng_model.specs.schema.Schema.{Schema, Component, body, main_start, IsWrittenAt}
use Rattle.rng_model.specs.simple.Leaves as at
use Rattle.rng_model.specs.simple.Simplification as steps
use Rattle.rng_model.specs.schema.Unfolding.{Leaf, to_definition, aim, Unfolds, IsTreeOf, of_body, IsReachedByTrees, from_start}
use Rattle.rng_model.specs.schema.Unfolding as u
use Rattle.rng_model.specs.simple.Leaves.{depth}
use Rattle.rng_model.specs.schema.SchemaClauses as clauses
use Rattle.rng_model.specs.schema.SchemaClauses.{BreaksClause, any_in_any, any_but_is, itself}
use Rattle.rng_model.specs.declared.method.Method.TheVariants.{Choice, Interleave}
use Rattle.std.proofs.lemmas.Bool.{true≢false}
use Rattle.std.proofs.lemmas.Option.{same_Some}
use Rattle.rng_model.proofs.Unfolding.{not_both, one_definition}
use Rattle.rng_model.proofs.Examples.Schemas.{named, an_element_of, start, one_grammar, only_main, in_main, looping, no_tree_of_c}

-- the pattern of the start of a schema with no other component is written there
start_written : {p q : Pattern} → in_pattern.IsWrittenIn q p → IsWrittenAt (one_grammar (start p ∷ [])) [] q
start_written {p = p} i = record { component = start p; there = record { components = start p ∷ []; there = refl; among = here }; written = i }

-- `element * - (* - a) { text }`
s11 : BreaksClause (one_grammar (start (element (any_except (any_except (named (codes "a")))) text) ∷ [])) 11
s11 = clauses.in_schema (clauses.in_name_class (clauses.of_element (start_written in_pattern.itself) (any_in_any itself itself any_but_is)))

-- `element a { attribute xmlns { text } }`
s11_xmlns : BreaksClause (one_grammar (start (an_element_of (codes "a") (attribute (named (codes "xmlns")) text)) ∷ [])) 11
s11_xmlns = clauses.in_schema (clauses.in_name_class (
    clauses.of_declaration (start_written (in_pattern.in_element in_pattern.itself)) itself (clauses.xmlns_is refl refl)))

-- `element a { u:t }`, where `u` is a library that is not known
abbrev unknown_type : Datatype
unknown_type = record { library = codes "u"; name = codes "t"; parameters = [] }

type_is_unknown : IsKnownDatatype unknown_type → ⊥
unfolding type_named
type_is_unknown known = true≢false (sym known)

s12 : BreaksClause (one_grammar (start (an_element_of (codes "a") (data_of unknown_type)) ∷ [])) 12
s12 = clauses.in_schema (clauses.in_datatype (clauses.of_data (start_written (in_pattern.in_element in_pattern.itself)) type_is_unknown))

-- `start = text   start = text`
s13 : BreaksClause (one_grammar (start text ∷ start text ∷ [])) 13
s13 = clauses.in_schema (clauses.in_combination (clauses.two_plain {x = []} refl (first_and here (refl, refl, refl))))

-- `a |= text   a &= text`
abbrev combined_by_both : List Component
combined_by_both =
    record { name = Some (codes "a"); method = Choice; pattern = text }
    ∷ record { name = Some (codes "a"); method = Interleave; pattern = text } ∷ []

s13_both : BreaksClause (one_grammar combined_by_both) 13
s13_both = clauses.in_schema (clauses.in_combination (clauses.both_methods {x = []} (record { components = combined_by_both; there = refl; among = here })
    (record { components = combined_by_both; there = refl; among = there here }) refl refl refl))

-- no components
s14 : BreaksClause (one_grammar []) 14
s14 = clauses.in_schema (clauses.without_start (record { place = []; components = []; there = refl; none = λ c i. elim i [ ] }))

-- `foo`
not_there : {p : Pattern} {y : List ℕ} {c : Component} → Among c (start p ∷ []) → c.name ≡ Some y → ⊥
not_there here e = cc
not_there (there i) e = elim i [ ]

foo_undefined : clauses.IsDefinedAt (one_grammar (start (ref (codes "foo")) ∷ [])) [] (codes "foo") → ⊥
foo_undefined d = not_there (only_main [] d.1) d.2

s15 : BreaksClause (one_grammar (start (ref (codes "foo")) ∷ [])) 15
s15 = clauses.in_schema (clauses.in_ref (clauses.of_ref (start_written in_pattern.itself) foo_undefined))

-- `parent foo` in the main grammar
s15_parent : BreaksClause (one_grammar (start (parent_ref (codes "foo")) ∷ [])) 15
s15_parent = clauses.in_schema (clauses.in_ref (clauses.of_parent_ref {x = []} (start_written in_pattern.itself) (λ z e. cc)))

-- start = c   c = c | element b { empty }
ref_loops : {x : Place} {l : Point} {t : Tree Leaf} → Unfolds looping x (tree.leaf l) t → aim looping x l ≡ to_definition (in_main (Some (codes "c"))) → ⊥
ref_loops (u.element_is e) f = not_both e f
ref_loops {t = t} (u.found {a = a} e b w) f = no_tree_of_c t (subst (λ g. IsTreeOf looping g t) (one_definition e f) (a, b, w))

start_loops : (t : Tree Leaf) → IsTreeOf looping (main_start looping) t → ⊥
unfolding body
start_loops t v = ref_loops (subst (λ a. Unfolds looping [] a t) (sym (same_Some _ _ v.1)) v.2) refl

s16 : BreaksClause looping 16
s16 = clauses.in_schema (clauses.in_expansion (clauses.of_start start_loops))

-- ---- S17: `element a { list { .. { text } .. } }` with 1,000 lists

lists : ℕ → Pattern
lists zero = text
lists (suc n) = list (lists n)

simple_lists : ℕ → Simple Leaf
simple_lists zero = s_text
simple_lists (suc n) = s_list (simple_lists n)

module _ (s : Schema) where
  unfolded_lists : (n : ℕ) (x : Position) → Unfolds s [] (pattern_tree x (lists n)) (as_tree (simple_lists n))
  unfolding lists simple_lists
  unfolded_lists zero x = u.text_is
  unfolded_lists (suc n) x = u.list_is (unfolded_lists n (0 ∷ x))

no_step : (n : ℕ) {c : Tree Leaf} → steps.Step steps.rewriting (as_tree (simple_lists n)) c → ⊥
unfolding simple_lists
no_step zero d = elim d [ ]
no_step (suc n) (steps.in_list d) = no_step n d

depth_of_lists : (n : ℕ) → depth (simple_lists n) ≡ n + 1
unfolding simple_lists
depth_of_lists zero = refl
depth_of_lists (suc n) = let e = depth_of_lists n in omega (arith, e)

abbrev thousand_lists : Leaf
thousand_lists = record { place = []; position = 0 ∷ []; class = named (codes "a"); content = lists 1000 }

abbrev deep : Schema
deep = one_grammar (start (element (named (codes "a")) (lists 1000)) ∷ [])

is_reached : IsReachedByTrees deep thousand_lists
unfolding body
is_reached = from_start {t = tree.leaf thousand_lists} (tree.leaf _, refl, u.element_is refl) at.here

s17 : BreaksClause deep 17
s17 = clauses.in_schema (clauses.in_depth (clauses.deep_tree {t = as_tree (simple_lists 1000)} (simple_lists 1000)
    (of_body {l = thousand_lists} is_reached (unfolded_lists deep 1000 (0 ∷ 0 ∷ [])))
    (record { reached = steps.no_step; last = λ c d. no_step 1000 d })
    (let e = depth_of_lists 1000 in omega (arith, e))))
