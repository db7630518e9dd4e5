-- `element a { (text & text), notAllowed }` breaks no clause: the part that would break S27 is gone after notAllowed is
-- propagated.
use Rattle.std.proofs.Common.{◌≡◌, refl, sym, subst, ap, ◌∙◌, ◌⊎◌, inl, inr, arith, ℕ, suc, ◌<◌, List, [], ◌∷◌, Some, codes, slice_get}
use Rattle.std.proofs.Common.{Contains, zero, Bool, true, false, true≢false}
use Rattle.std.proofs.lemmas.List.Elements.{All-nil, All-cons, All-contains, Contains-push}
use Rattle.std.proofs.lemmas.Option.{same_Some}
use Rattle.rng_model.proofs.Places.{among_at}
use Rattle.rng_model.specs.names.Lists.{Among, here, there, HasTwo, first_and, both_later}
use Rattle.rng_model.specs.names.Names.{Name, NameClass, name_is}
use Rattle.rng_model.specs.simple.Tree as tree
use Rattle.rng_model.specs.simple.Tree.{Tree, group, interleave, Simple, s_not_allowed, s_empty, s_text, s_leaf, s_attribute, s_list}
use Rattle.rng_model.specs.simple.Tree.{s_data, s_data_except, s_value, s_one_or_more, s_joined, as_tree}
use Rattle.rng_model.specs.simple.Grammar.{Grammar}
use Rattle.rng_model.specs.simple.Leaves.{renamed, LeafIn, depth, class_depth}
use Rattle.rng_model.specs.simple.Simplification.{ClassSteps, IsSimpleClassOf, RuleGroup, rewriting, propagation, Step, AnyStep, Steps, no_step}
use Rattle.rng_model.specs.simple.Simplification.{step_and, IsRewritten, IsSimpleFormOf}
use Rattle.rng_model.specs.simple.Simplification as steps
use Rattle.rng_model.specs.simple.Leaves as at
use Rattle.rng_model.specs.schema.Patterns.{Place, Pattern, text, not_allowed, element, attribute, data_of, data_except, value, ref, parent_ref, joined}
use Rattle.rng_model.specs.schema.Patterns.{no_patterns}
use Rattle.rng_model.specs.schema.Patterns.{IsWrittenIn}
use Rattle.rng_model.specs.schema.Patterns as in_pattern
use Rattle.rng_model.specs.schema.Schema.{Schema, Component, body, main_start, IsWrittenAt}
use Rattle.rng_model.specs.schema.Unfolding.{Leaf, Unfolds, IsTreeOf, IsBodyOf, IsReachedByTrees, from_start, from_element, IsReachedTree, of_start, of_body}
use Rattle.rng_model.specs.schema.Unfolding.{IsReachedBySimpleForms, from_simple_start, from_simple_body}
use Rattle.rng_model.specs.schema.Unfolding as u
use Rattle.rng_model.specs.simple.SchemaForm.{Element, IsElementOf, SimpleForm, IsSimpleFormOfSchema, IsSimpleGrammarOf}
use Rattle.rng_model.specs.schema.SchemaClauses as clauses
use Rattle.rng_model.specs.schema.SchemaClauses.{BreaksNoClause}
use Rattle.rng_model.specs.simple.Grammar as inside_of
use Rattle.rng_model.specs.restrictions.Contents as paths
use Rattle.rng_model.specs.restrictions.Restrictions as restrictions
use Rattle.rng_model.specs.declared.method.Method.TheVariants.{Choice}
use Rattle.rng_model.proofs.SimpleTrees.{same_simple}
use Rattle.rng_model.proofs.Unfolding.{one_tree}
use Rattle.rng_model.proofs.Examples.Schemas.{named, start, one_grammar, only_main, no_components}

abbrev texts : Pattern
texts = joined interleave text text no_patterns

abbrev inside : Pattern
inside = joined group texts not_allowed no_patterns

abbrev whole : Pattern
whole = element (named (codes "a")) inside

abbrev good : Schema
good = one_grammar (start whole ∷ [])

abbrev the_element : Leaf
the_element = record { place = []; position = 0 ∷ []; class = named (codes "a"); content = inside }

-- ---- S11 to S15: what is written in the schema

-- the five patterns that are in it
abbrev IsOneOf : Pattern → Type 0
IsOneOf q = (q ≡ whole) ⊎ ((q ≡ inside) ⊎ ((q ≡ texts) ⊎ ((q ≡ text) ⊎ (q ≡ not_allowed))))

in_texts : {q : Pattern} → IsWrittenIn q texts → IsOneOf q
in_texts in_pattern.itself = inr (inr (inl refl))
in_texts (in_pattern.in_first in_pattern.itself) = inr (inr (inr (inl refl)))
in_texts (in_pattern.in_second in_pattern.itself) = inr (inr (inr (inl refl)))
in_texts (in_pattern.in_another i) = elim i [ ]

in_inside : {q : Pattern} → IsWrittenIn q inside → IsOneOf q
in_inside in_pattern.itself = inr (inl refl)
in_inside (in_pattern.in_first i) = in_texts i
in_inside (in_pattern.in_second in_pattern.itself) = inr (inr (inr (inr refl)))
in_inside (in_pattern.in_another i) = elim i [ ]

in_whole : {q : Pattern} → IsWrittenIn q whole → IsOneOf q
in_whole in_pattern.itself = inl refl
in_whole (in_pattern.in_element i) = in_inside i

in_start : {c : Component} {q : Pattern} → Among c (start whole ∷ []) → IsWrittenIn q c.pattern → IsOneOf q
in_start here i = in_whole i
in_start (there j) i = elim j [ ]

written : {x : Place} {q : Pattern} → IsWrittenAt good x q → IsOneOf q
written {x} w = in_start (only_main x w.there) w.written

components_are : {cs ds : List Component} (x : Place) → (one_grammar cs).components x ≡ Some ds → ds ≡ cs
components_are [] e = sym (same_Some _ _ e)
components_are (n ∷ x) e = absurd (no_components e)

only_one : {c : Component} → Among c (start whole ∷ []) → c ≡ start whole
only_one here = refl
only_one (there i) = elim i [ ]

-- the class of the one element that is written
its_class : {c : NameClass} {p : Pattern} → IsOneOf (element c p) → c ≡ named (codes "a")
its_class (inl e) = cc
its_class (inr (inl e)) = cc
its_class (inr (inr (inl e))) = cc
its_class (inr (inr (inr (inl e)))) = cc
its_class (inr (inr (inr (inr e)))) = cc

-- the kinds that the clauses are about, besides elements
abbrev is_judged : Pattern → Bool
is_judged not_allowed = false
is_judged in_pattern.empty = false
is_judged text = false
is_judged (element c p) = false
is_judged (attribute c p) = true
is_judged (in_pattern.list p) = false
is_judged (data_of d) = true
is_judged (data_except d p) = true
is_judged (value library name v) = true
is_judged (in_pattern.mixed p) = false
is_judged (in_pattern.optional p) = false
is_judged (in_pattern.zero_or_more p) = false
is_judged (in_pattern.one_or_more p) = false
is_judged (joined k p q ps) = false
is_judged (ref y) = true
is_judged (parent_ref y) = true
is_judged (in_pattern.grammar x) = false
is_judged (in_pattern.external p) = false

-- none of the five patterns is of one of these kinds
none_is_judged : {q : Pattern} → IsOneOf q → is_judged q ≡ true → ⊥
none_is_judged (inl e) f = true≢false (sym f ∙ ap is_judged e)
none_is_judged (inr (inl e)) f = true≢false (sym f ∙ ap is_judged e)
none_is_judged (inr (inr (inl e))) f = true≢false (sym f ∙ ap is_judged e)
none_is_judged (inr (inr (inr (inl e)))) f = true≢false (sym f ∙ ap is_judged e)
none_is_judged (inr (inr (inr (inr e)))) f = true≢false (sym f ∙ ap is_judged e)

a_name_has_no_except : (n : Name) → ¬ (clauses.BreaksClassExcept (name_is n))
a_name_has_no_except n (clauses.any_in_any i j k) = elim i [ ]
a_name_has_no_except n (clauses.any_in_namespace i j k) = elim i [ ]
a_name_has_no_except n (clauses.namespace_in_namespace i j k) = elim i [ ]

keeps_s11 : ¬ (clauses.BreaksNameClass good)
keeps_s11 (clauses.of_element w b) = a_name_has_no_except _ (subst clauses.BreaksClassExcept (its_class (written w)) b)
keeps_s11 (clauses.of_attribute w b) = none_is_judged (written w) refl
keeps_s11 (clauses.of_declaration w i b) = none_is_judged (written w) refl

keeps_s12 : ¬ (clauses.BreaksDatatype good)
keeps_s12 (clauses.of_data w n) = none_is_judged (written w) refl
keeps_s12 (clauses.of_data_except w n) = none_is_judged (written w) refl
keeps_s12 (clauses.of_value w n) = none_is_judged (written w) refl

no_two : {P : Component → Component → Type 0} → ¬ (HasTwo P (start whole ∷ []))
no_two (first_and i p) = elim i [ ]
no_two (both_later h) = elim h [ ]

not_plain : {c : Component} → c ≡ start whole → ¬ (c.method ≡ Choice)
not_plain e f = cc

keeps_s13 : ¬ (clauses.BreaksCombination good)
keeps_s13 (clauses.two_plain {x = x} e h) = no_two (subst (HasTwo _) (components_are x e) h)
keeps_s13 (clauses.both_methods {x = x} c d n k m) = not_plain (only_one (only_main x c)) k

keeps_s14 : ¬ (clauses.HasNoStart good)
keeps_s14 b = b.none (start whole) (subst (Among (start whole)) (sym (components_are b.place b.there)) here) refl

keeps_s15 : ¬ (clauses.BreaksRef good)
keeps_s15 (clauses.of_ref w n) = none_is_judged (written w) refl
keeps_s15 (clauses.of_parent_ref w n) = none_is_judged (written w) refl

-- ---- S16 and S17: the trees

abbrev simple_texts : Simple Leaf
simple_texts = s_joined interleave s_text s_text

abbrev simple_inside : Simple Leaf
simple_inside = s_joined group simple_texts s_not_allowed

start_tree : IsTreeOf good (main_start good) (as_tree (s_leaf the_element))
unfolding body
start_tree = (tree.leaf _, refl, u.element_is refl)

body_tree : IsBodyOf good the_element (as_tree simple_inside)
body_tree = u.joined_is (u.joined_is u.text_is u.text_is u.none_is) u.not_allowed_is u.none_is

one_start : {t : Tree Leaf} → IsTreeOf good (main_start good) t → t ≡ as_tree (s_leaf the_element)
unfolding body
one_start {t} v = one_tree good (subst (λ a. Unfolds good [] a t) (sym (same_Some _ _ v.1)) v.2) (u.element_is refl)

one_body : {l : Leaf} {t : Tree Leaf} → l ≡ the_element → IsBodyOf good l t → t ≡ as_tree simple_inside
one_body {t = t} e v = one_tree good (subst (λ m. IsBodyOf good m t) e v) body_tree

only_leaf : {l : Leaf} {t : Tree Leaf} → t ≡ as_tree (s_leaf the_element) → LeafIn l t → l ≡ the_element
only_leaf {l} e i = leaf_is (subst (LeafIn l) e i) where
  leaf_is : {l : Leaf} → LeafIn l (as_tree (s_leaf the_element)) → l ≡ the_element
  leaf_is at.here = refl

no_leaf : {l : Leaf} {t : Tree Leaf} → t ≡ as_tree simple_inside → ¬ (LeafIn l t)
no_leaf {l} e i = none_there (subst (LeafIn l) e i) where
  none_there : {l : Leaf} → ¬ (LeafIn l (as_tree simple_inside))
  none_there (at.of_first (at.of_first i)) = elim i [ ]
  none_there (at.of_first (at.of_second i)) = elim i [ ]
  none_there (at.of_first (at.of_others i)) = elim i [ ]
  none_there (at.of_second i) = elim i [ ]
  none_there (at.of_others i) = elim i [ ]

reached : {l : Leaf} → IsReachedByTrees good l → l ≡ the_element
reached (from_start t i) = only_leaf (one_start t) i
reached (from_element r t i) = absurd (no_leaf (one_body (reached r) t) i)

keeps_s16 : ¬ (clauses.BreaksExpansion good)
keeps_s16 (clauses.of_start f) = f _ start_tree
keeps_s16 (clauses.of_body r f) = f _ (subst (λ l. IsBodyOf good l (as_tree simple_inside)) (sym (reached r)) body_tree)

-- no rule of the first group applies to these trees
not_rewritten_start : (c : Tree Leaf) → ¬ (Step rewriting (as_tree (s_leaf the_element)) c)
not_rewritten_start c d = elim d [ ]

not_rewritten_inside : (c : Tree Leaf) → ¬ (Step rewriting (as_tree simple_inside) c)
not_rewritten_inside c (steps.in_first (steps.in_first d)) = elim d [ ]
not_rewritten_inside c (steps.in_first (steps.in_second d)) = elim d [ ]
not_rewritten_inside c (steps.in_first (steps.in_others d)) = elim d [ ]
not_rewritten_inside c (steps.in_second d) = elim d [ ]
not_rewritten_inside c (steps.in_others d) = elim d [ ]

stays : {a b : Tree Leaf} → ((c : Tree Leaf) → ¬ (Step rewriting a c)) → Steps (Step rewriting) a b → b ≡ a
stays f no_step = refl
stays f (step_and {b = c} d ds) = absurd (f c d)

depth_is : {t : Tree Leaf} (p q : Simple Leaf) → t ≡ as_tree q → ((c : Tree Leaf) → ¬ (Step rewriting (as_tree q) c)) → IsRewritten t (as_tree p)
    → depth p ≡ depth q
depth_is p q e f r = ap depth (same_simple (stays f (subst (λ t. Steps (Step rewriting) t (as_tree p)) e r.reached)))

not_deep : {t : Tree Leaf} (p : Simple Leaf) → IsReachedTree good t → IsRewritten t (as_tree p) → ¬ (1000 < depth p)
not_deep p (of_start t) r d = let e = depth_is p (s_leaf the_element) (one_start t) not_rewritten_start r in omega (arith, e, d)
not_deep p (of_body l t) r d = let e = depth_is p simple_inside (one_body (reached l) t) not_rewritten_inside r in omega (arith, e, d)

name_stays : {n : Name} {c : NameClass} → ClassSteps (name_is n) c → c ≡ name_is n
name_stays steps.no_class_step = refl
name_stays (steps.class_step_and d ds) = elim d [ ]

not_deep_name : {l : Leaf} {c : NameClass} → l ≡ the_element → IsSimpleClassOf l.class c → ¬ (1000 < class_depth c)
not_deep_name {c = c} e s d =
    let f = ap class_depth (name_stays (subst (λ m. ClassSteps m.class c) e s.reached)) in omega (arith, f, d)

keeps_s17 : ¬ (clauses.BreaksDepth good)
keeps_s17 (clauses.deep_tree p r w d) = not_deep p r w d
keeps_s17 (clauses.deep_class r s d) = not_deep_name (reached r) s d

-- ---- S18 to S27: the simple form

texts_stay : {g : RuleGroup} {c : Tree Leaf} → ¬ (Step g (as_tree simple_texts) c)
texts_stay (steps.other_not_allowed f h) = elim h [ ]
texts_stay (steps.in_first d) = elim d [ ]
texts_stay (steps.in_second d) = elim d [ ]
texts_stay (steps.in_others d) = elim d [ ]

-- one step propagates notAllowed
next_of_inside : {g : RuleGroup} {c : Tree Leaf} → Step g (as_tree simple_inside) c → c ≡ tree.not_allowed
next_of_inside (steps.second_not_allowed f) = refl
next_of_inside (steps.other_not_allowed f h) = elim h [ ]
next_of_inside (steps.in_first d) = absurd (texts_stay d)
next_of_inside (steps.in_second d) = elim d [ ]
next_of_inside (steps.in_others d) = elim d [ ]

nothing_stays : {g : RuleGroup} {c : Tree Leaf} → ¬ (Step g tree.not_allowed c)
nothing_stays d = elim d [ ]

leaf_stays : {g : RuleGroup} {l : Leaf} {c : Tree Leaf} → ¬ (Step g (tree.leaf l) c)
leaf_stays d = elim d [ ]

only_nothing : {b : Tree Leaf} → Steps AnyStep tree.not_allowed b → b ≡ tree.not_allowed
only_nothing no_step = refl
only_nothing (step_and s ds) = absurd (nothing_stays s.1)

form_of_inside : {b : Tree Leaf} → Steps AnyStep (as_tree simple_inside) b → ((c : Tree Leaf) → AnyStep b c → ⊥) → b ≡ tree.not_allowed
form_of_inside no_step last = absurd (last tree.not_allowed (propagation, steps.second_not_allowed (λ e. cc)))
form_of_inside {b} (step_and s ds) last = only_nothing (subst (λ c. Steps AnyStep c b) (next_of_inside s.1) ds)

form_of_start : {b : Tree Leaf} → Steps AnyStep (as_tree (s_leaf the_element)) b → b ≡ as_tree (s_leaf the_element)
form_of_start no_step = refl
form_of_start (step_and s ds) = absurd (leaf_stays s.1)

simple_inside_is : {t b : Tree Leaf} → t ≡ as_tree simple_inside → IsSimpleFormOf t b → b ≡ tree.not_allowed
simple_inside_is {b = b} e f = form_of_inside (subst (λ t. Steps AnyStep t b) e f.reached) f.last

simple_start_is : {t b : Tree Leaf} → t ≡ as_tree (s_leaf the_element) → IsSimpleFormOf t b → b ≡ as_tree (s_leaf the_element)
simple_start_is {b = b} e f = form_of_start (subst (λ t. Steps AnyStep t b) e f.reached)

none_in_nothing : {l : Leaf} {b : Tree Leaf} → b ≡ tree.not_allowed → ¬ (LeafIn l b)
none_in_nothing {l} e i = elim_leaf (subst (LeafIn l) e i) where
  elim_leaf : {l : Leaf} → ¬ (LeafIn l tree.not_allowed)
  elim_leaf i = elim i [ ]

simply_reached : {l : Leaf} → IsReachedBySimpleForms good l → l ≡ the_element
simply_reached (from_simple_start t f i) = only_leaf (simple_start_is (one_start t) f) i
simply_reached (from_simple_body r t f i) = absurd (none_in_nothing (simple_inside_is (one_body (simply_reached r) t) f) i)

-- a ref to an element, or notAllowed: the grammar's start is the first, and each body the second
pub data IsBare : Simple ℕ → Type 0 where
  an_element : {k : ℕ} → IsBare (s_leaf k)
  nothing : IsBare s_not_allowed

leaf_of : (f : ℕ → Leaf) {l : Leaf} (p : Simple ℕ) → renamed f (as_tree p) ≡ as_tree (s_leaf l) → IsBare p
leaf_of f s_not_allowed e = cc
leaf_of f s_empty e = cc
leaf_of f s_text e = cc
leaf_of f (s_leaf k) e = an_element
leaf_of f (s_attribute c p) e = cc
leaf_of f (s_list p) e = cc
leaf_of f (s_data d) e = cc
leaf_of f (s_data_except d p) e = cc
leaf_of f (s_value d v) e = cc
leaf_of f (s_one_or_more p) e = cc
leaf_of f (s_joined k p q) e = cc

nothing_of : (f : ℕ → Leaf) (p : Simple ℕ) → renamed f (as_tree p) ≡ tree.not_allowed → p ≡ s_not_allowed
nothing_of f s_not_allowed e = refl
nothing_of f s_empty e = cc
nothing_of f s_text e = cc
nothing_of f (s_leaf k) e = cc
nothing_of f (s_attribute c p) e = cc
nothing_of f (s_list p) e = cc
nothing_of f (s_data d) e = cc
nothing_of f (s_data_except d p) e = cc
nothing_of f (s_value d v) e = cc
nothing_of f (s_one_or_more p) e = cc
nothing_of f (s_joined k p q) e = cc

module _ {g : Grammar} (is : IsSimpleGrammarOf good g) where
  bare_start : IsBare g.start
  bare_start = leaf_of is.2.element g.start (sym is.2.start ∙ simple_start_is (one_start is.1.is_tree) is.1.start)

  bare_element : (e : Element) → IsElementOf good e → e.body ≡ tree.not_allowed
  bare_element e i = simple_inside_is (one_body (simply_reached i.reached) i.is_tree) i.body

  bare_body : {c : NameClass} {body : Simple ℕ} → Among (c, body) g.elements → body ≡ s_not_allowed
  bare_body {c} {body} i =
      let k = among_at i in
      let e : Element = record { name = is.2.element k.0; class = c; body = renamed is.2.element (as_tree body) } in
      nothing_of is.2.element body (bare_element e (All-contains (IsElementOf good) is.0.elements e is.1.elements (is.2.bodies k.0 c body k.1).0))

  bare_part : {p : Simple ℕ} → restrictions.IsPart g p → IsBare p
  bare_part restrictions.the_start = bare_start
  bare_part (restrictions.a_body i) = subst IsBare (sym (bare_body i)) nothing

-- a bare pattern has nothing inside except itself
alone : {P : inside_of.Kind → Type 0} {p q : Simple ℕ} → IsBare p → inside_of.Through P q p → IsBare q
alone an_element inside_of.itself = an_element
alone nothing inside_of.itself = nothing
alone an_element (inside_of.below such child w) = elim child [ ]
alone nothing (inside_of.below such child w) = elim child [ ]

nothing_inside : {p q : Simple ℕ} → IsBare p → ¬ (inside_of.Inside q p)
nothing_inside an_element i = elim i.1 [ ]
nothing_inside nothing i = elim i.1 [ ]

-- each path has two kinds or more
no_path : {p : Simple ℕ} {clause : ℕ} → IsBare p → ¬ (paths.HasProhibited clause p)
no_path bare (_, paths.attribute_ref, h) = nothing_inside (alone bare h.1) h.3.1
no_path bare (_, paths.attribute_attribute, h) = nothing_inside (alone bare h.1) h.3.1
no_path bare (_, paths.repeated_group_attribute, h) = nothing_inside (alone bare h.1) h.3.1
no_path bare (_, paths.repeated_interleave_attribute, h) = nothing_inside (alone bare h.1) h.3.1
no_path bare (_, paths.list_list, h) = nothing_inside (alone bare h.1) h.3.1
no_path bare (_, paths.list_ref, h) = nothing_inside (alone bare h.1) h.3.1
no_path bare (_, paths.list_attribute, h) = nothing_inside (alone bare h.1) h.3.1
no_path bare (_, paths.list_text, h) = nothing_inside (alone bare h.1) h.3.1
no_path bare (_, paths.list_interleave, h) = nothing_inside (alone bare h.1) h.3.1
no_path bare (_, paths.data_attribute, h) = nothing_inside (alone bare h.1) h.3.1
no_path bare (_, paths.data_ref, h) = nothing_inside (alone bare h.1) h.3.1
no_path bare (_, paths.data_text, h) = nothing_inside (alone bare h.1) h.3.1
no_path bare (_, paths.data_list, h) = nothing_inside (alone bare h.1) h.3.1
no_path bare (_, paths.data_group, h) = nothing_inside (alone bare h.1) h.3.1
no_path bare (_, paths.data_interleave, h) = nothing_inside (alone bare h.1) h.3.1
no_path bare (_, paths.data_one_or_more, h) = nothing_inside (alone bare h.1) h.3.1
no_path bare (_, paths.data_empty, h) = nothing_inside (alone bare h.1) h.3.1

no_prohibited_kind : {p : Simple ℕ} {k : inside_of.Kind} → IsBare p → inside_of.kind_of p ≡ k → ¬ (paths.IsProhibitedInStart k)
no_prohibited_kind an_element e b = elim (subst paths.IsProhibitedInStart (sym e) b) [ ]
no_prohibited_kind nothing e b = elim (subst paths.IsProhibitedInStart (sym e) b) [ ]

no_joined : {k : tree.Connector} {p q : Simple ℕ} → ¬ (IsBare (s_joined k p q))
no_joined b = elim b [ ]

no_attribute_in : {c : NameClass} {p : Simple ℕ} → ¬ (IsBare (s_attribute c p))
no_attribute_in b = elim b [ ]

keeps_restrictions : {g : Grammar} {clause : ℕ} → IsSimpleGrammarOf good g → ¬ (restrictions.BreaksRestriction g clause)
keeps_restrictions is (restrictions.in_path i b) = no_path (bare_part is i) b
keeps_restrictions is (restrictions.in_start b) = no_prohibited_kind (alone (bare_start is) b.2.1) b.2.2 b.1
keeps_restrictions is (restrictions.in_content i b) = b.not_whole (bare_body is i)
keeps_restrictions is (restrictions.in_attribute_names i b) = no_joined (alone (bare_part is i) b.stands)
keeps_restrictions is (restrictions.in_wildcard i b) = no_attribute_in (alone (bare_part is i) b.stands)
keeps_restrictions is (restrictions.in_element_names i b) = no_joined (alone (bare_part is i) b.stands)
keeps_restrictions is (restrictions.in_text i b) = no_joined (alone (bare_part is i) b.stands)

-- ---- no clause is broken

pub breaks_nothing : BreaksNoClause good
breaks_nothing clause (clauses.in_schema (clauses.in_name_class b)) = keeps_s11 b
breaks_nothing clause (clauses.in_schema (clauses.in_datatype b)) = keeps_s12 b
breaks_nothing clause (clauses.in_schema (clauses.in_combination b)) = keeps_s13 b
breaks_nothing clause (clauses.in_schema (clauses.without_start b)) = keeps_s14 b
breaks_nothing clause (clauses.in_schema (clauses.in_ref b)) = keeps_s15 b
breaks_nothing clause (clauses.in_schema (clauses.in_expansion b)) = keeps_s16 b
breaks_nothing clause (clauses.in_schema (clauses.in_depth b)) = keeps_s17 b
breaks_nothing clause (clauses.in_restriction is b) = keeps_restrictions is b

-- ---- the simple form is this grammar

abbrev the_grammar : Grammar
the_grammar = record { start = s_leaf 0; elements = (named (codes "a"), s_not_allowed) ∷ [] }

abbrev element_of_form : Element
element_of_form = record { name = the_element; class = named (codes "a"); body = tree.not_allowed }

abbrev the_form : SimpleForm
the_form = record { start = as_tree (s_leaf the_element); elements = element_of_form ∷ [] }

start_stays : IsSimpleFormOf (as_tree (s_leaf the_element)) (as_tree (s_leaf the_element))
start_stays = record { reached = no_step; last = λ c s. leaf_stays s.1 }

is_reached : IsReachedBySimpleForms good the_element
is_reached = from_simple_start start_tree start_stays at.here

is_element : IsElementOf good element_of_form
is_element = record {
  reached = is_reached;
  class = record { reached = steps.no_class_step; simple = λ c d. elim d [ ] };
  tree = as_tree simple_inside;
  is_tree = body_tree;
  body = record { reached = step_and (propagation, steps.second_not_allowed (λ e. cc)) no_step; last = λ c s. nothing_stays s.1 };
}

is_form : IsSimpleFormOfSchema good the_form
is_form = record {
  tree = as_tree (s_leaf the_element);
  is_tree = start_tree;
  start = start_stays;
  elements = All-cons (IsElementOf good) element_of_form [] is_element (All-nil (IsElementOf good));
  reached = λ l r. (element_of_form, Contains-push [] element_of_form, sym (simply_reached r));
}

only_number : {j k n : ℕ} → n ≡ 1 → j < n → k < n → j ≡ k
only_number e a b = omega (arith, e, a, b)

leaves_below : {k : ℕ} → LeafIn k (tree.leaf 0) → k < 1
leaves_below at.here = omega arith

no_leaves : {k : ℕ} → LeafIn k tree.not_allowed → k < 1
no_leaves i = elim i [ ]

abbrev HasBody : NameClass → Simple ℕ → Type 0
HasBody c p = Contains the_form.elements (record { name = the_element; class = c; body = renamed (λ n. the_element) (as_tree p) })
    × ((n : ℕ) → LeafIn n (as_tree p) → n < 1)

is_body : HasBody (named (codes "a")) s_not_allowed
is_body = (Contains-push [] element_of_form, λ n i. no_leaves i)

the_bodies : (k : ℕ) (c : NameClass) (p : Simple ℕ) → slice_get the_grammar.elements k ≡ Some (c, p) → HasBody c p
the_bodies zero c p e = subst (λ x. HasBody x.0 x.1) (same_Some _ _ e) is_body
the_bodies (suc k) c p e = absurd (nothing_behind e) where
  nothing_behind : {x : NameClass × Simple ℕ} → slice_get [] k ≡ Some x → ⊥
  nothing_behind f = cc

abbrev HasNumber : Element → Type 0
HasNumber e = (k : ℕ) × (k < 1) × (the_element ≡ e.name)

pub is_simple_grammar : IsSimpleGrammarOf good the_grammar
is_simple_grammar = (
  the_form,
  is_form,
  record {
    element = λ n. the_element;
    one_to_one = λ j k a b e. only_number refl a b;
    all = All-cons HasNumber element_of_form [] (0, omega arith, refl) (All-nil HasNumber);
    start = refl;
    start_below = λ k i. leaves_below i;
    bodies = the_bodies;
  },
)
