-- A property of each name class, datatype and value that is written in a schema holds for those in its simple form, if
-- changes of the nesting of name classes keep it.
use Rattle.std.proofs.Common.{◌≡◌, refl, subst, ℕ, ◌+◌, Bool, true, false, if◌then◌else◌, List, [], ◌∷◌, Option, Some, None}
use Rattle.rng_model.proofs.Options.{none_is_some, one_value}
use Rattle.rng_model.specs.names.Lists.{Among, here, there}
use Rattle.rng_model.specs.names.Names.{NameClass}
use Rattle.rng_model.specs.simple.Simplification.{ClassStep, RuleGroup, Step, StepAmong, AnyStep, Steps}
use Rattle.rng_model.specs.simple.Tree.{Datatype, Connector, Tree, not_allowed, empty, text, leaf, attribute, list, data_of, data_except, value, mixed}
use Rattle.rng_model.specs.simple.Tree.{optional}
use Rattle.rng_model.specs.simple.Tree.{zero_or_more, one_or_more, joined, Trees, no_trees, tree_and}
use Rattle.rng_model.specs.simple.Leaves.{LeafIn, LeafAmong}
use Rattle.rng_model.specs.schema.Patterns as written
use Rattle.rng_model.specs.schema.Patterns.{Place, Position, Pattern, Patterns, no_patterns, pattern_and, Point, an_element, a_ref, a_parent_ref, a_grammar}
use Rattle.rng_model.specs.schema.Patterns.{pattern_tree, pattern_trees, without_parameters, IsWrittenIn, itself, in_element, in_attribute, in_list, in_except}
use Rattle.rng_model.specs.schema.Patterns.{in_mixed, in_optional, in_zero_or_more, in_one_or_more, in_first, in_second, in_another, in_external}
use Rattle.rng_model.specs.schema.Patterns.{IsWrittenAmong, in_this, in_later}
use Rattle.rng_model.specs.schema.Schema.{Schema, Component, Definition, main_start, body, body_among, combining_connector, nested, nested_from}
use Rattle.rng_model.specs.schema.Schema.{same_component_name, trees_named, HasComponent, IsWrittenAt}
use Rattle.rng_model.specs.simple.SchemaForm.{Element, IsElementOf, IsSimpleFormOfSchema, SimpleForm}
use Rattle.rng_model.specs.simple.Leaves as at
use Rattle.rng_model.specs.simple.Simplification as step
use Rattle.rng_model.specs.schema.Unfolding as unfolding_of
use Rattle.rng_model.specs.schema.Unfolding.{Leaf, to_element, outside, aim, Unfolds, UnfoldAll, IsTreeOf, IsBodyOf, IsReachedBySimpleForms, from_simple_start}
use Rattle.rng_model.specs.schema.Unfolding.{from_simple_body}

pub first : {A B : Type 0} → A × B → A
first p = p.0

pub second : {A B : Type 0} → A × B → B
second p = p.1

-- ---- the conditions on the name classes of attributes, on datatypes, and on values

module _ (IsClass : NameClass → Type 0) (IsData : Datatype → Type 0) (IsValue : Datatype → List ℕ → Type 0) where
  module _ {L : Type 0} (IsLeaf : L → Type 0) where
    abbrev mutual
      pub IsFine : Tree L → Type 0
      IsFine not_allowed = Unit {0}
      IsFine empty = Unit {0}
      IsFine text = Unit {0}
      IsFine (leaf l) = IsLeaf l
      IsFine (attribute c a) = IsClass c × IsFine a
      IsFine (list a) = IsFine a
      IsFine (data_of d) = IsData d
      IsFine (data_except d a) = IsData d × IsFine a
      IsFine (value d v) = IsValue d v
      IsFine (mixed a) = IsFine a
      IsFine (optional a) = IsFine a
      IsFine (zero_or_more a) = IsFine a
      IsFine (one_or_more a) = IsFine a
      IsFine (joined k a b ts) = IsFine a × (IsFine b × AreFine ts)

      pub AreFine : Trees L → Type 0
      AreFine no_trees = Unit {0}
      AreFine (tree_and a ts) = IsFine a × AreFine ts

    mutual
      pub leaf_of : {l : L} {a : Tree L} → LeafIn l a → IsFine a → IsLeaf l
      leaf_of at.here h = h
      leaf_of (at.of_attribute i) h = leaf_of i (second h)
      leaf_of (at.of_list i) h = leaf_of i h
      leaf_of (at.of_except i) h = leaf_of i (second h)
      leaf_of (at.of_mixed i) h = leaf_of i h
      leaf_of (at.of_optional i) h = leaf_of i h
      leaf_of (at.of_zero_or_more i) h = leaf_of i h
      leaf_of (at.of_one_or_more i) h = leaf_of i h
      leaf_of (at.of_first i) h = leaf_of i (first h)
      leaf_of (at.of_second i) h = leaf_of i (first (second h))
      leaf_of (at.of_others i) h = leaf_among i (second (second h))

      leaf_among : {l : L} {ts : Trees L} → LeafAmong l ts → AreFine ts → IsLeaf l
      leaf_among (at.in_this i) h = leaf_of i (first h)
      leaf_among (at.in_later i) h = leaf_among i (second h)

    -- ---- the body of a definition, made of such trees

    abbrev AreAllFine : List (Tree L) → Type 0
    AreAllFine [] = Unit {0}
    AreAllFine (t ∷ ts) = IsFine t × AreAllFine ts

    from_fine : (k : Connector) (a : Tree L) (ts : List (Tree L)) → IsFine a → AreAllFine ts → IsFine (nested_from k a ts)
    from_fine k a [] h hs = h
    from_fine k a (b ∷ ts) h hs = from_fine k (joined k a b no_trees) ts (h, (first hs, tt)) (second hs)

    nested_fine : (k : Connector) (ts : List (Tree L)) (a : Tree L) → nested k ts ≡ Some a → AreAllFine ts → IsFine a
    nested_fine k [] a e hs = none_is_some e
    nested_fine k (t ∷ ts) a e hs = subst IsFine (one_value refl e) (from_fine k t ts (first hs) (second hs))

    -- ---- a step keeps the conditions

    module _ (keeps : (c d : NameClass) → ClassStep c d → IsClass c → IsClass d) where
      mutual
        step_fine : {g : RuleGroup} {a b : Tree L} → Step g a b → IsFine a → IsFine b
        step_fine step.nest h = ((first h, (first (second h), tt)), (first (second (second h)), second (second (second h))))
        step_fine (step.in_class s) h = (keeps _ _ s (first h), second h)
        step_fine step.mixed_is h = (h, (tt, tt))
        step_fine step.optional_is h = (h, (tt, tt))
        step_fine step.zero_or_more_is h = (h, (tt, tt))
        step_fine step.attribute_not_allowed h = tt
        step_fine step.list_not_allowed h = tt
        step_fine step.one_or_more_not_allowed h = tt
        step_fine (step.first_not_allowed n) h = tt
        step_fine (step.second_not_allowed n) h = tt
        step_fine (step.other_not_allowed n i) h = tt
        step_fine step.no_first_side h = first (second h)
        step_fine step.no_second_side h = first h
        step_fine step.no_except h = first h
        step_fine step.two_empties h = tt
        step_fine (step.first_empty n) h = first (second h)
        step_fine (step.second_empty n) h = first h
        step_fine (step.sides_change n) h = (tt, (first h, tt))
        step_fine step.one_or_more_empty h = tt
        step_fine (step.in_attribute s) h = (first h, step_fine s (second h))
        step_fine (step.in_list s) h = step_fine s h
        step_fine (step.in_except s) h = (first h, step_fine s (second h))
        step_fine (step.in_mixed s) h = step_fine s h
        step_fine (step.in_optional s) h = step_fine s h
        step_fine (step.in_zero_or_more s) h = step_fine s h
        step_fine (step.in_one_or_more s) h = step_fine s h
        step_fine (step.in_first s) h = (step_fine s (first h), second h)
        step_fine (step.in_second s) h = (first h, (step_fine s (first (second h)), second (second h)))
        step_fine (step.in_others s) h = (first h, (first (second h), among_fine s (second (second h))))

        among_fine : {g : RuleGroup} {ts us : Trees L} → StepAmong g ts us → AreFine ts → AreFine us
        among_fine (step.this_member s) h = (step_fine s (first h), second h)
        among_fine (step.later_member s) h = (first h, among_fine s (second h))

      pub steps_fine : {a b : Tree L} → Steps AnyStep a b → IsFine a → IsFine b
      steps_fine step.no_step h = h
      steps_fine (step.step_and s more) h = steps_fine more (step_fine s.1 h)

  -- ---- trees of a schema

  module _ (s : Schema) (class_is : (x : Place) (c : NameClass) (p : Pattern) → IsWrittenAt s x (written.attribute c p) → IsClass c)
      (data_is : (x : Place) (d : Datatype) → IsWrittenAt s x (written.data_of d) → IsData d)
      (except_is : (x : Place) (d : Datatype) (p : Pattern) → IsWrittenAt s x (written.data_except d p) → IsData d)
      (value_is : (x : Place) (library name v : List ℕ) → IsWrittenAt s x (written.value library name v) → IsValue (without_parameters library name) v) where
    -- the element is written at the place, and the parts of its body are, too
    abbrev pub IsElementAt : Place → NameClass → Pattern → Type 0
    IsElementAt x c p = IsWrittenAt s x (written.element c p) × ((q : Pattern) → IsWrittenIn q p → IsWrittenAt s x q)

    abbrev IsPointThere : Place → Point → Type 0
    IsPointThere x (an_element n c p) = IsElementAt x c p
    IsPointThere x (a_ref y) = Unit {0}
    IsPointThere x (a_parent_ref y) = Unit {0}
    IsPointThere x (a_grammar z) = Unit {0}

    abbrev pub IsLeafThere : Leaf → Type 0
    IsLeafThere l = IsElementAt l.place l.class l.content

    mutual
      pattern_fine : (x : Place) (p : Pattern) (n : Position) → ((q : Pattern) → IsWrittenIn q p → IsWrittenAt s x q)
          → IsFine (IsPointThere x) (pattern_tree n p)
      pattern_fine x written.not_allowed n w = tt
      pattern_fine x written.empty n w = tt
      pattern_fine x written.text n w = tt
      pattern_fine x (written.element c p) n w = (w (written.element c p) itself, λ q i. w q (in_element i))
      pattern_fine x (written.attribute c p) n w =
          (class_is x c p (w (written.attribute c p) itself), pattern_fine x p (0 ∷ n) (λ q i. w q (in_attribute i)))
      pattern_fine x (written.list p) n w = pattern_fine x p (0 ∷ n) (λ q i. w q (in_list i))
      pattern_fine x (written.data_of d) n w = data_is x d (w (written.data_of d) itself)
      pattern_fine x (written.data_except d p) n w =
          (except_is x d p (w (written.data_except d p) itself), pattern_fine x p (0 ∷ n) (λ q i. w q (in_except i)))
      pattern_fine x (written.value library name v) n w = value_is x library name v (w (written.value library name v) itself)
      pattern_fine x (written.mixed p) n w = pattern_fine x p (0 ∷ n) (λ q i. w q (in_mixed i))
      pattern_fine x (written.optional p) n w = pattern_fine x p (0 ∷ n) (λ q i. w q (in_optional i))
      pattern_fine x (written.zero_or_more p) n w = pattern_fine x p (0 ∷ n) (λ q i. w q (in_zero_or_more i))
      pattern_fine x (written.one_or_more p) n w = pattern_fine x p (0 ∷ n) (λ q i. w q (in_one_or_more i))
      pattern_fine x (written.joined k p r ps) n w = (
        pattern_fine x p (0 ∷ n) (λ q i. w q (in_first i)),
        (pattern_fine x r (1 ∷ n) (λ q i. w q (in_second i)), patterns_fine x ps 2 n (λ q i. w q (in_another i))),
      )
      pattern_fine x (written.ref y) n w = tt
      pattern_fine x (written.parent_ref y) n w = tt
      pattern_fine x (written.grammar z) n w = tt
      pattern_fine x (written.external p) n w = pattern_fine x p (0 ∷ n) (λ q i. w q (in_external i))

      patterns_fine : (x : Place) (ps : Patterns) (m : ℕ) (n : Position) → ((q : Pattern) → IsWrittenAmong q ps → IsWrittenAt s x q)
          → AreFine (IsPointThere x) (pattern_trees m n ps)
      patterns_fine x no_patterns m n w = tt
      patterns_fine x (pattern_and p ps) m n w =
          (pattern_fine x p (m ∷ n) (λ q i. w q (in_this i)), patterns_fine x ps (m + 1) n (λ q i. w q (in_later i)))

    trees_fine : (x : Place) (y : Option (List ℕ)) (n : ℕ) (cs : List Component) → ((c : Component) → Among c cs → HasComponent s x c)
        → AreAllFine (IsPointThere x) (trees_named y n cs)
    trees_fine x y n [] has = tt
    trees_fine x y n (c ∷ cs) has = by_name (same_component_name y c.name) (trees_fine x y (n + 1) cs (λ d m. has d (there m)))
      where
        by_name : (b : Bool) → AreAllFine (IsPointThere x) (trees_named y (n + 1) cs)
            → AreAllFine (IsPointThere x) (if b then pattern_tree (n ∷ []) c.pattern ∷ trees_named y (n + 1) cs else trees_named y (n + 1) cs)
        by_name true rest = (pattern_fine x c.pattern (n ∷ []) (λ q i. record { component = c; there = has c here; written = i }), rest)
        by_name false rest = rest

    body_fine : (d : Definition) (a : Tree Point) → body s d ≡ Some a → IsFine (IsPointThere d.place) a
    unfolding body
    body_fine d a e = at_components (s.components d.place) refl e
      where
        at_components : (o : Option (List Component)) → s.components d.place ≡ o → body_among d.name o ≡ Some a → IsFine (IsPointThere d.place) a
        at_components None f e = none_is_some e
        at_components (Some cs) f e = nested_fine (IsPointThere d.place) (combining_connector d.name cs) (trees_named d.name 0 cs) a e
            (trees_fine d.place d.name 0 cs (λ c m. record { components = cs; there = f; among = m }))

    aimed : (x : Place) (l : Point) (m : Leaf) → IsPointThere x l → aim s x l ≡ to_element m → IsLeafThere m
    aimed x (an_element n c p) m w e =
        let is : record { place = x; position = n; class = c; content = p } ≡ m = cc in
        subst IsLeafThere is w
    aimed x (a_ref y) m w e = cc
    aimed x (a_parent_ref y) m w e = around (s.outer x) e
      where
        around : (o : Option Place) → outside y o ≡ to_element m → IsLeafThere m
        around None e = cc
        around (Some z) e = cc
    aimed x (a_grammar z) m w e = cc

    mutual
      unfolded : {x : Place} {a : Tree Point} {b : Tree Leaf} → Unfolds s x a b → IsFine (IsPointThere x) a → IsFine IsLeafThere b
      unfolded (unfolding_of.element_is {x} {l} {m} e) h = aimed x l m h e
      unfolded (unfolding_of.found {x} {l} {d} {a} {b} e f u) h = unfolded u (body_fine d a f)
      unfolded unfolding_of.not_allowed_is h = tt
      unfolded unfolding_of.empty_is h = tt
      unfolded unfolding_of.text_is h = tt
      unfolded (unfolding_of.attribute_is u) h = (first h, unfolded u (second h))
      unfolded (unfolding_of.list_is u) h = unfolded u h
      unfolded unfolding_of.data_is h = h
      unfolded (unfolding_of.except_is u) h = (first h, unfolded u (second h))
      unfolded unfolding_of.value_is h = h
      unfolded (unfolding_of.mixed_is u) h = unfolded u h
      unfolded (unfolding_of.optional_is u) h = unfolded u h
      unfolded (unfolding_of.zero_or_more_is u) h = unfolded u h
      unfolded (unfolding_of.one_or_more_is u) h = unfolded u h
      unfolded (unfolding_of.joined_is u v us) h = (unfolded u (first h), (unfolded v (first (second h)), all_unfolded us (second (second h))))

      all_unfolded : {x : Place} {ts : Trees Point} {us : Trees Leaf} → UnfoldAll s x ts us → AreFine (IsPointThere x) ts → AreFine IsLeafThere us
      all_unfolded unfolding_of.none_is h = tt
      all_unfolded (unfolding_of.more_are u us) h = (unfolded u (first h), all_unfolded us (second h))

    tree_fine : (d : Definition) (t : Tree Leaf) → IsTreeOf s d t → IsFine IsLeafThere t
    tree_fine d t is = unfolded is.2 (body_fine d is.0 is.1)

    content_fine : (m : Leaf) (t : Tree Leaf) → IsLeafThere m → IsBodyOf s m t → IsFine IsLeafThere t
    content_fine m t w u = unfolded u (pattern_fine m.place m.content (0 ∷ m.position) (second w))

    module _ (keeps : (c d : NameClass) → ClassStep c d → IsClass c → IsClass d) where
      pub reached_there : {l : Leaf} → IsReachedBySimpleForms s l → IsLeafThere l
      reached_there (from_simple_start {t} is f i) = leaf_of IsLeafThere i (steps_fine IsLeafThere keeps f.reached (tree_fine (main_start s) t is))
      reached_there (from_simple_body {m} {l} {t} r u f i) =
          leaf_of IsLeafThere i (steps_fine IsLeafThere keeps f.reached (content_fine m t (reached_there r) u))

      -- the start and each body of the simple form meet the conditions
      pub start_fine : (f : SimpleForm) → IsSimpleFormOfSchema s f → IsFine IsLeafThere f.start
      start_fine f is = steps_fine IsLeafThere keeps is.start.reached (tree_fine (main_start s) is.tree is.is_tree)

      pub element_fine : (e : Element) → IsElementOf s e → IsFine IsLeafThere e.body
      element_fine e is = steps_fine IsLeafThere keeps is.body.reached (content_fine e.name is.tree (reached_there is.reached) is.is_tree)
