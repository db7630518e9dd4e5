-- A schema is ready if its grammars are in their places, each has a start, and each ref has a definition.
use Rattle.std.proofs.Common.{◌≡◌, ◌⊎◌, inl, inr, refl, sym, ap, ◌∙◌, subst, arith, ℕ, ◌+◌, Bool, true, false, true≢false}
use Rattle.std.proofs.Common.{if◌then◌else◌, List, [], ◌∷◌, Option, Some, None, Contains}
use Rattle.std.proofs.lemmas.List.Elements.{Contains-append_cases, Contains-append_right, Contains-push_cases}
use Rattle.std.proofs.lemmas.Option.{none-some}
use Rattle.rng_model.proofs.Members.{not_in_none}
use Rattle.rng_model.specs.names.Lists.{Among, here, there}
use Rattle.rng_model.specs.simple.Tree.{Tree, Connector}
use Rattle.rng_model.specs.schema.Patterns.{Place, Position, Pattern, not_allowed, empty, text, element, attribute, list, data_of, data_except, value}
use Rattle.rng_model.specs.schema.Patterns.{mixed, optional, zero_or_more, one_or_more, joined, ref, parent_ref, grammar, external, Patterns, no_patterns}
use Rattle.rng_model.specs.schema.Patterns.{pattern_and, Point, an_element, a_ref, a_parent_ref, a_grammar, pattern_tree, pattern_trees}
use Rattle.rng_model.specs.schema.Patterns.{IsWrittenIn, itself, in_element, in_attribute, in_list, in_except, in_mixed, in_optional, in_zero_or_more}
use Rattle.rng_model.specs.schema.Patterns.{in_one_or_more, in_first, in_second, in_another, in_external, IsWrittenAmong, in_this, in_later}
use Rattle.rng_model.specs.schema.Schema.{Schema, Component, Definition, body, body_among, combining_connector, nested, nested_from, same_component_name}
use Rattle.rng_model.specs.schema.Schema.{trees_named, HasComponent, IsWrittenAt}
use Rattle.rng_model.specs.plain.WellPlaced.{IsWellPlaced}
use Rattle.rng_model.specs.schema.SchemaClauses.{HasNoStart, BreaksRef, of_ref, of_parent_ref}
use Rattle.rng_model.specs.simple.Leaves.{LeafIn, LeafAmong}
use Rattle.rng_model.specs.simple.Leaves as at
use Rattle.rng_model.specs.schema.Unfolding.{Leaf, content_of, Aim, to_element, to_definition, to_nothing, outside, aim}
use Rattle.rng_model.proofs.Options.{one_value}
use Rattle.rng_load.proofs.NameLists.{in_none, in_cons}
use Rattle.rng_simple.specs.plain.Met.{Met, met_start, met_in_definition, met_in_element}
use Rattle.rng_simple.specs.plain.ReadySchema.{IsReady}
use Rattle.rng_simple.proofs.NumberedGraphs.GraphTables.{name_same}
use Rattle.rng_simple.proofs.BuiltGraphs.ResolvedPatterns.{name_is}
use Rattle.rng_simple.proofs.BuiltGraphs.ResolvedBodies.{from_nested}

-- ---- what is written in what

-- a point as it is written
abbrev as_written : Point → Pattern
as_written (an_element n c p) = element c p
as_written (a_ref y) = ref y
as_written (a_parent_ref y) = parent_ref y
as_written (a_grammar z) = grammar z

-- a point of the tree of a pattern is written in the pattern
mutual
  point_written : {l : Point} (n : Position) (p : Pattern) → LeafIn l (pattern_tree n p) → IsWrittenIn (as_written l) p
  point_written n not_allowed i = elim i [ ]
  point_written n empty i = elim i [ ]
  point_written n text i = elim i [ ]
  point_written n (element c p) at.here = itself
  point_written n (attribute c p) (at.of_attribute i) = in_attribute (point_written (0 ∷ n) p i)
  point_written n (list p) (at.of_list i) = in_list (point_written (0 ∷ n) p i)
  point_written n (data_of d) i = elim i [ ]
  point_written n (data_except d p) (at.of_except i) = in_except (point_written (0 ∷ n) p i)
  point_written n (value library name v) i = elim i [ ]
  point_written n (mixed p) (at.of_mixed i) = in_mixed (point_written (0 ∷ n) p i)
  point_written n (optional p) (at.of_optional i) = in_optional (point_written (0 ∷ n) p i)
  point_written n (zero_or_more p) (at.of_zero_or_more i) = in_zero_or_more (point_written (0 ∷ n) p i)
  point_written n (one_or_more p) (at.of_one_or_more i) = in_one_or_more (point_written (0 ∷ n) p i)
  point_written n (joined k p r ps) (at.of_first i) = in_first (point_written (0 ∷ n) p i)
  point_written n (joined k p r ps) (at.of_second i) = in_second (point_written (1 ∷ n) r i)
  point_written n (joined k p r ps) (at.of_others i) = in_another (points_written 2 n ps i)
  point_written n (ref y) at.here = itself
  point_written n (parent_ref y) at.here = itself
  point_written n (grammar z) at.here = itself
  point_written n (external p) i = in_external (point_written (0 ∷ n) p i)

  points_written : {l : Point} (k : ℕ) (n : Position) (ps : Patterns) → LeafAmong l (pattern_trees k n ps) → IsWrittenAmong (as_written l) ps
  points_written k n no_patterns i = elim i [ ]
  points_written k n (pattern_and p ps) (at.in_this i) = in_this (point_written (k ∷ n) p i)
  points_written k n (pattern_and p ps) (at.in_later i) = in_later (points_written (k + 1) n ps i)

-- being written in a pattern is transitive
mutual
  written_through : {o p q : Pattern} → IsWrittenIn o p → IsWrittenIn p q → IsWrittenIn o q
  written_through w itself = w
  written_through w (in_element v) = in_element (written_through w v)
  written_through w (in_attribute v) = in_attribute (written_through w v)
  written_through w (in_list v) = in_list (written_through w v)
  written_through w (in_except v) = in_except (written_through w v)
  written_through w (in_mixed v) = in_mixed (written_through w v)
  written_through w (in_optional v) = in_optional (written_through w v)
  written_through w (in_zero_or_more v) = in_zero_or_more (written_through w v)
  written_through w (in_one_or_more v) = in_one_or_more (written_through w v)
  written_through w (in_first v) = in_first (written_through w v)
  written_through w (in_second v) = in_second (written_through w v)
  written_through w (in_another v) = in_another (written_among w v)
  written_through w (in_external v) = in_external (written_through w v)

  written_among : {o p : Pattern} {qs : Patterns} → IsWrittenIn o p → IsWrittenAmong p qs → IsWrittenAmong o qs
  written_among w (in_this v) = in_this (written_through w v)
  written_among w (in_later v) = in_later (written_among w v)

-- ---- whether a component has a name

-- one of them has the name
abbrev HasNamed : Option (List ℕ) → List Component → Type 0
HasNamed y cs = (c : Component) × Among c cs × (c.name ≡ y)

-- none of them has the name
abbrev HasNoneNamed : Option (List ℕ) → List Component → Type 0
HasNoneNamed y cs = (c : Component) → Among c cs → ¬ (c.name ≡ y)

named_or_none : (y : Option (List ℕ)) (cs : List Component) → HasNamed y cs ⊎ HasNoneNamed y cs
named_or_none y [] = inr (λ c i e. in_none i)
named_or_none y (c ∷ cs) = by_name (same_component_name y c.name) refl (named_or_none y cs)
  where
    by_name : (b : Bool) → same_component_name y c.name ≡ b → HasNamed y cs ⊎ HasNoneNamed y cs → HasNamed y (c ∷ cs) ⊎ HasNoneNamed y (c ∷ cs)
    by_name true e rest = inl (c, here, sym (name_is y c.name e))
    by_name false e (inl h) = inl (h.0, there h.1, h.2)
    by_name false e (inr none) = inr (λ d i p. elim (in_cons i) [
      | inl q ↦ true≢false (sym (name_same y) ∙ ap (λ z. same_component_name y z) (sym p ∙ ap (λ c. c.name) q) ∙ e)
      | inr j ↦ none d j p
    ])

-- the grammar at the place has a component of this name
abbrev IsNamedAt : Schema → Place → Option (List ℕ) → Type 0
IsNamedAt s x y = (c : Component) × HasComponent s x c × (c.name ≡ y)

named_there : (s : Schema) (x : Place) (y : Option (List ℕ)) (cs : List Component) → s.components x ≡ Some cs → HasNamed y cs → IsNamedAt s x y
named_there s x y cs e h = (h.0, record { components = cs; there = e; among = h.1 }, h.2)

named_or_not : (s : Schema) (x : Place) (y : Option (List ℕ)) → IsNamedAt s x y ⊎ ¬ (IsNamedAt s x y)
named_or_not s x y = by_grammar (s.components x) refl
  where
    by_grammar : (o : Option (List Component)) → s.components x ≡ o → IsNamedAt s x y ⊎ ¬ (IsNamedAt s x y)
    by_grammar None e = inr (λ h. none-some _ (sym e ∙ h.1.there))
    by_grammar (Some cs) e = elim (named_or_none y cs) [
      | inl h ↦ inl (named_there s x y cs e h)
      | inr none ↦ inr (λ h. none h.0 (subst (Among h.0) (one_value h.1.there e) h.1.among) h.2)
    ]

-- ---- a definition has a body if some component has its name

-- the list is not empty
abbrev HasFirst : List (Tree Point) → Type 0
HasFirst us = (t : Tree Point) × (ts : List (Tree Point)) × (us ≡ t ∷ ts)

some_tree : (y : Option (List ℕ)) (n : ℕ) (cs : List Component) → HasNamed y cs → HasFirst (trees_named y n cs)
some_tree y n [] h = absurd (in_none h.1)
some_tree y n (c ∷ cs) h = by_name (same_component_name y c.name) refl (some_tree y (n + 1) cs)
  where
    by_name : (b : Bool) → same_component_name y c.name ≡ b → (HasNamed y cs → HasFirst (trees_named y (n + 1) cs))
        → HasFirst (if b then pattern_tree (n ∷ []) c.pattern ∷ trees_named y (n + 1) cs else trees_named y (n + 1) cs)
    by_name true e rest = (_, _, refl)
    by_name false e rest = elim (in_cons h.1) [
      | inl q ↦ absurd (true≢false (sym (name_same y) ∙ ap (λ z. same_component_name y z) (sym h.2 ∙ ap (λ c. c.name) q) ∙ e))
      | inr j ↦ rest (h.0, j, h.2)
    ]

named_body : (s : Schema) (d : Definition) → IsNamedAt s d.place d.name → (a : Tree Point) × (body s d ≡ Some a)
unfolding body
named_body s d h =
    let cs = h.1.components in
    let k = combining_connector d.name cs in
    let t = some_tree d.name 0 cs (h.0, h.1.among, h.2) in
    (nested_from k t.0 t.1, ap (body_among d.name) h.1.there ∙ ap (nested k) t.2)

-- ---- the points of a body are written in its components

-- the point is written in one of them
abbrev IsPointOf : Point → List Component → Type 0
IsPointOf l cs = (c : Component) × Among c cs × IsWrittenIn (as_written l) c.pattern

of_later : (l : Point) (c : Component) (cs : List Component) → IsPointOf l cs → IsPointOf l (c ∷ cs)
of_later l c cs p = (p.0, there p.1, p.2)

point_of_trees : (l : Point) (y : Option (List ℕ)) (n : ℕ) (cs : List Component) (t : Tree Point) → Contains (trees_named y n cs) t → LeafIn l t
    → IsPointOf l cs
point_of_trees l y n [] t m i = absurd (not_in_none m)
point_of_trees l y n (c ∷ cs) t m i = by_name (same_component_name y c.name) (λ h. point_of_trees l y (n + 1) cs t h i) m
  where
    by_name : (b : Bool) → (Contains (trees_named y (n + 1) cs) t → IsPointOf l cs)
        → Contains (if b then pattern_tree (n ∷ []) c.pattern ∷ trees_named y (n + 1) cs else trees_named y (n + 1) cs) t → IsPointOf l (c ∷ cs)
    by_name true rest m = elim (Contains-append_cases (pattern_tree (n ∷ []) c.pattern ∷ []) (trees_named y (n + 1) cs) t m) [
      | inl h ↦ elim (Contains-push_cases [] (pattern_tree (n ∷ []) c.pattern) t h) [
        | inl z ↦ absurd (not_in_none z)
        | inr z ↦ (c, here, point_written (n ∷ []) c.pattern (subst (LeafIn l) (sym z) i))
      ]
      | inr h ↦ of_later l c cs (rest h)
    ]
    by_name false rest m = of_later l c cs (rest m)

point_of_nested : (k : Connector) (l : Point) (ts : List (Tree Point)) (a : Tree Point) → nested k ts ≡ Some a → LeafIn l a
    → (t : Tree Point) × Contains ts t × LeafIn l t
point_of_nested k l [] a e i = absurd (none-some _ e)
point_of_nested k l (t ∷ ts) a e i = elim (from_nested k t ts (subst (LeafIn l) (one_value e refl) i)) [
  | inl j ↦ (t, (0, omega arith, refl), j)
  | inr (u, m, j) ↦ (u, Contains-append_right (t ∷ []) ts u m, j)
]

point_of_body : (s : Schema) (d : Definition) (a : Tree Point) (l : Point) → body s d ≡ Some a → LeafIn l a → IsWrittenAt s d.place (as_written l)
unfolding body
point_of_body s d a l e i = at_components (s.components d.place) refl e
  where
    at_components : (o : Option (List Component)) → s.components d.place ≡ o → body_among d.name o ≡ Some a → IsWrittenAt s d.place (as_written l)
    at_components None f e = absurd (none-some _ e)
    at_components (Some cs) f e =
        let t = point_of_nested (combining_connector d.name cs) l (trees_named d.name 0 cs) a e i in
        let p = point_of_trees l d.name 0 cs t.0 t.1 t.2 in
        record { component = p.0; there = record { components = cs; there = f; among = p.1 }; written = p.2 }

-- ---- what is met exists

-- an element is written at its place, and a definition has a component
abbrev IsThere : Schema → Aim → Type 0
IsThere s (to_element m) = IsWrittenAt s m.place (element m.class m.content)
IsThere s (to_definition d) = IsNamedAt s d.place d.name
IsThere s to_nothing = ⊥

module _ (s : Schema) (placed : IsWellPlaced s) (starts : ¬ (HasNoStart s)) (refs : ¬ (BreaksRef s)) where
  start_there : (x : Place) (cs : List Component) → s.components x ≡ Some cs → IsNamedAt s x None
  start_there x cs e = elim (named_or_none None cs) [
    | inl h ↦ named_there s x None cs e h
    | inr none ↦ absurd (starts (record { place = x; components = cs; there = e; none = none }))
  ]

  ref_there : (x : Place) (y : List ℕ) → IsWrittenAt s x (ref y) → IsNamedAt s x (Some y)
  ref_there x y w = elim (named_or_not s x (Some y)) [ inl h ↦ h | inr none ↦ absurd (refs (of_ref w none)) ]

  parent_there : (x : Place) (y : List ℕ) → IsWrittenAt s x (parent_ref y) → (o : Option Place) → s.outer x ≡ o → IsThere s (outside y o)
  parent_there x y w None e = absurd (refs (of_parent_ref w (λ z f h. none-some _ (sym e ∙ f))))
  parent_there x y w (Some z) e = elim (named_or_not s z (Some y)) [
    | inl h ↦ h
    | inr none ↦ absurd (refs (of_parent_ref w (λ v f h. none (subst (λ v. IsNamedAt s v (Some y)) (one_value f e) h))))
  ]

  point_there : (x : Place) (l : Point) → IsWrittenAt s x (as_written l) → IsThere s (aim s x l)
  point_there x (an_element n c p) w = w
  point_there x (a_ref y) w = ref_there x y w
  point_there x (a_parent_ref y) w = parent_there x y w (s.outer x) refl
  point_there x (a_grammar z) w = let g = placed.nested x z w in start_there z g.0 g.1

  -- what is written in the content of an element that is written somewhere
  in_content : (m : Leaf) (l : Point) → IsWrittenAt s m.place (element m.class m.content) → LeafIn l (content_of m) → IsWrittenAt s m.place (as_written l)
  in_content m l w i = record {
    component = w.component;
    there = w.there;
    written = written_through (in_element (point_written (0 ∷ m.position) m.content i)) w.written;
  }

  met_there : {w : Aim} → Met s w → IsThere s w
  met_there (met_start e) = subst (IsThere s) (sym e) (start_there s.main placed.components placed.main)
  met_there (met_in_definition {d} {a} {l} m b i e) = subst (IsThere s) (sym e) (point_there d.place l (point_of_body s d a l b i))
  met_there (met_in_element {m} {l} k i e) = subst (IsThere s) (sym e) (point_there m.place l (in_content m l (met_there k) i))

-- everything that a schema mentions is found if it breaks neither S14 nor S15
pub ready : (s : Schema) → IsWellPlaced s → ¬ (HasNoStart s) → ¬ (BreaksRef s) → IsReady s
ready s placed starts refs = record {
  found = met_there s placed starts refs;
  bodies = λ d m. named_body s d (met_there s placed starts refs m);
}
