-- A simple form of a schema is printable if its components are well spelled and its datatypes are known.
use Rattle.std.proofs.Common.{◌≡◌, refl, subst, ℕ, suc, ◌+◌, inl, inr, Bool, true, false, if◌then◌else◌, List, [], ◌∷◌, Option, Some, None}
use Rattle.std.proofs.Common.{slice_get, codes}
use Rattle.std.specs.List.{AllByRecursion}
use Rattle.std.specs.Str.{bytes_eq}
use Rattle.std.proofs.lemmas.List.Elements.{All-contains}
use Rattle.std.proofs.lemmas.Slice.Eq.{bytes_eq-Decides}
use Rattle.std.proofs.lemmas.Option.{none-some}
use Rattle.rng_model.proofs.Texts.{bytes_same}
use Rattle.rng_model.specs.names.Lists.{Among, here, there}
use Rattle.rng_model.specs.names.Names.{NameClass}
use Rattle.rng_model.specs.simple.Tree.{Datatype, Tree, Trees, Simple}
use Rattle.rng_model.specs.datatypes.Datatypes.{xsd_uri}
use Rattle.rng_model.specs.simple.Grammar.{Grammar}
use Rattle.rng_model.specs.schema.Patterns as written
use Rattle.rng_model.specs.schema.Patterns.{Place, Position, Pattern, Patterns, no_patterns, pattern_and, Point, an_element, a_ref, a_parent_ref, a_grammar}
use Rattle.rng_model.specs.schema.Patterns.{pattern_tree, pattern_trees, without_parameters, IsWrittenIn, itself, in_element, in_attribute, in_list, in_except}
use Rattle.rng_model.specs.schema.Patterns.{in_mixed, in_optional, in_zero_or_more, in_one_or_more, in_first, in_second, in_another, in_external}
use Rattle.rng_model.specs.schema.Patterns.{IsWrittenAmong, in_this, in_later}
use Rattle.rng_model.specs.schema.Schema.{Schema, Component, Definition, main_start, body, body_among, combining_connector, same_component_name, trees_named}
use Rattle.rng_model.specs.schema.Schema.{HasComponent, IsWrittenAt}
use Rattle.rng_model.specs.schema.SchemaClauses.{BreaksDatatype, of_data, of_data_except, of_value}
use Rattle.rng_model.specs.simple.SchemaForm.{IsElementOf, IsSimpleFormOfSchema, IsSameUpToNumbering, IsSimpleGrammarOf, SimpleForm}
use Rattle.rng_model.specs.schema.Unfolding as unfolding_of
use Rattle.rng_model.specs.schema.Unfolding.{Leaf, to_element, outside, aim, Unfolds, UnfoldAll, IsTreeOf, IsBodyOf, IsReachedBySimpleForms, from_simple_start}
use Rattle.rng_model.specs.schema.Unfolding.{from_simple_body}
use Rattle.rnc_print_laws.specs.plain.Printable.{IsName, IsPrintableClass, CanBeNamed, IsPrintableTree, IsPrintable}
use Rattle.rnc_print_laws.specs.plain.WellSpelledSchemas.{IsWellSpelledPattern, AreWellSpelledPatterns, IsWellSpelledSchema}
use Rattle.rnc_print_laws.proofs.Printability.NamedDatatypes.{datatype_named, allowed_named}
use Rattle.rnc_print_laws.proofs.Printability.PrintableClasses.{simple_printable}
use Rattle.rnc_print_laws.proofs.Printability.PrintableTrees.{IsGoodTree, AreGoodTrees, AreAllGood, leaf_of, steps_good, nested_good, simple_good}

-- ---- known types

-- a type that is not refuted, since texts can be compared
known : (library name : List ℕ) → IsName name → ¬ (¬ (CanBeNamed library name)) → CanBeNamed library name
known library name n kept = by_tests (bytes_eq library xsd_uri) (bytes_eq library []) (bytes_eq name (codes "string")) (bytes_eq name (codes "token")) refl
    refl refl refl
  where
    is_not : (v w : List ℕ) → bytes_eq v w ≡ false → v ≡ w → ⊥
    is_not v w e f = let g = (bytes_eq-Decides v w).1 f in cc

    by_tests : (x e s t : Bool) → bytes_eq library xsd_uri ≡ x → bytes_eq library [] ≡ e → bytes_eq name (codes "string") ≡ s
        → bytes_eq name (codes "token") ≡ t → CanBeNamed library name
    by_tests true e s t a b c d = inr (bytes_same _ _ a, n)
    by_tests false true true t a b c d = inl (bytes_same _ _ b, inl (bytes_same _ _ c))
    by_tests false true false true a b c d = inl (bytes_same _ _ b, inr (bytes_same _ _ d))
    by_tests false true false false a b c d = absurd (kept (λ k. elim k [
      | inl p ↦ elim p.1 [ inl f ↦ is_not _ _ c f | inr f ↦ is_not _ _ d f ]
      | inr p ↦ is_not _ _ a p.0
    ]))
    by_tests false false s t a b c d = absurd (kept (λ k. elim k [ inl p ↦ is_not _ _ b p.0 | inr p ↦ is_not _ _ a p.0 ]))

each_found : {A : Type 0} (P : A → Type 0) (xs : List A) → ((k : ℕ) (x : A) → slice_get xs k ≡ Some x → P x) → AllByRecursion P xs
each_found P [] f = tt
each_found P (x ∷ xs) f = (f 0 x refl, each_found P xs (λ k y e. f (suc k) y e))

-- ---- trees of a schema

module _ (s : Schema) (good : IsWellSpelledSchema s) (kept : ¬ (BreaksDatatype s)) where
  -- a pattern is well spelled, and its parts are written at the place
  abbrev IsGoodAt : Place → Pattern → Type 0
  IsGoodAt x p = IsWellSpelledPattern p × ((q : Pattern) → IsWrittenIn q p → IsWrittenAt s x q)

  -- the class and the body of an element are printable
  abbrev IsGoodPoint : Place → Point → Type 0
  IsGoodPoint x (an_element n c p) = IsPrintableClass c × IsGoodAt x p
  IsGoodPoint x (a_ref y) = Unit {0}
  IsGoodPoint x (a_parent_ref y) = Unit {0}
  IsGoodPoint x (a_grammar z) = Unit {0}

  abbrev IsGoodLeaf : Leaf → Type 0
  IsGoodLeaf l = IsPrintableClass l.class × IsGoodAt l.place l.content

  data_known : (x : Place) (d : Datatype) → IsName d.name → IsWrittenAt s x (written.data_of d) → CanBeNamed d.library d.name
  data_known x d n w = known d.library d.name n (λ no. kept (of_data w (λ k. no (datatype_named d k))))

  except_known : (x : Place) (d : Datatype) (p : Pattern) → IsName d.name → IsWrittenAt s x (written.data_except d p) → CanBeNamed d.library d.name
  except_known x d p n w = known d.library d.name n (λ no. kept (of_data_except w (λ k. no (datatype_named d k))))

  value_known : (x : Place) (library name v : List ℕ) → IsName name → IsWrittenAt s x (written.value library name v) → CanBeNamed library name
  value_known x library name v n w = known library name n (λ no. kept (of_value w (λ a. no (allowed_named (without_parameters library name) v a))))

  mutual
    pattern_good : (x : Place) (p : Pattern) (n : Position) → IsWellSpelledPattern p → ((q : Pattern) → IsWrittenIn q p → IsWrittenAt s x q)
        → IsGoodTree (IsGoodPoint x) (pattern_tree n p)
    pattern_good x written.not_allowed n h w = tt
    pattern_good x written.empty n h w = tt
    pattern_good x written.text n h w = tt
    pattern_good x (written.element c p) n h w = (h.0, (h.1, λ q i. w q (in_element i)))
    pattern_good x (written.attribute c p) n h w = (h.0, pattern_good x p (0 ∷ n) h.1 (λ q i. w q (in_attribute i)))
    pattern_good x (written.list p) n h w = pattern_good x p (0 ∷ n) h (λ q i. w q (in_list i))
    pattern_good x (written.data_of d) n h w = (data_known x d h.0.1 (w (written.data_of d) itself), h.1)
    pattern_good x (written.data_except d p) n h w =
        ((except_known x d p h.0.0.1 (w (written.data_except d p) itself), h.0.1), pattern_good x p (0 ∷ n) h.1 (λ q i. w q (in_except i)))
    pattern_good x (written.value library name v) n h w =
        ((value_known x library name v h.0.1 (w (written.value library name v) itself), tt), h.1)
    pattern_good x (written.mixed p) n h w = pattern_good x p (0 ∷ n) h (λ q i. w q (in_mixed i))
    pattern_good x (written.optional p) n h w = pattern_good x p (0 ∷ n) h (λ q i. w q (in_optional i))
    pattern_good x (written.zero_or_more p) n h w = pattern_good x p (0 ∷ n) h (λ q i. w q (in_zero_or_more i))
    pattern_good x (written.one_or_more p) n h w = pattern_good x p (0 ∷ n) h (λ q i. w q (in_one_or_more i))
    pattern_good x (written.joined k p r ps) n h w = (
      pattern_good x p (0 ∷ n) h.0 (λ q i. w q (in_first i)),
      pattern_good x r (1 ∷ n) h.1 (λ q i. w q (in_second i)),
      patterns_good x ps 2 n h.2 (λ q i. w q (in_another i)),
    )
    pattern_good x (written.ref y) n h w = tt
    pattern_good x (written.parent_ref y) n h w = tt
    pattern_good x (written.grammar z) n h w = tt
    pattern_good x (written.external p) n h w = pattern_good x p (0 ∷ n) h (λ q i. w q (in_external i))

    patterns_good : (x : Place) (ps : Patterns) (m : ℕ) (n : Position) → AreWellSpelledPatterns ps
        → ((q : Pattern) → IsWrittenAmong q ps → IsWrittenAt s x q) → AreGoodTrees (IsGoodPoint x) (pattern_trees m n ps)
    patterns_good x no_patterns m n h w = tt
    patterns_good x (pattern_and p ps) m n h w =
        (pattern_good x p (m ∷ n) h.0 (λ q i. w q (in_this i)), patterns_good x ps (m + 1) n h.1 (λ q i. w q (in_later i)))

  trees_good : (x : Place) (y : Option (List ℕ)) (n : ℕ) (cs : List Component) → ((c : Component) → Among c cs → HasComponent s x c)
      → AreAllGood (IsGoodPoint x) (trees_named y n cs)
  trees_good x y n [] has = tt
  trees_good x y n (c ∷ cs) has = by_name (same_component_name y c.name) (trees_good x y (n + 1) cs (λ d m. has d (there m)))
    where
      by_name : (b : Bool) → AreAllGood (IsGoodPoint x) (trees_named y (n + 1) cs)
          → AreAllGood (IsGoodPoint x) (if b then pattern_tree (n ∷ []) c.pattern ∷ trees_named y (n + 1) cs else trees_named y (n + 1) cs)
      by_name true rest =
          (pattern_good x c.pattern (n ∷ []) (good x c (has c here)).1 (λ q i. record { component = c; there = has c here; written = i }), rest)
      by_name false rest = rest

  body_good : (d : Definition) (a : Tree Point) → body s d ≡ Some a → IsGoodTree (IsGoodPoint d.place) a
  unfolding body
  body_good d a e = at_components (s.components d.place) refl e
    where
      at_components : (o : Option (List Component)) → s.components d.place ≡ o → body_among d.name o ≡ Some a → IsGoodTree (IsGoodPoint d.place) a
      at_components None f e = absurd (none-some _ e)
      at_components (Some cs) f e = nested_good (IsGoodPoint d.place) (combining_connector d.name cs) (trees_named d.name 0 cs) a e
          (trees_good d.place d.name 0 cs (λ c m. record { components = cs; there = f; among = m }))

  aimed : (x : Place) (l : Point) (m : Leaf) → IsGoodPoint x l → aim s x l ≡ to_element m → IsGoodLeaf m
  aimed x (an_element n c p) m w e =
      let is : record { place = x; position = n; class = c; content = p } ≡ m = cc in
      subst IsGoodLeaf is w
  aimed x (a_ref y) m w e = cc
  aimed x (a_parent_ref y) m w e = around (s.outer x) e
    where
      around : (o : Option Place) → outside y o ≡ to_element m → IsGoodLeaf m
      around None e = cc
      around (Some z) e = cc
  aimed x (a_grammar z) m w e = cc

  mutual
    unfolded : {x : Place} {a : Tree Point} {b : Tree Leaf} → Unfolds s x a b → IsGoodTree (IsGoodPoint x) a → IsGoodTree IsGoodLeaf b
    unfolded (unfolding_of.element_is {x} {l} {m} e) h = aimed x l m h e
    unfolded (unfolding_of.found {x} {l} {d} {a} {b} e f u) h = unfolded u (body_good d a f)
    unfolded unfolding_of.not_allowed_is h = tt
    unfolded unfolding_of.empty_is h = tt
    unfolded unfolding_of.text_is h = tt
    unfolded (unfolding_of.attribute_is u) h = (h.0, unfolded u h.1)
    unfolded (unfolding_of.list_is u) h = unfolded u h
    unfolded unfolding_of.data_is h = h
    unfolded (unfolding_of.except_is u) h = (h.0, unfolded u h.1)
    unfolded unfolding_of.value_is h = h
    unfolded (unfolding_of.mixed_is u) h = unfolded u h
    unfolded (unfolding_of.optional_is u) h = unfolded u h
    unfolded (unfolding_of.zero_or_more_is u) h = unfolded u h
    unfolded (unfolding_of.one_or_more_is u) h = unfolded u h
    unfolded (unfolding_of.joined_is u v us) h = (unfolded u h.0, unfolded v h.1, all_unfolded us h.2)

    all_unfolded : {x : Place} {ts : Trees Point} {us : Trees Leaf} → UnfoldAll s x ts us → AreGoodTrees (IsGoodPoint x) ts → AreGoodTrees IsGoodLeaf us
    all_unfolded unfolding_of.none_is h = tt
    all_unfolded (unfolding_of.more_are u us) h = (unfolded u h.0, all_unfolded us h.1)

  tree_good : (d : Definition) (t : Tree Leaf) → IsTreeOf s d t → IsGoodTree IsGoodLeaf t
  tree_good d t is = unfolded is.2 (body_good d is.0 is.1)

  content_good : (m : Leaf) (t : Tree Leaf) → IsGoodLeaf m → IsBodyOf s m t → IsGoodTree IsGoodLeaf t
  content_good m t h u = unfolded u (pattern_good m.place m.content (0 ∷ m.position) h.1.0 h.1.1)

  reached_good : {l : Leaf} → IsReachedBySimpleForms s l → IsGoodLeaf l
  reached_good (from_simple_start {t} is f i) = leaf_of IsGoodLeaf i (steps_good IsGoodLeaf f.reached (tree_good (main_start s) t is))
  reached_good (from_simple_body {m} {l} {t} r u f i) =
      leaf_of IsGoodLeaf i (steps_good IsGoodLeaf f.reached (content_good m t (reached_good r) u))

  -- ---- a grammar

  module _ (g : Grammar) (f : SimpleForm) (form : IsSimpleFormOfSchema s f) (same : IsSameUpToNumbering g f) where
    start_of : IsPrintableTree g.start
    start_of = simple_good IsGoodLeaf same.element g.start (subst (IsGoodTree IsGoodLeaf) same.start
        (steps_good IsGoodLeaf form.start.reached (tree_good (main_start s) form.tree form.is_tree)))

    element_of : (k : ℕ) (e : NameClass × Simple ℕ) → slice_get g.elements k ≡ Some e → IsPrintableClass e.0 × IsPrintableTree e.1
    element_of k e found =
        let listed = same.bodies k e.0 e.1 found in
        let is = All-contains (IsElementOf s) f.elements _ form.elements listed.0 in
        let leaf = reached_good is.reached in (
          simple_printable is.class leaf.0,
          simple_good IsGoodLeaf same.element e.1 (steps_good IsGoodLeaf is.body.reached (content_good (same.element k) is.tree leaf is.is_tree)),
        )

  pub grammar_printable : (g : Grammar) → IsSimpleGrammarOf s g → IsPrintable g
  grammar_printable g is = record {
    start = start_of g is.0 is.1 is.2;
    elements = each_found (λ e. IsPrintableClass e.0 × IsPrintableTree e.1) g.elements (element_of g is.0 is.1 is.2);
  }
