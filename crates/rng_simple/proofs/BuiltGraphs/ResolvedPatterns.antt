-- A resolved pattern is the pattern with numbers at its points, and what is numbered is met.
use Rattle.std.proofs.Common.{◌≡◌, inl, inr, refl, ap, ap₂, sym, ◌∙◌, subst, arith, ℕ, suc, ◌+◌, Bool, true, false, true≢false, ◌||◌, List, [], ◌∷◌}
use Rattle.std.proofs.Common.{◌++◌, append_assoc, length, length-append, slice_get, Option, Some, None, if◌then◌else◌, Contains}
use Rattle.std.specs.List.{list_any}
use Rattle.std.specs.Str.{bytes_eq}
use Rattle.std.proofs.lemmas.List.{append-nil}
use Rattle.std.proofs.lemmas.List.Elements.{Contains-append_cases, Contains-push_cases}
use Rattle.std.proofs.lemmas.Option.{slice_get_within}
use Rattle.std.proofs.lemmas.Slice.Eq.{bytes_eq-Decides}
use Rattle.std.proofs.lemmas.Bool.{and_parts}
use Rattle.rng_model.proofs.Members.{not_in_none}
use Rattle.rng_model.proofs.Places.{before_or_at_end, at_end, contains_at}
use Rattle.rng_model.specs.names.Names.{NameClass}
use Rattle.rng_model.specs.simple.Tree.{Tree, Trees, no_trees, tree_and, leaf, Connector}
use Rattle.rng_model.specs.simple.Tree as tree
use Rattle.rng_model.specs.schema.Patterns.{Place, Position, Pattern, Patterns, no_patterns, pattern_and, pattern_tree, pattern_trees, Point, a_ref}
use Rattle.rng_model.specs.schema.Patterns.{a_parent_ref}
use Rattle.rng_model.specs.schema.Patterns.{a_grammar}
use Rattle.rng_model.specs.schema.Patterns as pattern
use Rattle.rng_model.specs.schema.Schema.{Schema, Definition, same_component_name}
use Rattle.rng_model.specs.simple.Leaves.{LeafIn, LeafAmong, all_renamed}
use Rattle.rng_model.specs.simple.Leaves as at
use Rattle.rng_model.specs.schema.Unfolding.{Leaf, content_of, to_element, to_definition, to_nothing, aim, outside}
use Rattle.rng_simple.specs.plain.Graph.{Spot, IsSpotBelow, IsResolved, ArePairwiseApart, aim_at, element_aim, definition_aim, same_definition, number_of}
use Rattle.rng_simple.specs.plain.Met.{Met, met_in_element}
use Rattle.rng_simple.specs.plain.ResolvedElements.{with_elements, with_all_elements}
use Rattle.rng_simple.specs.plain.Resolving.{Numbering, Resolved, resolve, resolve_all, looked_up, looked_up_outside, with_definition, with_element}
use Rattle.rng_simple.proofs.LoopsAndDepths.PatternPoints.{only_leaf}
use Rattle.rng_simple.proofs.NumberedGraphs.GraphTables.{definition_same}
use Rattle.rng_simple.proofs.BuiltGraphs.GrowingGraphs.{resolved_more}

-- ---- definitions by number

pub name_is : (a b : Option (List ℕ)) → same_component_name a b ≡ true → a ≡ b
name_is None None e = refl
name_is None (Some b) e = absurd (true≢false (sym e))
name_is (Some a) None e = absurd (true≢false (sym e))
name_is (Some a) (Some b) e = ap Some ((bytes_eq-Decides a b).0 e)

pub definition_is : (d e : Definition) → same_definition d e ≡ true → d ≡ e
definition_is d e h =
    let both = and_parts (bytes_eq d.place e.place) (same_component_name d.name e.name) h in
    ap₂ (λ x y. record { place = x; name = y }) ((bytes_eq-Decides d.place e.place).0 both.0) (name_is d.name e.name both.1)

one_more_apart : (ds : List Definition) (d : Definition) → ArePairwiseApart same_definition ds → ((e : Definition) → Contains ds e → same_definition d e ≡ true → ⊥)
    → ArePairwiseApart same_definition (ds ++ d ∷ [])
one_more_apart ds d apart n i j x y e f q = elim (before_or_at_end ds d x i e) [
  | inl a ↦ elim (before_or_at_end ds d y j f) [
    | inl b ↦ apart i j x y a b q
    | inr b ↦ absurd (n x (contains_at ds i x a) (subst (λ z. same_definition z x ≡ true) (definition_is x y q ∙ b.1) (definition_same x)))
  ]
  | inr a ↦ elim (before_or_at_end ds d y j f) [
    | inl b ↦ absurd (n y (contains_at ds j y b) (subst (λ z. same_definition z y ≡ true) a.1 q))
    | inr b ↦ a.0 ∙ sym b.0
  ]
]

-- a definition that is there has its number, and one that is not gets the next number
pub data IsAsked (d : Definition) (ds : List Definition) : Type 0 where
  is_there : list_any (same_definition d) ds ≡ true → slice_get ds (number_of ds d) ≡ Some d → IsAsked d ds
  is_new : list_any (same_definition d) ds ≡ false → number_of ds d ≡ length ds → ((e : Definition) → Contains ds e → same_definition d e ≡ true → ⊥)
      → IsAsked d ds

asked_first : (d e : Definition) (es : List Definition) → same_definition d e ≡ true → IsAsked d (e ∷ es)
asked_first d e es h = is_there (ap (λ b. b || list_any (same_definition d) es) h)
    (ap (λ b. slice_get (e ∷ es) (if b then 0 else number_of es d + 1)) h ∙ ap Some (sym (definition_is d e h)))

asked_later : (d e : Definition) (es : List Definition) → same_definition d e ≡ false → IsAsked d es → IsAsked d (e ∷ es)
asked_later d e es h (is_there a b) =
    let next : number_of (e ∷ es) d ≡ number_of es d + 1 = ap (λ b. if b then 0 else number_of es d + 1) h in
    is_there (ap (λ b. b || list_any (same_definition d) es) h ∙ a) (ap (slice_get (e ∷ es)) {y = suc (number_of es d)} (omega (arith, next)) ∙ b)
asked_later d e es h (is_new a b n) =
    let next : number_of (e ∷ es) d ≡ number_of es d + 1 = ap (λ b. if b then 0 else number_of es d + 1) h in
    is_new (ap (λ b. b || list_any (same_definition d) es) h ∙ a) (omega (arith, next, b)) (λ f c q. elim (Contains-append_cases (e ∷ []) es f c) [
      | inl k ↦ elim (Contains-push_cases [] e f k) [
        | inl z ↦ not_in_none z
        | inr z ↦ true≢false (sym q ∙ ap (same_definition d) (sym z) ∙ h)
      ]
      | inr k ↦ n f k q
    ])

pub asked : (d : Definition) (ds : List Definition) → IsAsked d ds
asked d [] = is_new refl refl (λ e c q. not_in_none c)
asked d (e ∷ es) = either_way (same_definition d e) refl (asked d es)
  where
    either_way : (b : Bool) → same_definition d e ≡ b → IsAsked d es → IsAsked d (e ∷ es)
    either_way true h a = asked_first d e es h
    either_way false h a = asked_later d e es h a

-- once it is looked up it is there, all others stay, and there are no duplicates
pub record IsThere (d : Definition) (ds new : List Definition) : Type 0 where
  pub more : List Definition
  pub is : new ≡ ds ++ more
  pub there : slice_get new (number_of ds d) ≡ Some d
  pub only : (e : Definition) → Contains more e → e ≡ d
  pub apart : ArePairwiseApart same_definition ds → ArePairwiseApart same_definition new

pub asked_for : (d : Definition) (ds : List Definition) → IsThere d ds (with_definition ds d)
asked_for d ds = elim (asked d ds) [
  | is_there h e ↦
      let same : with_definition ds d ≡ ds = ap (λ b. if b then ds else ds ++ d ∷ []) h in record {
        more = [];
        is = same ∙ sym (append-nil ds);
        there = ap (λ es. slice_get es (number_of ds d)) same ∙ e;
        only = λ f c. absurd (not_in_none c);
        apart = λ a. subst (ArePairwiseApart same_definition) (sym same) a;
      }
  | is_new h e n ↦
      let same : with_definition ds d ≡ ds ++ d ∷ [] = ap (λ b. if b then ds else ds ++ d ∷ []) h in record {
        more = d ∷ [];
        is = same;
        there = ap₂ slice_get same e ∙ at_end ds d;
        only = λ f c. elim (Contains-push_cases [] d f c) [ inl z ↦ absurd (not_in_none z) | inr z ↦ sym z ];
        apart = λ a. subst (ArePairwiseApart same_definition) (sym same) (one_more_apart ds d a n);
      }
]

-- ---- numberings

-- These elements are numbered in this order: each has its class, and its body with numbers at the points. Everything
-- that is numbered is met.
pub record IsNumbering (s : Schema) (ls : List Leaf) (v : Numbering) : Type 0 where
  pub count : length v.elements ≡ length ls
  pub each : (k : ℕ) (m : Leaf) (e : NameClass × Tree Spot) → slice_get ls k ≡ Some m → slice_get v.elements k ≡ Some e
      → (e.0 ≡ m.class) × IsResolved s v.definitions ls m.place (content_of m) e.1
  pub met_definitions : (d : Definition) → Contains v.definitions d → Met s (to_definition d)
  pub met_elements : (m : Leaf) → Contains ls m → Met s (to_element m)
  pub apart : ArePairwiseApart same_definition v.definitions

-- more is numbered, and earlier numbers are kept
pub record IsMore (ls : List Leaf) (v : Numbering) (ls' : List Leaf) (v' : Numbering) : Type 0 where
  pub more : List Definition
  pub definitions : v'.definitions ≡ v.definitions ++ more
  pub others : List Leaf
  pub leaves : ls' ≡ ls ++ others

pub no_more : {ls : List Leaf} {v : Numbering} → IsMore ls v ls v
no_more {ls} {v} = record { more = []; definitions = sym (append-nil v.definitions); others = []; leaves = sym (append-nil ls) }

pub more_and : {ls ks js : List Leaf} {v w u : Numbering} → IsMore ls v ks w → IsMore ks w js u → IsMore ls v js u
more_and {ls} {ks} {js} {v} {w} {u} m n = record {
  more = m.more ++ n.more;
  definitions = n.definitions ∙ ap (λ ds. ds ++ n.more) m.definitions ∙ append_assoc v.definitions m.more n.more;
  others = m.others ++ n.others;
  leaves = n.leaves ∙ ap (λ es. es ++ n.others) m.leaves ∙ append_assoc ls m.others n.others;
}

-- what is resolved stays resolved
pub stays : {s : Schema} {ls ks : List Leaf} {v w : Numbering} {x : Place} {a : Tree Point} {r : Tree Spot} → IsMore ls v ks w
    → IsResolved s v.definitions ls x a r → IsResolved s w.definitions ks x a r
stays {s} {ls} {ks} {v} {w} {x} {a} {r} m e =
    subst (λ ds. IsResolved s ds ks x a r) (sym m.definitions) (subst (λ es. IsResolved s (v.definitions ++ m.more) es x a r) (sym m.leaves)
    (resolved_more s v.definitions m.more ls m.others e))

-- the pattern at a place is resolved, starting with this numbering
pub record IsAfter (s : Schema) (x : Place) (ls : List Leaf) (v : Numbering) (a : Tree Point) (ks : List Leaf) (r : Resolved) : Type 0 where
  pub more : IsMore ls v ks r.1
  pub numbering : IsNumbering s ks r.1
  pub resolved : IsResolved s r.1.definitions ks x a r.0

pub record AreAfter (s : Schema) (x : Place) (ls : List Leaf) (v : Numbering) (ts : Trees Point) (ks : List Leaf) (r : Trees Spot × Numbering) : Type 0 where
  pub more : IsMore ls v ks r.1
  pub numbering : IsNumbering s ks r.1
  pub same : all_renamed (aim s x) ts ≡ all_renamed (aim_at r.1.definitions ks) r.0
  pub below : (p : Spot) → LeafAmong p r.0 → IsSpotBelow (length r.1.definitions) (length ks) p

module _ (s : Schema) (x : Place) where
  -- ---- one kind of pattern after another

  attribute_after : {c : NameClass} {ls ks : List Leaf} {v : Numbering} {a : Tree Point} {r : Resolved} → IsAfter s x ls v a ks r
      → IsAfter s x ls v (tree.attribute c a) ks (tree.attribute c r.0, r.1)
  attribute_after {c} e = record {
    more = e.more;
    numbering = e.numbering;
    resolved = record { same = ap (tree.attribute c) e.resolved.same; below = λ p i. elim i [ at.of_attribute j ↦ e.resolved.below p j ] };
  }

  list_after : {ls ks : List Leaf} {v : Numbering} {a : Tree Point} {r : Resolved} → IsAfter s x ls v a ks r
      → IsAfter s x ls v (tree.list a) ks (tree.list r.0, r.1)
  list_after e = record {
    more = e.more;
    numbering = e.numbering;
    resolved = record { same = ap tree.list e.resolved.same; below = λ p i. elim i [ at.of_list j ↦ e.resolved.below p j ] };
  }

  except_after : {d : tree.Datatype} {ls ks : List Leaf} {v : Numbering} {a : Tree Point} {r : Resolved} → IsAfter s x ls v a ks r
      → IsAfter s x ls v (tree.data_except d a) ks (tree.data_except d r.0, r.1)
  except_after {d} e = record {
    more = e.more;
    numbering = e.numbering;
    resolved = record { same = ap (tree.data_except d) e.resolved.same; below = λ p i. elim i [ at.of_except j ↦ e.resolved.below p j ] };
  }

  mixed_after : {ls ks : List Leaf} {v : Numbering} {a : Tree Point} {r : Resolved} → IsAfter s x ls v a ks r
      → IsAfter s x ls v (tree.mixed a) ks (tree.mixed r.0, r.1)
  mixed_after e = record {
    more = e.more;
    numbering = e.numbering;
    resolved = record { same = ap tree.mixed e.resolved.same; below = λ p i. elim i [ at.of_mixed j ↦ e.resolved.below p j ] };
  }

  optional_after : {ls ks : List Leaf} {v : Numbering} {a : Tree Point} {r : Resolved} → IsAfter s x ls v a ks r
      → IsAfter s x ls v (tree.optional a) ks (tree.optional r.0, r.1)
  optional_after e = record {
    more = e.more;
    numbering = e.numbering;
    resolved = record { same = ap tree.optional e.resolved.same; below = λ p i. elim i [ at.of_optional j ↦ e.resolved.below p j ] };
  }

  zero_or_more_after : {ls ks : List Leaf} {v : Numbering} {a : Tree Point} {r : Resolved} → IsAfter s x ls v a ks r
      → IsAfter s x ls v (tree.zero_or_more a) ks (tree.zero_or_more r.0, r.1)
  zero_or_more_after e = record {
    more = e.more;
    numbering = e.numbering;
    resolved = record { same = ap tree.zero_or_more e.resolved.same; below = λ p i. elim i [ at.of_zero_or_more j ↦ e.resolved.below p j ] };
  }

  one_or_more_after : {ls ks : List Leaf} {v : Numbering} {a : Tree Point} {r : Resolved} → IsAfter s x ls v a ks r
      → IsAfter s x ls v (tree.one_or_more a) ks (tree.one_or_more r.0, r.1)
  one_or_more_after e = record {
    more = e.more;
    numbering = e.numbering;
    resolved = record { same = ap tree.one_or_more e.resolved.same; below = λ p i. elim i [ at.of_one_or_more j ↦ e.resolved.below p j ] };
  }

  -- three parts, one after the other
  joined_after : {k : Connector} {ls ks js is : List Leaf} {v : Numbering} {a b : Tree Point} {ts : Trees Point} {r q : Resolved} {u : Trees Spot × Numbering}
      → IsAfter s x ls v a ks r → IsAfter s x ks r.1 b js q → AreAfter s x js q.1 ts is u
      → IsAfter s x ls v (tree.joined k a b ts) is (tree.joined k r.0 q.0 u.0, u.1)
  joined_after {k} {is = is} {r = r} {q = q} {u = u} e f g =
      let first = stays (more_and f.more g.more) e.resolved in
      let second = stays g.more f.resolved in record {
        more = more_and e.more (more_and f.more g.more);
        numbering = g.numbering;
        resolved = record {
          same = let y = first.same in let z = second.same in let w = g.same in cc;
          below = λ p i. elim i [
            | at.of_first j ↦ first.below p j
            | at.of_second j ↦ second.below p j
            | at.of_others j ↦ g.below p j
          ];
        };
      }

  none_after : {ls : List Leaf} {v : Numbering} → IsNumbering s ls v → AreAfter s x ls v no_trees ls (no_trees, v)
  none_after n = record { more = no_more; numbering = n; same = refl; below = λ p i. elim i [ ] }

  more_after : {ls ks js : List Leaf} {v : Numbering} {a : Tree Point} {ts : Trees Point} {r : Resolved} {u : Trees Spot × Numbering}
      → IsAfter s x ls v a ks r → AreAfter s x ks r.1 ts js u → AreAfter s x ls v (tree_and a ts) js (tree_and r.0 u.0, u.1)
  more_after e g =
      let first = stays g.more e.resolved in record {
        more = more_and e.more g.more;
        numbering = g.numbering;
        same = ap₂ tree_and first.same g.same;
        below = λ p i. elim i [
          | at.in_this j ↦ first.below p j
          | at.in_later j ↦ g.below p j
        ];
      }

  -- what is looked up
  found_after : (l : Point) (d : Definition) {ls : List Leaf} {v : Numbering} → aim s x l ≡ to_definition d → Met s (to_definition d) → IsNumbering s ls v
      → IsAfter s x ls v (leaf l) ls (looked_up d v)
  found_after l d {ls} {v} aimed met n =
      let new = asked_for d v.definitions in
      let more : IsMore ls v ls (looked_up d v).1 = record { more = new.more; definitions = new.is; others = []; leaves = sym (append-nil ls) } in record {
        more = more;
        numbering = record {
          count = n.count;
          each = λ k m e f g. let old = n.each k m e f g in (old.0, stays more old.1);
          met_definitions = λ e c. elim (Contains-append_cases v.definitions new.more e (subst (λ ds. Contains ds e) new.is c)) [
            | inl h ↦ n.met_definitions e h
            | inr h ↦ subst (λ z. Met s (to_definition z)) (sym (new.only e h)) met
          ];
          met_elements = n.met_elements;
          apart = new.apart n.apart;
        };
        resolved = record {
          same = ap leaf (aimed ∙ ap definition_aim (sym new.there));
          below = only_leaf (IsSpotBelow (length (with_definition v.definitions d)) (length ls))
              (slice_get_within (with_definition v.definitions d) (number_of v.definitions d) d new.there);
        };
      }

  -- an element whose body is resolved
  element_after : (n : Position) (c : NameClass) (p : Pattern) {ls ks : List Leaf} {v : Numbering} {r : Resolved}
      → Met s (to_element (record { place = x; position = n; class = c; content = p })) → IsAfter s x ls v (pattern_tree (0 ∷ n) p) ks r
      → IsAfter s x ls v (pattern_tree n (pattern.element c p)) (ks ++ record { place = x; position = n; class = c; content = p } ∷ []) (with_element c r)
  element_after n c p {ls} {ks} {v} {r} met e =
      let m : Leaf = record { place = x; position = n; class = c; content = p } in
      let number = e.numbering in
      let more : IsMore ks r.1 (ks ++ m ∷ []) (with_element c r).1 = record {
        more = [];
        definitions = sym (append-nil r.1.definitions);
        others =
            m ∷ [];
        leaves = refl;
      } in record {
        more = more_and e.more more;
        numbering = record {
          count = omega (arith, number.count, length-append ks (m ∷ []), length-append r.1.elements ((c, r.0) ∷ []));
          each = λ k m' e' f g. elim (before_or_at_end ks m m' k f) [
            | inl a ↦ elim (before_or_at_end r.1.elements (c, r.0) e' k g) [
              | inl b ↦ let old = number.each k m' e' a b in (old.0, stays more old.1)
              | inr b ↦ absurd (omega (arith, slice_get_within ks k m' a, b.0, number.count))
            ]
            | inr a ↦ elim (before_or_at_end r.1.elements (c, r.0) e' k g) [
              | inl b ↦ absurd (omega (arith, slice_get_within r.1.elements k e' b, a.0, number.count))
              | inr b ↦
                  let here : (c ≡ m.class) × IsResolved s r.1.definitions (ks ++ m ∷ []) x (content_of m) r.0 = (refl, stays more e.resolved) in
                  rw (a.1, b.1) here
            ]
          ];
          met_definitions = number.met_definitions;
          met_elements = λ m' i. elim (Contains-push_cases ks m m' i) [
            | inl h ↦ number.met_elements m' h
            | inr h ↦ subst (λ z. Met s (to_element z)) h met
          ];
          apart = number.apart;
        };
        resolved = record {
          same = ap leaf (ap element_aim (sym (ap (slice_get (ks ++ m ∷ [])) number.count ∙ at_end ks m)));
          below = only_leaf (IsSpotBelow (length r.1.definitions) (length (ks ++ m ∷ []))) (omega (arith, number.count, length-append ks (m ∷ [])));
        };
      }

module _ (s : Schema) (found : Met s to_nothing → ⊥) (x : Place) where
  outside_after : (y : List ℕ) (o : Option Place) {ls : List Leaf} {v : Numbering} → s.outer x ≡ o → Met s (outside y o) → IsNumbering s ls v
      → IsAfter s x ls v (leaf (a_parent_ref y)) ls (looked_up_outside y o v)
  unfolding looked_up_outside
  outside_after y None e met n = absurd (found met)
  outside_after y (Some z) e met n = found_after s x (a_parent_ref y) (record { place = z; name = Some y }) (ap (outside y) e) met n

  -- a pattern whose points are met
  mutual
    unfolding resolve with_elements

    pub resolves : (p : Pattern) (n : Position) (ls : List Leaf) (v : Numbering) → IsNumbering s ls v
        → ((l : Point) → LeafIn l (pattern_tree n p) → Met s (aim s x l))
        → IsAfter s x ls v (pattern_tree n p) (with_elements x n p ls) (resolve x (s.outer x) p v)
    resolves pattern.not_allowed n ls v is met = record { more = no_more; numbering = is; resolved = record { same = refl; below = λ p i. elim i [ ] } }
    resolves pattern.empty n ls v is met = record { more = no_more; numbering = is; resolved = record { same = refl; below = λ p i. elim i [ ] } }
    resolves pattern.text n ls v is met = record { more = no_more; numbering = is; resolved = record { same = refl; below = λ p i. elim i [ ] } }
    resolves (pattern.data_of d) n ls v is met = record { more = no_more; numbering = is; resolved = record { same = refl; below = λ p i. elim i [ ] } }
    resolves (pattern.value library name w) n ls v is met =
        record { more = no_more; numbering = is; resolved = record { same = refl; below = λ p i. elim i [ ] } }
    resolves (pattern.element c p) n ls v is met =
        let m = met _ at.here in
        element_after s x n c p m (resolves p (0 ∷ n) ls v is (λ l i. met_in_element m i refl))
    resolves (pattern.attribute c p) n ls v is met = attribute_after s x (resolves p (0 ∷ n) ls v is (λ l i. met l (at.of_attribute i)))
    resolves (pattern.list p) n ls v is met = list_after s x (resolves p (0 ∷ n) ls v is (λ l i. met l (at.of_list i)))
    resolves (pattern.data_except d p) n ls v is met = except_after s x (resolves p (0 ∷ n) ls v is (λ l i. met l (at.of_except i)))
    resolves (pattern.mixed p) n ls v is met = mixed_after s x (resolves p (0 ∷ n) ls v is (λ l i. met l (at.of_mixed i)))
    resolves (pattern.optional p) n ls v is met = optional_after s x (resolves p (0 ∷ n) ls v is (λ l i. met l (at.of_optional i)))
    resolves (pattern.zero_or_more p) n ls v is met = zero_or_more_after s x (resolves p (0 ∷ n) ls v is (λ l i. met l (at.of_zero_or_more i)))
    resolves (pattern.one_or_more p) n ls v is met = one_or_more_after s x (resolves p (0 ∷ n) ls v is (λ l i. met l (at.of_one_or_more i)))
    resolves (pattern.joined k p q ps) n ls v is met =
        let a = resolves p (0 ∷ n) ls v is (λ l i. met l (at.of_first i)) in
        let b = resolves q (1 ∷ n) _ _ a.numbering (λ l i. met l (at.of_second i)) in
        joined_after s x a b (resolves_all ps 2 n _ _ b.numbering (λ l i. met l (at.of_others i)))
    resolves (pattern.ref y) n ls v is met = found_after s x (a_ref y) (record { place = x; name = Some y }) refl (met (a_ref y) at.here) is
    resolves (pattern.parent_ref y) n ls v is met = outside_after y (s.outer x) refl (met (a_parent_ref y) at.here) is
    resolves (pattern.grammar z) n ls v is met = found_after s x (a_grammar z) (record { place = z; name = None }) refl (met (a_grammar z) at.here) is
    resolves (pattern.external p) n ls v is met = resolves p (0 ∷ n) ls v is met

    pub resolves_all : (ps : Patterns) (i : ℕ) (n : Position) (ls : List Leaf) (v : Numbering) → IsNumbering s ls v
        → ((l : Point) → LeafAmong l (pattern_trees i n ps) → Met s (aim s x l))
        → AreAfter s x ls v (pattern_trees i n ps) (with_all_elements x i n ps ls) (resolve_all x (s.outer x) ps v)
    resolves_all no_patterns i n ls v is met = none_after s x is
    resolves_all (pattern_and p ps) i n ls v is met =
        let a = resolves p (i ∷ n) ls v is (λ l h. met l (at.in_this h)) in
        more_after s x a (resolves_all ps (i + 1) n _ _ a.numbering (λ l h. met l (at.in_later h)))
