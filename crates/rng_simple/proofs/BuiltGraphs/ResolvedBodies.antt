-- The body of a definition resolved, component by component.
use Rattle.std.proofs.Common.{◌≡◌, ◌⊎◌, inl, inr, refl, sym, ap, ap₂, ◌∙◌, subst, arith, ℕ, suc, ◌+◌, Bool, true, false, cond, if◌then◌else◌, ◌||◌}
use Rattle.std.proofs.Common.{List, [], ◌∷◌, map, filter, length, Option, Some, None, Contains}
use Rattle.std.specs.List.{list_any}
use Rattle.std.proofs.lemmas.List.Elements.{Contains-append_cases, Contains-push_cases}
use Rattle.std.proofs.lemmas.Option.{none-some}
use Rattle.rng_model.proofs.Members.{not_in_none, one_or_none}
use Rattle.rng_model.specs.simple.Tree.{Tree, Connector, choice, interleave, joined, no_trees}
use Rattle.rng_model.specs.schema.Patterns.{Place, Point, pattern_tree}
use Rattle.rng_model.specs.schema.Schema.{Schema, Component, Definition, body, body_among, same_component_name, is_interleaved, trees_named}
use Rattle.rng_model.specs.schema.Schema.{combining_connector, nested, nested_from}
use Rattle.rng_model.specs.simple.Leaves.{LeafIn, renamed}
use Rattle.rng_model.specs.simple.Leaves as at
use Rattle.rng_model.specs.schema.Unfolding.{Leaf, to_definition, to_nothing, aim}
use Rattle.rng_model.proofs.Options.{one_value}
use Rattle.rng_simple.specs.views.ComponentTable.{given, joining, schema_components}
use Rattle.rng_simple.specs.plain.Graph.{Spot, IsSpotBelow, aim_at}
use Rattle.rng_simple.specs.views.GraphView.{combined}
use Rattle.rng_simple.specs.plain.Met.{Met, met_in_definition}
use Rattle.rng_simple.specs.plain.ResolvedElements.{with_elements, with_named_elements, with_elements_of}
use Rattle.rng_simple.specs.plain.Resolving.{Numbering, resolve_each}
use Rattle.rng_simple.proofs.BuiltGraphs.ResolvedPatterns.{IsNumbering, IsMore, IsAfter, more_and, no_more, stays, resolves}

later_in : {A : Type 0} {x y : A} (xs : List A) → Contains xs y → Contains (x ∷ xs) y
later_in xs c = (suc c.0, omega (arith, c.1), c.2)

-- equal lists are nested alike
abbrev nested_or : {L : Type 0} → Connector → Tree L → List (Tree L) → Tree L
nested_or k a [] = a
nested_or k a (b ∷ ts) = nested_from k b ts

cons_same : {L : Type 0} (k : Connector) {a b : Tree L} {ts us : List (Tree L)} → a ∷ ts ≡ b ∷ us → nested_from k a ts ≡ nested_from k b us
cons_same k {a} e = ap (nested_or k a) e

-- ---- trees nested in twos

module _ {K : Type 0} (k : Connector) where
  renamed_nested : {L : Type 0} (f : K → L) (a : Tree K) (ts : List (Tree K))
      → renamed f (nested_from k a ts) ≡ nested_from k (renamed f a) (map (renamed f) ts)
  renamed_nested f a [] = refl
  renamed_nested f a (b ∷ ts) = renamed_nested f (joined k a b no_trees) ts

  in_first : {l : K} (a : Tree K) (ts : List (Tree K)) → LeafIn l a → LeafIn l (nested_from k a ts)
  in_first a [] i = i
  in_first a (b ∷ ts) i = in_first (joined k a b no_trees) ts (at.of_first i)

  in_later : {l : K} (a b : Tree K) (ts : List (Tree K)) → Contains ts b → LeafIn l b → LeafIn l (nested_from k a ts)
  in_later a b [] c i = absurd (not_in_none c)
  in_later a b (d ∷ ts) c i = elim (Contains-append_cases (d ∷ []) ts b c) [
    | inl h ↦ elim (Contains-push_cases [] d b h) [
      | inl z ↦ absurd (not_in_none z)
      | inr z ↦ in_first (joined k a d no_trees) ts (at.of_second (subst (LeafIn _) (sym z) i))
    ]
    | inr h ↦ in_later (joined k a d no_trees) b ts h i
  ]

  -- a leaf of the nested tree is a leaf of the first tree or of another
  pub from_nested : {l : K} (a : Tree K) (ts : List (Tree K)) → LeafIn l (nested_from k a ts) → LeafIn l a ⊎ ((b : Tree K) × Contains ts b × LeafIn l b)
  from_nested a [] i = inl i
  from_nested a (b ∷ ts) i = elim (from_nested (joined k a b no_trees) ts i) [
    | inl (at.of_first j) ↦ inl j
    | inl (at.of_second j) ↦ inr (b, (0, omega arith, refl), j)
    | inl (at.of_others j) ↦ elim j [ ]
    | inr (d, c, j) ↦ inr (d, later_in ts c, j)
  ]

-- ---- the components of a name, one after another

-- these trees are resolved, starting with this numbering
pub record AreEachAfter (s : Schema) (x : Place) (ls : List Leaf) (v : Numbering) (ts : List (Tree Point)) (ks : List Leaf) (r : List (Tree Spot) × Numbering)
    : Type 0 where
  pub more : IsMore ls v ks r.1
  pub numbering : IsNumbering s ks r.1
  pub same : map (renamed (aim s x)) ts ≡ map (renamed (aim_at r.1.definitions ks)) r.0
  pub below : (q : Spot) (t : Tree Spot) → Contains r.0 t → LeafIn q t → IsSpotBelow (length r.1.definitions) (length ks) q

module _ (s : Schema) (found : Met s to_nothing → ⊥) (x : Place) (y : Option (List ℕ)) where
  abbrev those : List Component → List Component
  those cs = filter (λ c. same_component_name y c.name) cs

  abbrev AreMet : List (Tree Point) → Type 0
  AreMet ts = (l : Point) (t : Tree Point) → Contains ts t → LeafIn l t → Met s (aim s x l)

  one_and : {ls ks js : List Leaf} {v : Numbering} {a : Tree Point} {ts : List (Tree Point)} {r : Tree Spot × Numbering} {u : List (Tree Spot) × Numbering}
      → IsAfter s x ls v a ks r → AreEachAfter s x ks r.1 ts js u → AreEachAfter s x ls v (a ∷ ts) js (r.0 ∷ u.0, u.1)
  one_and {r = r} {u = u} e g =
      let first = stays g.more e.resolved in record {
        more = more_and e.more g.more;
        numbering = g.numbering;
        same = ap₂ ◌∷◌ first.same g.same;
        below = λ q t c i. elim (Contains-append_cases (r.0 ∷ []) u.0 t c) [
          | inl h ↦ elim (Contains-push_cases [] r.0 t h) [
            | inl z ↦ absurd (not_in_none z)
            | inr z ↦ first.below q (subst (LeafIn q) (sym z) i)
          ]
          | inr h ↦ g.below q t h i
        ];
      }

  abbrev EachResolves : List Component → ℕ → Type 0
  EachResolves cs n = (ls : List Leaf) (v : Numbering) → IsNumbering s ls v → AreMet (trees_named y n cs)
      → AreEachAfter s x ls v (trees_named y n cs) (with_named_elements x y n cs ls) (resolve_each x (s.outer x) (map (λ c. c.pattern) (those cs)) v)

  either_way : (c : Component) (cs : List Component) (n : ℕ) (ls : List Leaf) (v : Numbering) → IsNumbering s ls v → EachResolves cs (n + 1) → (b : Bool)
      → AreMet (if b then pattern_tree (n ∷ []) c.pattern ∷ trees_named y (n + 1) cs else trees_named y (n + 1) cs)
      → AreEachAfter s x ls v (if b then pattern_tree (n ∷ []) c.pattern ∷ trees_named y (n + 1) cs else trees_named y (n + 1) cs)
      (with_named_elements x y (n + 1) cs (if b then with_elements x (n ∷ []) c.pattern ls else ls))
      (resolve_each x (s.outer x) (map (λ c. c.pattern) (cond b (c ∷ those cs) (those cs))) v)
  unfolding resolve_each
  either_way c cs n ls v is rest true met =
      let first = resolves s found x c.pattern (n ∷ []) ls v is (λ l i. met l (pattern_tree (n ∷ []) c.pattern) (0, omega arith, refl) i) in
      one_and first (rest _ _ first.numbering (λ l t i j. met l t (later_in _ i) j))
  either_way c cs n ls v is rest false met = rest ls v is met

  pub each_resolves : (cs : List Component) (n : ℕ) → EachResolves cs n
  unfolding resolve_each with_named_elements
  each_resolves [] n ls v is met = record { more = no_more; numbering = is; same = refl; below = λ q t c i. absurd (not_in_none c) }
  each_resolves (c ∷ cs) n ls v is met = either_way c cs n ls v is (each_resolves cs (n + 1)) (same_component_name y c.name) met

  -- ---- a whole body

  nested_after : (k : Connector) (t : Tree Point) (ts : List (Tree Point)) (q : Tree Spot) (qs : List (Tree Spot)) (ls ks : List Leaf) (v w : Numbering)
      → AreEachAfter s x ls v (t ∷ ts) ks (q ∷ qs, w) → IsAfter s x ls v (nested_from k t ts) ks (nested_from k q qs, w)
  nested_after k t ts q qs ls ks v w after = record {
    more = after.more;
    numbering = after.numbering;
    resolved = record {
      same = renamed_nested k (aim s x) t ts ∙ cons_same k after.same ∙ sym (renamed_nested k (aim_at w.definitions ks) q qs);
      below = λ p i. elim (from_nested k q qs i) [
        | inl j ↦ after.below p q (0, omega arith, refl) j
        | inr (d, c, j) ↦ after.below p d (later_in qs c) j
      ];
    };
  }

  combined_after : (k : Connector) (ts : List (Tree Point)) (a : Tree Point) (rs : List (Tree Spot)) (ls ks : List Leaf) (v w : Numbering)
      → nested k ts ≡ Some a → AreEachAfter s x ls v ts ks (rs, w) → IsAfter s x ls v a ks (combined k rs, w)
  combined_after k [] a rs ls ks v w e after = absurd (none-some _ e)
  combined_after k (t ∷ ts) a [] ls ks v w e after = absurd (one_or_none after.same)
  combined_after k (t ∷ ts) a (q ∷ qs) ls ks v w e after =
      subst (λ b. IsAfter s x ls v b ks (nested_from k q qs, w)) (one_value refl e) (nested_after k t ts q qs ls ks v w after)

-- the connector of the components of a name
connector_step : (c : Component) (cs : List Component) (k : Connector) → k ≡ joining cs → (b : Bool)
    → (if b then (if is_interleaved c.method then interleave else k) else k) ≡ joining (cond b (c ∷ cs) cs)
connector_step c cs k e true = by_method (is_interleaved c.method)
  where
    by_method : (m : Bool) → (if m then interleave else k) ≡ (if m || list_any (λ c. is_interleaved c.method) cs then interleave else choice)
    by_method true = refl
    by_method false = e
connector_step c cs k e false = e

same_connector : (y : Option (List ℕ)) (cs : List Component) → combining_connector y cs ≡ joining (filter (λ c. same_component_name y c.name) cs)
same_connector y [] = refl
same_connector y (c ∷ cs) = connector_step c (filter (λ c. same_component_name y c.name) cs) (combining_connector y cs) (same_connector y cs) (same_component_name y c.name)

-- a leaf of one of the trees is a leaf of the body
in_body : (k : Connector) (ts : List (Tree Point)) (a t : Tree Point) (l : Point) → nested k ts ≡ Some a → Contains ts t → LeafIn l t → LeafIn l a
in_body k [] a t l e c i = absurd (not_in_none c)
in_body k (b ∷ ts) a t l e c i = subst (LeafIn l) (one_value refl e) (elim (Contains-append_cases (b ∷ []) ts t c) [
  | inl h ↦ elim (Contains-push_cases [] b t h) [
    | inl z ↦ absurd (not_in_none z)
    | inr z ↦ in_first k b ts (subst (LeafIn l) (sym z) i)
  ]
  | inr h ↦ in_later k b t ts h i
])

-- the body of a definition that is met
among_resolves : (s : Schema) → (Met s to_nothing → ⊥) → (d : Definition) (a : Tree Point) (ls : List Leaf) (v : Numbering) → IsNumbering s ls v
    → Met s (to_definition d) → body s d ≡ Some a → (o : Option (List Component)) → body_among d.name o ≡ Some a
    → let cs = filter (λ c. same_component_name d.name c.name) (given o) in
    let r = resolve_each d.place (s.outer d.place) (map (λ c. c.pattern) cs) v in
    IsAfter s d.place ls v a (with_named_elements d.place d.name 0 (given o) ls) (combined (joining cs) r.0, r.1)
among_resolves s found d a ls v is met e None f = absurd (none-some _ f)
among_resolves s found d a ls v is met e (Some cs) f =
    let those = filter (λ c. same_component_name d.name c.name) cs in
    let k = joining those in
    let nests : nested k (trees_named d.name 0 cs) ≡ Some a = subst (λ k. nested k (trees_named d.name 0 cs) ≡ Some a) (same_connector d.name cs) f in
    let r = resolve_each d.place (s.outer d.place) (map (λ c. c.pattern) those) v in
    combined_after s found d.place d.name k (trees_named d.name 0 cs) a r.0 ls (with_named_elements d.place d.name 0 cs ls) v r.1 nests
    (each_resolves s found d.place d.name cs 0 ls v is
    (λ l t c i. met_in_definition met e (in_body k (trees_named d.name 0 cs) a t l nests c i) refl))

pub body_resolves : (s : Schema) → (Met s to_nothing → ⊥) → (d : Definition) (a : Tree Point) (ls : List Leaf) (v : Numbering) → IsNumbering s ls v
    → Met s (to_definition d) → body s d ≡ Some a
    → let r = resolve_each d.place (s.outer d.place) (map (λ c. c.pattern) (schema_components s d)) v in
    IsAfter s d.place ls v a (with_elements_of s ls d) (combined (joining (schema_components s d)) r.0, r.1)
unfolding body
body_resolves s found d a ls v is met e = among_resolves s found d a ls v is met e (s.components d.place) e
