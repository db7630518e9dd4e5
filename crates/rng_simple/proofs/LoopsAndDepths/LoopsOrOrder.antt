-- S16 by an order of the definitions: those of the order have one tree each, and those of a stuck rest have none. What
-- is met from the start is what the clause is about.
use Rattle.std.proofs.Common.{◌≡◌, refl, sym, subst, Some, ◌⊎◌, inl, inr, List, Contains}
use Rattle.std.proofs.lemmas.List.Elements.{Contains-push_cases}
use Rattle.rng_model.proofs.Members.{not_in_none}
use Rattle.rng_model.specs.simple.Tree.{Tree, leaf}
use Rattle.rng_model.specs.schema.Patterns.{Place, Point}
use Rattle.rng_model.specs.schema.Schema.{Schema, Definition, main_start, body}
use Rattle.rng_model.specs.simple.Leaves.{LeafIn}
use Rattle.rng_model.specs.simple.Leaves as at
use Rattle.rng_model.specs.schema.Unfolding.{Leaf, content_of, Aim, to_element, to_definition, to_nothing, aim, Unfolds, IsTreeOf, IsBodyOf, IsReachedByTrees}
use Rattle.rng_model.specs.schema.Unfolding.{from_start, from_element}
use Rattle.rng_simple.specs.plain.Expansion.{HasTree, KeepsExpansion}
use Rattle.rng_model.specs.schema.Unfolding as u
use Rattle.rng_model.specs.schema.SchemaClauses.{BreaksExpansion}
use Rattle.rng_simple.specs.plain.Met.{Met, met_start, met_in_definition, met_in_element, IsSettled, IsOrder, none_yet, and_then, Leads, directly, further}
use Rattle.rng_model.proofs.Unfolding.{IsStuck, none_of_stuck, no_tree}
use Rattle.rng_model.proofs.Options.{one_value}
use Rattle.rng_simple.proofs.LoopsAndDepths.OrderAndRest.{IsSplit}
use Rattle.rng_simple.proofs.LoopsAndDepths.PatternPoints.{mapped, bound, tree_or, IsWithin, point_tree, inside}
use Rattle.rng_model.specs.schema.SchemaClauses as clauses

sure : {A : Type 0} → A ⊎ ⊥ → A
sure (inl a) = a
sure (inr b) = absurd b

module _ (s : Schema) where
  -- ---- an order has trees

  settled_tree : {x : Place} {l : Point} (P : Definition → Type 0) → ((d : Definition) → P d → (t : Tree Leaf) × IsTreeOf s d t) → (w : Aim)
      → aim s x l ≡ w → IsSettled P w → HasTree s x (leaf l)
  settled_tree P trees (to_element m) e k = (leaf m, u.element_is e)
  settled_tree P trees (to_definition d) e k = let t = trees d k in (t.0, u.found e t.1.1 t.1.2)
  settled_tree P trees to_nothing e k = absurd k

  -- a pattern has a tree if each of its points is an element or a definition with a tree
  settled_body : (P : Definition → Type 0) → ((d : Definition) → P d → (t : Tree Leaf) × IsTreeOf s d t) → (x : Place) (a : Tree Point)
      → ((l : Point) → LeafIn l a → IsSettled P (aim s x l)) → HasTree s x a
  settled_body P trees x a k = sure (tree_or s x ⊥ a (λ l i. inl (settled_tree P trees (aim s x l) refl (k l i))))

  newest : (ds : List Definition) {d e : Definition} → ((c : Definition) → Contains ds c → (t : Tree Leaf) × IsTreeOf s c t)
      → (t : Tree Leaf) × IsTreeOf s e t → Contains ds d ⊎ (e ≡ d) → (t : Tree Leaf) × IsTreeOf s d t
  newest ds {d = d} trees t (inl i) = trees d i
  newest ds trees t (inr q) = subst (λ f. (t : Tree Leaf) × IsTreeOf s f t) q t

  pub order_trees : {ds : List Definition} → IsOrder s ds → (d : Definition) → Contains ds d → (t : Tree Leaf) × IsTreeOf s d t
  order_trees none_yet d c = absurd (not_in_none c)
  order_trees (and_then {ds} {es} {a} e o b k p) d c =
      let w = settled_body (Contains ds) (order_trees o) e.place a k in
      newest ds (order_trees o) (w.0, (a, b, w.1)) (Contains-push_cases ds e d (subst (λ xs. Contains xs d) p c))

  -- ---- what is reached is met

  met_point : {d : Definition} {a : Tree Point} {l : Point} → Met s (to_definition d) → body s d ≡ Some a → LeafIn l a → Met s (aim s d.place l)
  met_point m b i = met_in_definition m b i refl

  pub reached_is_met : {l : Leaf} → IsReachedByTrees s l → Met s (to_element l)
  reached_is_met (from_start t i) = inside s (Met s) (λ d a l m b j. met_point m b j) t.2 (λ l j. met_in_definition (met_start refl) t.1 j refl) i
  reached_is_met (from_element r t i) = inside s (Met s) (λ d a l m b j. met_point m b j) t (λ l j. met_in_element (reached_is_met r) j refl) i

  -- ---- what is met is reached, as far as the needed trees exist

  abbrev Stands : Aim → Type 0
  Stands (to_element m) = IsReachedByTrees s m
  Stands (to_definition d) = (t : Tree Leaf) × IsTreeOf s d t × ((m : Leaf) → LeafIn m t → IsReachedByTrees s m)
  Stands to_nothing = ⊥

  stands_at : {x : Place} {l : Point} {v : Tree Leaf} → Unfolds s x (leaf l) v → ((m : Leaf) → LeafIn m v → IsReachedByTrees s m) → Stands (aim s x l)
  stands_at (u.element_is e) r = subst Stands (sym e) (r _ at.here)
  stands_at (u.found {d = d} {a = a} e b v) r = subst Stands (sym e) (_, (a, b, v), r)

  stands_within : {x : Place} {l : Point} {w : Aim} → w ≡ aim s x l → IsWithin s x l (IsReachedByTrees s) → Stands w
  stands_within e w = subst Stands (sym e) (stands_at w.unfolds w.leaves)

  module _ (B : Type 0) (start_tree : ((t : Tree Leaf) × IsTreeOf s (main_start s) t) ⊎ B)
      (body_tree : (m : Leaf) → IsReachedByTrees s m → Met s (to_element m) → ((t : Tree Leaf) × IsBodyOf s m t) ⊎ B) where
    within_definition : (d : Definition) {a : Tree Point} {l : Point} {w : Aim} → body s d ≡ Some a → LeafIn l a → w ≡ aim s d.place l
        → Stands (to_definition d) → Stands w
    within_definition d {a} {l} b i e t =
        let v = subst (λ c. Unfolds s d.place c t.0) (one_value t.1.1 b) t.1.2 in
        let p = point_tree s i v in
        stands_within e (record { tree = p.tree; unfolds = p.unfolds; leaves = λ m j. t.2 m (p.leaves m j) })

    within_element : {m : Leaf} {l : Point} {w : Aim} → IsReachedByTrees s m → LeafIn l (content_of m) → w ≡ aim s m.place l
        → (t : Tree Leaf) × IsBodyOf s m t → Stands w
    within_element r i e t =
        let p = point_tree s i t.1 in
        stands_within e (record { tree = p.tree; unfolds = p.unfolds; leaves = λ m j. from_element r t.1 (p.leaves m j) })

    pub stands : {w : Aim} → Met s w → Stands w ⊎ B
    stands (met_start e) = mapped (λ t. subst Stands (sym e) (t.0, t.1, λ m i. from_start t.1 i)) start_tree
    stands (met_in_definition {d = d} m b i e) = mapped (within_definition d b i e) (stands m)
    stands (met_in_element {m = n} m i e) = bound (λ r. mapped (within_element r i e) (body_tree n r m)) (stands m)

  -- ---- the clause

  abbrev pub Covers : (Definition → Type 0) → Type 0
  Covers P = (w : Aim) → Met s w → IsSettled P w

  -- if an order covers everything that is met, the clause is kept
  pub keeps : {ds : List Definition} → IsOrder s ds → Covers (Contains ds) → KeepsExpansion s
  keeps {ds} o all = record {
    start = order_trees o (main_start s) (all (to_definition (main_start s)) (met_start refl));
    bodies =
        λ l r. settled_body (Contains ds) (order_trees o) l.place (content_of l) (λ p i. all (aim s l.place p) (met_in_element (reached_is_met r) i refl));
  }

  pub met_is_reached : KeepsExpansion s → (l : Leaf) → Met s (to_element l) → IsReachedByTrees s l
  met_is_reached k l m = sure (stands ⊥ (inl k.start) (λ n r w. inl (k.bodies n r)) m)

  pub met_has_tree : KeepsExpansion s → (d : Definition) → Met s (to_definition d) → (t : Tree Leaf) × IsTreeOf s d t
  met_has_tree k d m = let w = sure (stands ⊥ (inl k.start) (λ n r w. inl (k.bodies n r)) m) in (w.0, w.1)

  -- if a member of a stuck rest is met, the clause is broken
  module _ {ds : List Definition} (Rest : Definition → Type 0) (split : IsSplit s ds Rest) where
    tree_or_rest : (d : Definition) → Contains ds d ⊎ Rest d → ((t : Tree Leaf) × IsTreeOf s d t) ⊎ Rest d
    tree_or_rest d (inl c) = inl (order_trees split.order d c)
    tree_or_rest d (inr r) = inr r

    start_or_broken : ((t : Tree Leaf) × IsTreeOf s (main_start s) t) ⊎ Rest (main_start s)
        → ((t : Tree Leaf) × IsTreeOf s (main_start s) t) ⊎ BreaksExpansion s
    start_or_broken (inl t) = inl t
    start_or_broken (inr r) = inr (clauses.of_start (none_of_stuck s Rest split.stuck (main_start s) r))

    point_or_broken : (m : Leaf) (l : Point) → IsReachedByTrees s m → LeafIn l (content_of m) → (w : Aim) → aim s m.place l ≡ w
        → IsSettled (λ d. Contains ds d ⊎ Rest d) w → HasTree s m.place (leaf l) ⊎ BreaksExpansion s
    point_or_broken m l r i (to_element n) e k = inl (leaf n, u.element_is e)
    point_or_broken m l r i (to_definition d) e k = found (tree_or_rest d k) where
      found : ((t : Tree Leaf) × IsTreeOf s d t) ⊎ Rest d → HasTree s m.place (leaf l) ⊎ BreaksExpansion s
      found (inl t) = inl (t.0, u.found e t.1.1 t.1.2)
      found (inr q) = inr (clauses.of_body r (λ t v. no_tree s Rest split.stuck i v e q))
    point_or_broken m l r i to_nothing e k = absurd k

    body_or_broken : (m : Leaf) → IsReachedByTrees s m → Met s (to_element m) → ((t : Tree Leaf) × IsBodyOf s m t) ⊎ BreaksExpansion s
    body_or_broken m r w =
        tree_or s m.place (BreaksExpansion s) (content_of m)
        (λ l i. point_or_broken m l r i (aim s m.place l) refl (split.all (aim s m.place l) (met_in_element w i refl)))

    met_tree_or_broken : (d : Definition) → Met s (to_definition d) → Stands (to_definition d) ⊎ BreaksExpansion s
    met_tree_or_broken d m =
        stands (BreaksExpansion s) (start_or_broken
        (tree_or_rest (main_start s) (split.all (to_definition (main_start s)) (met_start refl)))) body_or_broken m

    pub breaks : (d : Definition) → Met s (to_definition d) → Rest d → BreaksExpansion s
    breaks d m r = decided (met_tree_or_broken d m) where
      decided : Stands (to_definition d) ⊎ BreaksExpansion s → BreaksExpansion s
      decided (inl t) = absurd (none_of_stuck s Rest split.stuck d r t.0 t.1)
      decided (inr b) = b

  -- ---- a search from tree to tree, which stops at the first definition that leads to itself

  then_mentions : {c d e : Definition} → Leads s d e → Leads s e c → Leads s d c
  then_mentions (directly b i e) g = further b i e g
  then_mentions (further b i e f) g = further b i e (then_mentions f g)

  -- the definitions that lead to a definition that leads to itself
  pub leading_is_stuck : (c : Definition) → Leads s c c → IsStuck s (λ d. Leads s d c)
  leading_is_stuck c loop d (directly {e = e} {l = l} b i f) a g =
      record { point = l; definition = e; there = subst (LeafIn l) (one_value b g) i; aimed = f; holds = loop }
  leading_is_stuck c loop d (further {e = e} {l = l} b i f h) a g =
      record { point = l; definition = e; there = subst (LeafIn l) (one_value b g) i; aimed = f; holds = h }

  pub start_leads : (c : Definition) → Leads s c c → Leads s (main_start s) c → BreaksExpansion s
  start_leads c loop f = clauses.of_start (none_of_stuck s (λ d. Leads s d c) (leading_is_stuck c loop) (main_start s) f)

  pub element_leads : (c : Definition) → Leads s c c → (m : Leaf) (l : Point) (d : Definition) → IsReachedByTrees s m → LeafIn l (content_of m)
      → aim s m.place l ≡ to_definition d → Leads s d c → BreaksExpansion s
  element_leads c loop m l d r i e f = clauses.of_body r (λ t v. no_tree s (λ g. Leads s g c) (leading_is_stuck c loop) i v e f)
