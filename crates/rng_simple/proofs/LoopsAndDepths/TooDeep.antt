-- The table of depths is right; and S17 by the table of depths if S16 is kept, in both directions.
use Rattle.std.proofs.Common.{◌≡◌, ◌↔◌, refl, ap, subst, ℕ, ◌<◌, List, Contains, arith}
use Rattle.rng_model.specs.simple.Tree.{Tree}
use Rattle.rng_model.specs.schema.Patterns.{Place, Point}
use Rattle.rng_model.specs.schema.Schema.{Schema, Definition, main_start}
use Rattle.rng_model.specs.simple.Leaves.{LeafIn, depth, class_depth, depth_limit}
use Rattle.rng_model.specs.schema.Unfolding.{Leaf, to_element, to_definition, content_of, aim, Unfolds, IsTreeOf, of_start, of_body}
use Rattle.rng_model.specs.schema.SchemaClauses.{BreaksDepth}
use Rattle.rng_simple.specs.plain.Met.{Met, met_start, met_in_element, IsSettled, IsOrder}
use Rattle.rng_simple.specs.plain.DepthWith.{of_aim, depth_at, IsFilled, IsRight, tree_depth, IsFoundDeep, deep_start, deep_body, deep_name}
use Rattle.rng_simple.proofs.LoopsAndDepths.Depths.{depth_is}
use Rattle.rng_simple.proofs.LoopsAndDepths.TablesInOrder.{body_right, filled_right}
use Rattle.rng_simple.proofs.LoopsAndDepths.LoopsOrOrder.{Covers, keeps, reached_is_met, met_is_reached}
use Rattle.rng_model.specs.schema.SchemaClauses as clauses
use Rattle.rng_simple.specs.plain.InTwos.{in_twos}
use Rattle.rng_simple.proofs.Trees.SimpleClass.{has_simple_class, is_only_simple_class}
use Rattle.rng_simple.proofs.Trees.InTwos.{is_rewritten, rewritten_is}

module _ (s : Schema) where
  -- depths that are filled in along an order are those of the trees
  pub depths_right : (table : Definition → ℕ) {ds : List Definition} → IsOrder s ds → IsFilled s (depth_at s table) table ds → (d : Definition)
      → Contains ds d → IsRight s tree_depth table d
  depths_right table o f =
      filled_right ℕ s tree_depth (λ m. 1) 1 (λ m. refl) table (depth_at s table) (λ x a t d h. depth_is s (λ l. of_aim (λ m. 1) 1 table (aim s x l)) d h) o f

  pub depth_right : (table : Definition → ℕ) (P : Definition → Type 0) → ((d : Definition) → P d → IsRight s tree_depth table d)
      → (x : Place) (a : Tree Point) → ((l : Point) → LeafIn l a → IsSettled P (aim s x l)) → (t : Tree Leaf) → Unfolds s x a t
      → depth_at s table x a ≡ tree_depth t
  depth_right table P right x a =
      body_right ℕ s tree_depth (λ m. 1) 1 (λ m. refl) table (depth_at s table)
      (λ x a t d h. depth_is s (λ l. of_aim (λ m. 1) 1 table (aim s x l)) d h) P right x a

  -- ---- the clause

  module _ (table : Definition → ℕ) {ds : List Definition} (o : IsOrder s ds) (all : Covers s (Contains ds))
      (filled : IsFilled s (depth_at s table) table ds) where
    start_is : (t : Tree Leaf) → IsTreeOf s (main_start s) t → table (main_start s) ≡ tree_depth t
    start_is t d = depths_right table o filled (main_start s) (all (to_definition (main_start s)) (met_start refl)) t d

    body_is : (m : Leaf) → Met s (to_element m) → (t : Tree Leaf) → Unfolds s m.place (content_of m) t
        → depth_at s table m.place (content_of m) ≡ tree_depth t
    body_is m w t d =
        depth_right table (Contains ds) (depths_right table o filled) m.place (content_of m) (λ l i. all (aim s m.place l) (met_in_element w i refl)) t d

    found : BreaksDepth s → IsFoundDeep s table
    found (clauses.deep_tree p (of_start {t} d) w h) = deep_start (omega (arith, h, ap depth (rewritten_is t p w), start_is t d))
    found (clauses.deep_tree p (of_body {l} {t} r d) w h) =
        let m = reached_is_met s r in
        deep_body l m (omega (arith, h, ap depth (rewritten_is t p w), body_is l m t d))
    found (clauses.deep_class {l} {c} r w h) =
        deep_name l (reached_is_met s r) (subst (λ d. depth_limit < class_depth d) (is_only_simple_class l.class c w) h)

    deep : IsFoundDeep s table → BreaksDepth s
    deep (deep_start h) =
        let k = (keeps s o all).start in
        clauses.deep_tree (in_twos k.0) (of_start k.1) (is_rewritten k.0) (omega (arith, h, start_is k.0 k.1))
    deep (deep_body m w h) =
        let r = met_is_reached s (keeps s o all) m w in
        let t = (keeps s o all).bodies m r in
        clauses.deep_tree (in_twos t.0) (of_body r t.1) (is_rewritten t.0) (omega (arith, h, body_is m w t.0 t.1))
    deep (deep_name m w h) = clauses.deep_class (met_is_reached s (keeps s o all) m w) (has_simple_class m.class) h

    pub breaks_depth : BreaksDepth s ↔ IsFoundDeep s table
    breaks_depth = (found, deep)
