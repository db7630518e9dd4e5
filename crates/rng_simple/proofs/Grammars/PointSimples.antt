-- The simple form of a pattern, given those of its points, is that of its tree.
use Rattle.std.proofs.Common.{◌≡◌, refl, ap, ◌∙◌}
use Rattle.rng_model.specs.simple.Tree.{Connector, choice, interleave, Tree, not_allowed, empty, text, leaf, attribute, list, data_of, data_except, value, mixed}
use Rattle.rng_model.specs.simple.Tree.{optional, zero_or_more, one_or_more, joined, Trees, no_trees, tree_and, Simple, s_leaf, s_empty, s_text}
use Rattle.rng_simple.specs.plain.InTwos.{nested}
use Rattle.rng_simple.specs.plain.SimpleOf.{sort_of, attribute_by, list_by, except_by, join, some_of, simple_of, join_all}
use Rattle.rng_model.specs.schema.Patterns.{Place, Point}
use Rattle.rng_model.specs.schema.Schema.{Schema}
use Rattle.rng_model.specs.simple.Leaves.{LeafIn, LeafAmong}
use Rattle.rng_model.specs.simple.Leaves as at
use Rattle.rng_model.specs.schema.Unfolding.{Leaf, Unfolds, UnfoldAll}
use Rattle.rng_model.specs.schema.Unfolding as u
use Rattle.rng_simple.specs.plain.SimpleWith.{simple_with, join_all_with}

module _ {L : Type 0} (s : Schema) (h : Leaf → Simple L) (g : Point → Simple L) where
  abbrev AreRight : Place → ((l : Point) → Type 0) → Type 0
  AreRight x In = (l : Point) (v : Tree Leaf) → In l → Unfolds s x (leaf l) v → g l ≡ simple_with h v

  mutual
    unfolding simple_with join_all_with

    pub simple_is : {x : Place} {a : Tree Point} {t : Tree Leaf} → Unfolds s x a t → AreRight x (λ l. LeafIn l a) → simple_with g a ≡ simple_with h t
    simple_is u.not_allowed_is n = refl
    simple_is u.empty_is n = refl
    simple_is u.text_is n = refl
    simple_is (u.element_is e) n = n _ _ at.here (u.element_is e)
    simple_is (u.found e b d) n = n _ _ at.here (u.found e b d)
    simple_is (u.attribute_is {c = c} d) n = ap (λ r. attribute_by (sort_of r) (nested c) r) (simple_is d (λ l v i e. n l v (at.of_attribute i) e))
    simple_is (u.list_is d) n = ap (λ r. list_by (sort_of r) r) (simple_is d (λ l v i e. n l v (at.of_list i) e))
    simple_is u.data_is n = refl
    simple_is (u.except_is {d = o} d) n = ap (λ r. except_by (sort_of r) o r) (simple_is d (λ l v i e. n l v (at.of_except i) e))
    simple_is u.value_is n = refl
    simple_is (u.mixed_is d) n = ap (λ r. join interleave r s_text) (simple_is d (λ l v i e. n l v (at.of_mixed i) e))
    simple_is (u.optional_is d) n = ap (λ r. join choice r s_empty) (simple_is d (λ l v i e. n l v (at.of_optional i) e))
    simple_is (u.zero_or_more_is d) n = ap (λ r. join choice (some_of r) s_empty) (simple_is d (λ l v i e. n l v (at.of_zero_or_more i) e))
    simple_is (u.one_or_more_is d) n = ap some_of (simple_is d (λ l v i e. n l v (at.of_one_or_more i) e))
    simple_is (u.joined_is {k = k} {c = o} {b = b} d e es) n =
        let p = simple_is d (λ l v i f. n l v (at.of_first i) f) in
        let q = simple_is e (λ l v i f. n l v (at.of_second i) f) in
        joined_is es (λ l v i f. n l v (at.of_others i) f) k _ _ (ap (λ r. join k r (simple_with g o)) p ∙ ap (λ r. join k (simple_with h b) r) q)

    joined_is : {x : Place} {ts : Trees Point} {us : Trees Leaf} → UnfoldAll s x ts us → AreRight x (λ l. LeafAmong l ts)
        → (k : Connector) (r q : Simple L) → r ≡ q → join_all_with g k r ts ≡ join_all_with h k q us
    joined_is u.none_is n k r q e = e
    joined_is (u.more_are {a = a} d es) n k r q e =
        let p = simple_is d (λ l v i f. n l v (at.in_this i) f) in
        joined_is es (λ l v i f. n l v (at.in_later i) f) k _ _ (ap (λ z. join k z (simple_with g a)) e ∙ ap (λ z. join k q z) p)

-- the leaves themselves
mutual
  unfolding simple_with join_all_with simple_of join_all

  pub with_leaves : {L : Type 0} (a : Tree L) → simple_with s_leaf a ≡ simple_of a
  with_leaves not_allowed = refl
  with_leaves empty = refl
  with_leaves text = refl
  with_leaves (leaf l) = refl
  with_leaves (attribute c a) = ap (λ r. attribute_by (sort_of r) (nested c) r) (with_leaves a)
  with_leaves (list a) = ap (λ r. list_by (sort_of r) r) (with_leaves a)
  with_leaves (data_of d) = refl
  with_leaves (data_except d a) = ap (λ r. except_by (sort_of r) d r) (with_leaves a)
  with_leaves (value d v) = refl
  with_leaves (mixed a) = ap (λ r. join interleave r s_text) (with_leaves a)
  with_leaves (optional a) = ap (λ r. join choice r s_empty) (with_leaves a)
  with_leaves (zero_or_more a) = ap (λ r. join choice (some_of r) s_empty) (with_leaves a)
  with_leaves (one_or_more a) = ap some_of (with_leaves a)
  with_leaves (joined k a b ts) = all_with_leaves k (join k (simple_with s_leaf a) (simple_with s_leaf b)) _
      (ap (λ r. join k r (simple_with s_leaf b)) (with_leaves a) ∙ ap (λ r. join k (simple_of a) r) (with_leaves b)) ts

  all_with_leaves : {L : Type 0} (k : Connector) (r q : Simple L) → r ≡ q → (ts : Trees L) → join_all_with s_leaf k r ts ≡ join_all k q ts
  all_with_leaves k r q e no_trees = e
  all_with_leaves k r q e (tree_and a ts) = all_with_leaves k _ _ (ap (λ z. join k z (simple_with s_leaf a)) e ∙ ap (λ z. join k q z) (with_leaves a)) ts
