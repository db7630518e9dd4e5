-- The depth of a pattern, given the depths of its points, is that of its tree.
use Rattle.std.proofs.Common.{◌≡◌, refl, ℕ, arith}
use Rattle.rng_model.specs.simple.Tree.{Connector, Tree, leaf, Trees, Simple, s_joined}
use Rattle.rng_simple.specs.plain.InTwos.{in_twos, more_in_twos}
use Rattle.rng_model.specs.simple.Leaves.{depth, LeafIn, LeafAmong}
use Rattle.rng_model.specs.schema.Patterns.{Place, Point}
use Rattle.rng_model.specs.schema.Schema.{Schema}
use Rattle.rng_model.specs.simple.Leaves as at
use Rattle.rng_model.specs.schema.Unfolding.{Leaf, Unfolds, UnfoldAll}
use Rattle.rng_model.specs.schema.Unfolding as u
use Rattle.rng_simple.specs.plain.DepthWith.{cut_off, depth_with, deeper_with, tree_depth}

module _ (s : Schema) (g : Point → ℕ) where
  abbrev AreRight : Place → ((l : Point) → Type 0) → Type 0
  AreRight x In = (l : Point) (v : Tree Leaf) → In l → Unfolds s x (leaf l) v → g l ≡ tree_depth v

  mutual
    pub depth_is : {x : Place} {a : Tree Point} {t : Tree Leaf} → Unfolds s x a t → AreRight x (λ l. LeafIn l a) → depth_with g a ≡ tree_depth t
    depth_is u.not_allowed_is h = refl
    depth_is u.empty_is h = refl
    depth_is u.text_is h = refl
    depth_is (u.element_is e) h = h _ _ at.here (u.element_is e)
    depth_is (u.found e b d) h = h _ _ at.here (u.found e b d)
    depth_is (u.attribute_is {c = c} d) h = let p = depth_is d (λ l v i e. h l v (at.of_attribute i) e) in omega arith
    depth_is (u.list_is d) h = let p = depth_is d (λ l v i e. h l v (at.of_list i) e) in omega arith
    depth_is u.data_is h = refl
    depth_is (u.except_is d) h = let p = depth_is d (λ l v i e. h l v (at.of_except i) e) in omega arith
    depth_is u.value_is h = refl
    depth_is (u.mixed_is d) h = let p = depth_is d (λ l v i e. h l v (at.of_mixed i) e) in omega arith
    depth_is (u.optional_is d) h = let p = depth_is d (λ l v i e. h l v (at.of_optional i) e) in omega arith
    depth_is (u.zero_or_more_is d) h = let p = depth_is d (λ l v i e. h l v (at.of_zero_or_more i) e) in omega arith
    depth_is (u.one_or_more_is d) h = let p = depth_is d (λ l v i e. h l v (at.of_one_or_more i) e) in omega arith
    depth_is (u.joined_is {k = k} {b = b} {d = c} d e es) h =
        let p = depth_is d (λ l v i f. h l v (at.of_first i) f) in
        let q = depth_is e (λ l v i f. h l v (at.of_second i) f) in
        deeper_is es (λ l v i f. h l v (at.of_others i) f) k _ (s_joined k (in_twos b) (in_twos c)) (omega arith)

    deeper_is : {x : Place} {ts : Trees Point} {us : Trees Leaf} → UnfoldAll s x ts us → AreRight x (λ l. LeafAmong l ts)
        → (k : Connector) (n : ℕ) (r : Simple Leaf) → n ≡ cut_off (depth r) → deeper_with g n ts ≡ cut_off (depth (more_in_twos k r us))
    deeper_is u.none_is h k n r e = e
    deeper_is (u.more_are {b = b} d es) h k n r e =
        let p = depth_is d (λ l v i f. h l v (at.in_this i) f) in
        deeper_is es (λ l v i f. h l v (at.in_later i) f) k _ (s_joined k r (in_twos b)) (omega arith)
