-- Depths of trees with renamed leaves: only the values of the leaves matter.
use Rattle.std.proofs.Common.{◌≡◌, refl, ap, ap₂, ℕ, max}
use Rattle.rng_model.specs.simple.Tree.{Tree, not_allowed, empty, text, leaf, attribute, list, data_of, data_except, value, mixed}
use Rattle.rng_model.specs.simple.Tree.{optional, zero_or_more, one_or_more, joined, Trees, no_trees, tree_and}
use Rattle.rng_simple.specs.plain.InTwos.{nested}
use Rattle.rng_model.specs.simple.Leaves.{class_depth, LeafIn, LeafAmong, renamed, all_renamed}
use Rattle.rng_model.specs.simple.Leaves as at
use Rattle.rng_simple.specs.plain.DepthWith.{cut_off, one_more, depth_with, deeper_with}

module _ {K L : Type 0} (f : K → L) (h : L → ℕ) (g : K → ℕ) where
  mutual
    -- the renamed leaves of the first tree have the values of the leaves of the second
    pub depth_same : (a : Tree K) → ((k : K) → LeafIn k a → h (f k) ≡ g k) → depth_with h (renamed f a) ≡ depth_with g a
    depth_same not_allowed e = refl
    depth_same empty e = refl
    depth_same text e = refl
    depth_same (leaf k) e = e k at.here
    depth_same (attribute c a) e = ap (λ n. one_more (max (cut_off (class_depth (nested c))) n)) (depth_same a (λ k i. e k (at.of_attribute i)))
    depth_same (list a) e = ap one_more (depth_same a (λ k i. e k (at.of_list i)))
    depth_same (data_of d) e = refl
    depth_same (data_except d a) e = ap one_more (depth_same a (λ k i. e k (at.of_except i)))
    depth_same (value d v) e = refl
    depth_same (mixed a) e = ap (λ n. one_more (max n 1)) (depth_same a (λ k i. e k (at.of_mixed i)))
    depth_same (optional a) e = ap (λ n. one_more (max n 1)) (depth_same a (λ k i. e k (at.of_optional i)))
    depth_same (zero_or_more a) e = ap (λ n. one_more (one_more n)) (depth_same a (λ k i. e k (at.of_zero_or_more i)))
    depth_same (one_or_more a) e = ap one_more (depth_same a (λ k i. e k (at.of_one_or_more i)))
    depth_same (joined j a b ts) e =
        deeper_same ts (λ k i. e k (at.of_others i)) _ _
        (ap₂ (λ m n. one_more (max m n)) (depth_same a (λ k i. e k (at.of_first i))) (depth_same b (λ k i. e k (at.of_second i))))

    deeper_same : (ts : Trees K) → ((k : K) → LeafAmong k ts → h (f k) ≡ g k) → (m n : ℕ) → m ≡ n → deeper_with h m (all_renamed f ts) ≡ deeper_with g n ts
    deeper_same no_trees e m n p = p
    deeper_same (tree_and a ts) e m n p =
        deeper_same ts (λ k i. e k (at.in_later i)) _ _ (ap₂ (λ x y. one_more (max x y)) p (depth_same a (λ k i. e k (at.in_this i))))
