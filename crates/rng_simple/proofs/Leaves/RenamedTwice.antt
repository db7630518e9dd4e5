-- Simple trees whose leaves are renamed twice, or to themselves.
use Rattle.std.proofs.Common.{◌≡◌, refl, ap, ap₂}
use Rattle.rng_model.specs.simple.Tree.{Simple, s_not_allowed, s_empty, s_text, s_leaf, s_attribute, s_list, s_data, s_data_except, s_value, s_one_or_more}
use Rattle.rng_model.specs.simple.Tree.{s_joined, as_tree}
use Rattle.rng_model.specs.simple.Leaves.{LeafIn}
use Rattle.rng_model.specs.simple.Leaves as at
use Rattle.rng_simple.specs.plain.Renamed.{simple_renamed}

-- renaming twice
pub renamed_twice : {A B C : Type 0} (f : B → C) (g : A → B) (u : Simple A) → simple_renamed f (simple_renamed g u) ≡ simple_renamed (λ a. f (g a)) u
renamed_twice f g s_not_allowed = refl
renamed_twice f g s_empty = refl
renamed_twice f g s_text = refl
renamed_twice f g (s_leaf k) = refl
renamed_twice f g (s_attribute c u) = ap (s_attribute c) (renamed_twice f g u)
renamed_twice f g (s_list u) = ap s_list (renamed_twice f g u)
renamed_twice f g (s_data d) = refl
renamed_twice f g (s_data_except d u) = ap (s_data_except d) (renamed_twice f g u)
renamed_twice f g (s_value d v) = refl
renamed_twice f g (s_one_or_more u) = ap s_one_or_more (renamed_twice f g u)
renamed_twice f g (s_joined k u v) = ap₂ (s_joined k) (renamed_twice f g u) (renamed_twice f g v)

pub renamed_itself : {A : Type 0} (f : A → A) (u : Simple A) → ((a : A) → LeafIn a (as_tree u) → f a ≡ a) → simple_renamed f u ≡ u
renamed_itself f s_not_allowed h = refl
renamed_itself f s_empty h = refl
renamed_itself f s_text h = refl
renamed_itself f (s_leaf k) h = ap s_leaf (h k at.here)
renamed_itself f (s_attribute c u) h = ap (s_attribute c) (renamed_itself f u (λ k i. h k (at.of_attribute i)))
renamed_itself f (s_list u) h = ap s_list (renamed_itself f u (λ k i. h k (at.of_list i)))
renamed_itself f (s_data d) h = refl
renamed_itself f (s_data_except d u) h = ap (s_data_except d) (renamed_itself f u (λ k i. h k (at.of_except i)))
renamed_itself f (s_value d v) h = refl
renamed_itself f (s_one_or_more u) h = ap s_one_or_more (renamed_itself f u (λ k i. h k (at.of_one_or_more i)))
renamed_itself f (s_joined k u v) h = ap₂ (s_joined k) (renamed_itself f u (λ j i. h j (at.of_first i))) (renamed_itself f v (λ j i. h j (at.of_second i)))
