-- Simple trees with renamed leaves, and where the leaves of two joined trees come from.
use Rattle.std.proofs.Common.{◌≡◌, ◌⊎◌, inl, inr, refl, ap, ap₂}
use Rattle.rng_model.specs.simple.Tree.{Connector, choice, group, interleave, attribute, list, data_except, one_or_more, joined, no_trees, as_tree}
use Rattle.rng_model.specs.simple.Tree.{Simple, s_not_allowed, s_empty, s_text, s_leaf, s_attribute, s_list, s_data, s_data_except, s_value, s_one_or_more, s_joined}
use Rattle.rng_model.specs.simple.Leaves.{renamed, LeafIn}
use Rattle.rng_model.specs.simple.Leaves as f
use Rattle.rng_simple.specs.plain.SimpleOf.{Sort, nothing, blank, proper, sort_of, choice_by, both_by, joined_by, join}
use Rattle.rng_simple.specs.plain.Renamed.{simple_renamed}
use Rattle.rng_simple.proofs.Trees.TreeSplits.{Sorted, is_nothing, is_blank, is_proper, sorted}

module _ {K L : Type 0} where
  -- renaming commutes with `as_tree`
  pub as_tree_renamed : (g : K → L) (s : Simple K) → as_tree (simple_renamed g s) ≡ renamed g (as_tree s)
  as_tree_renamed g s_not_allowed = refl
  as_tree_renamed g s_empty = refl
  as_tree_renamed g s_text = refl
  as_tree_renamed g (s_leaf k) = refl
  as_tree_renamed g (s_attribute c s) = ap (attribute c) (as_tree_renamed g s)
  as_tree_renamed g (s_list s) = ap list (as_tree_renamed g s)
  as_tree_renamed g (s_data d) = refl
  as_tree_renamed g (s_data_except d s) = ap (data_except d) (as_tree_renamed g s)
  as_tree_renamed g (s_value d v) = refl
  as_tree_renamed g (s_one_or_more s) = ap one_or_more (as_tree_renamed g s)
  as_tree_renamed g (s_joined k s u) = ap₂ (λ a b. joined k a b no_trees) (as_tree_renamed g s) (as_tree_renamed g u)

  -- only the names of its leaves matter
  pub renamed_corresponds : (g h : K → L) (s : Simple K) → ((k : K) → LeafIn k (as_tree s) → g k ≡ h k) → simple_renamed g s ≡ simple_renamed h s
  renamed_corresponds g h s_not_allowed n = refl
  renamed_corresponds g h s_empty n = refl
  renamed_corresponds g h s_text n = refl
  renamed_corresponds g h (s_leaf k) n = ap s_leaf (n k f.here)
  renamed_corresponds g h (s_attribute c s) n = ap (s_attribute c) (renamed_corresponds g h s (λ k i. n k (f.of_attribute i)))
  renamed_corresponds g h (s_list s) n = ap s_list (renamed_corresponds g h s (λ k i. n k (f.of_list i)))
  renamed_corresponds g h (s_data d) n = refl
  renamed_corresponds g h (s_data_except d s) n = ap (s_data_except d) (renamed_corresponds g h s (λ k i. n k (f.of_except i)))
  renamed_corresponds g h (s_value d v) n = refl
  renamed_corresponds g h (s_one_or_more s) n = ap s_one_or_more (renamed_corresponds g h s (λ k i. n k (f.of_one_or_more i)))
  renamed_corresponds g h (s_joined k s u) n =
      ap₂ (s_joined k) (renamed_corresponds g h s (λ j i. n j (f.of_first i))) (renamed_corresponds g h u (λ j i. n j (f.of_second i)))

  pub record Origin (g : K → L) (s : Simple K) (l : L) : Type 0 where
    pub name : K
    pub inside : LeafIn name (as_tree s)
    pub is : g name ≡ l

  -- a leaf of a renamed tree is the image of a leaf
  pub origin : (g : K → L) (s : Simple K) (l : L) → LeafIn l (as_tree (simple_renamed g s)) → Origin g s l
  origin g s_not_allowed l i = elim i [ ]
  origin g s_empty l i = elim i [ ]
  origin g s_text l i = elim i [ ]
  origin g (s_leaf k) l f.here = record { name = k; inside = f.here; is = refl }
  origin g (s_attribute c s) l (f.of_attribute i) = let o = origin g s l i in record { name = o.name; inside = f.of_attribute o.inside; is = o.is }
  origin g (s_list s) l (f.of_list i) = let o = origin g s l i in record { name = o.name; inside = f.of_list o.inside; is = o.is }
  origin g (s_data d) l i = elim i [ ]
  origin g (s_data_except d s) l (f.of_except i) = let o = origin g s l i in record { name = o.name; inside = f.of_except o.inside; is = o.is }
  origin g (s_value d v) l i = elim i [ ]
  origin g (s_one_or_more s) l (f.of_one_or_more i) = let o = origin g s l i in record { name = o.name; inside = f.of_one_or_more o.inside; is = o.is }
  origin g (s_joined k s u) l (f.of_first i) = let o = origin g s l i in record { name = o.name; inside = f.of_first o.inside; is = o.is }
  origin g (s_joined k s u) l (f.of_second i) = let o = origin g u l i in record { name = o.name; inside = f.of_second o.inside; is = o.is }
  origin g (s_joined k s u) l (f.of_others i) = elim i [ ]

  -- the rules do not depend on names
  pub renamed_sort : (g : K → L) (s : Simple K) → sort_of (simple_renamed g s) ≡ sort_of s
  renamed_sort g s_not_allowed = refl
  renamed_sort g s_empty = refl
  renamed_sort g _ = refl

  choice_renamed : (g : K → L) (x y : Sort) (s u : Simple K) → simple_renamed g (choice_by x y s u) ≡ choice_by x y (simple_renamed g s) (simple_renamed g u)
  choice_renamed g nothing y s u = refl
  choice_renamed g blank nothing s u = refl
  choice_renamed g blank blank s u = refl
  choice_renamed g blank proper s u = refl
  choice_renamed g proper nothing s u = refl
  choice_renamed g proper blank s u = refl
  choice_renamed g proper proper s u = refl

  both_renamed : (k : Connector) (g : K → L) (x y : Sort) (s u : Simple K)
      → simple_renamed g (both_by k x y s u) ≡ both_by k x y (simple_renamed g s) (simple_renamed g u)
  both_renamed k g nothing y s u = refl
  both_renamed k g blank y s u = refl
  both_renamed k g proper nothing s u = refl
  both_renamed k g proper blank s u = refl
  both_renamed k g proper proper s u = refl

  by_renamed : (k : Connector) (g : K → L) (x y : Sort) (s u : Simple K)
      → simple_renamed g (joined_by k x y s u) ≡ joined_by k x y (simple_renamed g s) (simple_renamed g u)
  by_renamed choice = choice_renamed
  by_renamed group = both_renamed group
  by_renamed interleave = both_renamed interleave

  pub join_renamed : (k : Connector) (g : K → L) (s u : Simple K) → simple_renamed g (join k s u) ≡ join k (simple_renamed g s) (simple_renamed g u)
  join_renamed k g s u = rw (renamed_sort g s, renamed_sort g u) (by_renamed k g (sort_of s) (sort_of u) s u)

module _ {L : Type 0} where
  choice_leaves : (l : L) {s u : Simple L} {x y : Sort} → Sorted s x → Sorted u y → LeafIn l (as_tree (choice_by x y s u))
      → LeafIn l (as_tree s) ⊎ LeafIn l (as_tree u)
  choice_leaves l is_nothing e i = inr i
  choice_leaves l is_blank is_nothing i = inl i
  choice_leaves l is_blank is_blank i = inl i
  choice_leaves l is_blank (is_proper q) (f.of_first i) = inl i
  choice_leaves l is_blank (is_proper q) (f.of_second i) = inr i
  choice_leaves l is_blank (is_proper q) (f.of_others i) = elim i [ ]
  choice_leaves l (is_proper p) is_nothing i = inl i
  choice_leaves l (is_proper p) is_blank (f.of_first i) = inr i
  choice_leaves l (is_proper p) is_blank (f.of_second i) = inl i
  choice_leaves l (is_proper p) is_blank (f.of_others i) = elim i [ ]
  choice_leaves l (is_proper p) (is_proper q) (f.of_first i) = inl i
  choice_leaves l (is_proper p) (is_proper q) (f.of_second i) = inr i
  choice_leaves l (is_proper p) (is_proper q) (f.of_others i) = elim i [ ]

  both_leaves : (k : Connector) (l : L) {s u : Simple L} {x y : Sort} → Sorted s x → Sorted u y → LeafIn l (as_tree (both_by k x y s u))
      → LeafIn l (as_tree s) ⊎ LeafIn l (as_tree u)
  both_leaves k l is_nothing e i = inl i
  both_leaves k l is_blank e i = inr i
  both_leaves k l (is_proper p) is_nothing i = inr i
  both_leaves k l (is_proper p) is_blank i = inl i
  both_leaves k l (is_proper p) (is_proper q) (f.of_first i) = inl i
  both_leaves k l (is_proper p) (is_proper q) (f.of_second i) = inr i
  both_leaves k l (is_proper p) (is_proper q) (f.of_others i) = elim i [ ]

  -- a leaf of two joined sides is a leaf of a side
  pub join_leaves : (k : Connector) (l : L) (s u : Simple L) → LeafIn l (as_tree (join k s u)) → LeafIn l (as_tree s) ⊎ LeafIn l (as_tree u)
  join_leaves choice l s u = choice_leaves l (sorted s) (sorted u)
  join_leaves group l s u = both_leaves group l (sorted s) (sorted u)
  join_leaves interleave l s u = both_leaves interleave l (sorted s) (sorted u)
