-- The trees of rows, one row at a time, and with more labels.
use Rattle.std.proofs.Common.{◌≡◌, refl, ap, ap₂, ◌∙◌, ℕ, ◌<◌, List, [], ◌∷◌, ◌++◌, length, fold, slice_get, slice_index_or, Some, arith}
use Rattle.std.proofs.Common.{length-append, suc}
use Rattle.std.proofs.lemmas.List.{get_or_append_left}
use Rattle.rng_model.specs.simple.Tree.{choice, group, interleave}
use Rattle.rng_model.specs.simple.Tree.{Simple, s_not_allowed, s_attribute, s_list, s_data, s_data_except, s_value, s_one_or_more, s_joined}
use Rattle.rng_model.proofs.NumberedTrees as numbered
use Rattle.rng_model.specs.names.Names.{any_name}
use Rattle.rng_simple.specs.declared.rows.Row.{Row}
use Rattle.rng_simple.specs.declared.rows.Row.TheVariants as row
use Rattle.rng_simple.specs.views.Rows.{Labels, no_datatype, class_at, datatype_at, row_tree, with_tree, trees, tree_at, AreChildrenBelow, IsLabelled}
use Rattle.rng_simple.specs.views.Rows.{Falls, AreLabelled, AreMoreLabels}

-- ---- one row at a time

module _ (l : Labels) where
  pub reads_below : (r : Row) (i : ℕ) → AreChildrenBelow i r → numbered.ReadsBelow s_not_allowed (row_tree l) i r
  reads_below (row.Attribute c a) i h f g same = ap (s_attribute (class_at l c)) (same a h)
  reads_below (row.List a) i h f g same = ap s_list (same a h)
  reads_below (row.DataExcept d a) i h f g same = ap (s_data_except (datatype_at l d)) (same a h)
  reads_below (row.OneOrMore a) i h f g same = ap s_one_or_more (same a h)
  reads_below (row.Choice a b) i h f g same = ap₂ (s_joined choice) (same a h.0) (same b h.1)
  reads_below (row.Group a b) i h f g same = ap₂ (s_joined group) (same a h.0) (same b h.1)
  reads_below (row.Interleave a b) i h f g same = ap₂ (s_joined interleave) (same a h.0) (same b h.1)
  reads_below _ i h f g same = refl

  -- the tree of a row is made of the trees of its children
  pub tree_at-over_children : (rs : List Row) (i : ℕ) (r : Row) → Falls rs → slice_get rs i ≡ Some r → tree_at l rs i ≡ row_tree l (tree_at l rs) r
  unfolding trees
  tree_at-over_children rs i r falls found = numbered.tree_of-over_children s_not_allowed (row_tree l) rs i r (reads_below r i (falls i r found)) found

  -- the tree of an appended row is made of the trees so far
  pub tree_of_pushed : (rs qs : List Row) (r : Row) (i : ℕ) → qs ≡ rs ++ r ∷ [] → i ≡ length rs → tree_at l qs i ≡ row_tree l (tree_at l rs) r
  unfolding trees
  tree_of_pushed rs qs r i more at = numbered.tree_of_pushed s_not_allowed (row_tree l) rs qs r i more at

  -- and no other tree changes
  pub tree_stays_after_push : (rs qs : List Row) (r : Row) (i : ℕ) → qs ≡ rs ++ r ∷ [] → i < length rs → tree_at l qs i ≡ tree_at l rs i
  unfolding trees
  tree_stays_after_push rs qs r i more inside = numbered.tree_stays s_not_allowed (row_tree l) rs qs (r ∷ []) i more inside

  -- past the end is notAllowed
  pub length-trees : (rs : List Row) → length (trees l rs) ≡ length rs
  unfolding trees
  length-trees rs = numbered.length-trees s_not_allowed (row_tree l) rs

-- ---- with more labels

at_front : {A : Type 0} (xs ys more : List A) (i : ℕ) (none : A) → ys ≡ xs ++ more → i < length xs → slice_index_or ys i none ≡ slice_index_or xs i none
at_front xs ys more i none e h = ap (λ zs. slice_index_or zs i none) e ∙ get_or_append_left xs more none i h

module _ (old new : Labels) (m : AreMoreLabels old new) where
  row_stays : (of : ℕ → Simple ℕ) (r : Row) → IsLabelled old r → row_tree new of r ≡ row_tree old of r
  row_stays of (row.Attribute c a) h = ap (λ d. s_attribute d (of a)) (at_front old.classes new.classes m.classes c any_name m.more_classes h)
  row_stays of (row.Data d) h = ap s_data (at_front old.datatypes new.datatypes m.datatypes d no_datatype m.more_datatypes h)
  row_stays of (row.DataExcept d a) h = ap (λ e. s_data_except e (of a)) (at_front old.datatypes new.datatypes m.datatypes d no_datatype m.more_datatypes h)
  row_stays of (row.Value v) h = ap (λ x. s_value x.0 x.1) (at_front old.values new.values m.values v (no_datatype, []) m.more_values h)
  row_stays of _ h = refl

  longer_is_labelled : (r : Row) → IsLabelled old r → IsLabelled new r
  longer_is_labelled (row.Attribute c a) h = omega (arith, h, ap length m.more_classes, length-append old.classes m.classes)
  longer_is_labelled (row.Data d) h = omega (arith, h, ap length m.more_datatypes, length-append old.datatypes m.datatypes)
  longer_is_labelled (row.DataExcept d a) h = omega (arith, h, ap length m.more_datatypes, length-append old.datatypes m.datatypes)
  longer_is_labelled (row.Value v) h = omega (arith, h, ap length m.more_values, length-append old.values m.values)
  longer_is_labelled row.NotAllowed h = tt
  longer_is_labelled row.Empty h = tt
  longer_is_labelled row.Text h = tt
  longer_is_labelled (row.Element k) h = tt
  longer_is_labelled (row.List a) h = tt
  longer_is_labelled (row.OneOrMore a) h = tt
  longer_is_labelled (row.Choice a b) h = tt
  longer_is_labelled (row.Group a b) h = tt
  longer_is_labelled (row.Interleave a b) h = tt

  pub stay_labelled : (rs : List Row) → AreLabelled old rs → AreLabelled new rs
  stay_labelled rs h i r e = longer_is_labelled r (h i r e)

  fold_stays : (ts : List (Simple ℕ)) (rs : List Row) → AreLabelled old rs → fold (with_tree new) ts rs ≡ fold (with_tree old) ts rs
  fold_stays ts [] h = refl
  fold_stays ts (r ∷ rs) h =
      ap (λ t. fold (with_tree new) (ts ++ t ∷ []) rs) (row_stays (λ i. slice_index_or ts i s_not_allowed) r (h 0 r refl))
      ∙ fold_stays (with_tree old ts r) rs (λ i q e. h (suc i) q e)

  -- no tree changes
  pub trees_stay : (rs : List Row) → AreLabelled old rs → (i : ℕ) → tree_at new rs i ≡ tree_at old rs i
  unfolding trees
  trees_stay rs h i = ap (λ ts. slice_index_or ts i s_not_allowed) (fold_stays [] rs h)
