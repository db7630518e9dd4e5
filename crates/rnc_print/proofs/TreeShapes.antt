-- The shape of a tree of a simple grammar and the list of its leaves determine it.
use Rattle.std.proofs.Common.{◌≡◌, ◌∙◌, ℕ, ◌<◌, List, [], ◌∷◌, ◌++◌, map, refl, sym, ap, append_assoc}
use Rattle.std.specs.List.{AllByRecursion}
use Rattle.std.proofs.lemmas.List.{map-append}
use Rattle.rng_model.specs.simple.Leaves.{LeafIn, here, of_attribute, of_list, of_except, of_one_or_more, of_first, of_second, AreLeavesBelow, renamed}
use Rattle.rng_model.specs.simple.Tree.{Tree, as_tree, not_allowed, empty, text, leaf, attribute, list, data_of, data_except, value, mixed, optional, zero_or_more}
use Rattle.rng_model.specs.simple.Tree.{one_or_more, joined}
use Rattle.rng_model.specs.simple.Tree.{Simple, s_not_allowed, s_empty, s_text, s_leaf, s_attribute, s_list, s_data, s_data_except, s_value, s_one_or_more, s_joined}
use Rattle.rnc_print.specs.plain.Renumbered.{renumbered}
use Rattle.rnc_print.proofs.Numberings.{all_append}

-- ---- shape and leaves

abbrev shape : {L : Type 0} → Simple L → Simple (Unit {0})
shape s = renumbered (λ l. tt) s

abbrev pub leaves : {L : Type 0} → Simple L → List L
leaves s_not_allowed = []
leaves s_empty = []
leaves s_text = []
leaves (s_leaf l) = l ∷ []
leaves (s_attribute c s) = leaves s
leaves (s_list s) = leaves s
leaves (s_data d) = []
leaves (s_data_except d s) = leaves s
leaves (s_value d v) = []
leaves (s_one_or_more s) = leaves s
leaves (s_joined k s u) = leaves s ++ leaves u

abbrev with_leaf : {L : Type 0} → List L → Simple L × List L
with_leaf [] = (s_not_allowed, [])
with_leaf (l ∷ ls) = (s_leaf l, ls)

-- the tree of this shape with these leaves, and the leaves that are left
abbrev filled : {L : Type 0} → Simple (Unit {0}) → List L → Simple L × List L
filled s_not_allowed ls = (s_not_allowed, ls)
filled s_empty ls = (s_empty, ls)
filled s_text ls = (s_text, ls)
filled (s_leaf l) ls = with_leaf ls
filled (s_attribute c s) ls = (s_attribute c (filled s ls).0, (filled s ls).1)
filled (s_list s) ls = (s_list (filled s ls).0, (filled s ls).1)
filled (s_data d) ls = (s_data d, ls)
filled (s_data_except d s) ls = (s_data_except d (filled s ls).0, (filled s ls).1)
filled (s_value d v) ls = (s_value d v, ls)
filled (s_one_or_more s) ls = (s_one_or_more (filled s ls).0, (filled s ls).1)
filled (s_joined k s u) ls = (s_joined k (filled s ls).0 (filled u (filled s ls).1).0, (filled u (filled s ls).1).1)

filled_again : {L : Type 0} (s : Simple L) (rest : List L) → filled (shape s) (leaves s ++ rest) ≡ (s, rest)
filled_again s_not_allowed rest = refl
filled_again s_empty rest = refl
filled_again s_text rest = refl
filled_again (s_leaf l) rest = refl
filled_again (s_attribute c s) rest = rw (filled_again s rest) refl
filled_again (s_list s) rest = rw (filled_again s rest) refl
filled_again (s_data d) rest = refl
filled_again (s_data_except d s) rest = rw (filled_again s rest) refl
filled_again (s_value d v) rest = refl
filled_again (s_one_or_more s) rest = rw (filled_again s rest) refl
filled_again (s_joined k s u) rest = rw (append_assoc (leaves s) (leaves u) rest, filled_again s (leaves u ++ rest), filled_again u rest) refl

pub same_by_leaves : {L : Type 0} (s u : Simple L) → shape s ≡ shape u → leaves s ≡ leaves u → s ≡ u
same_by_leaves s u e f =
    ap (λ r. r.0) (sym (filled_again s []) ∙ ap (λ x. filled x (leaves s ++ [])) e ∙ ap (λ x. filled (shape u) (x ++ [])) f ∙ filled_again u [])

-- ---- with other names for the leaves

module _ {K L : Type 0} (f : K → L) where
  same_shape : (s : Simple K) → shape (renumbered f s) ≡ shape s
  same_shape s_not_allowed = refl
  same_shape s_empty = refl
  same_shape s_text = refl
  same_shape (s_leaf l) = refl
  same_shape (s_attribute c s) = ap (s_attribute c) (same_shape s)
  same_shape (s_list s) = rw (same_shape s) refl
  same_shape (s_data d) = refl
  same_shape (s_data_except d s) = ap (s_data_except d) (same_shape s)
  same_shape (s_value d v) = refl
  same_shape (s_one_or_more s) = rw (same_shape s) refl
  same_shape (s_joined k s u) = rw (same_shape s, same_shape u) refl

  leaves_of : (s : Simple K) → leaves (renumbered f s) ≡ map f (leaves s)
  leaves_of s_not_allowed = refl
  leaves_of s_empty = refl
  leaves_of s_text = refl
  leaves_of (s_leaf l) = refl
  leaves_of (s_attribute c s) = leaves_of s
  leaves_of (s_list s) = leaves_of s
  leaves_of (s_data d) = refl
  leaves_of (s_data_except d s) = leaves_of s
  leaves_of (s_value d v) = refl
  leaves_of (s_one_or_more s) = leaves_of s
  leaves_of (s_joined k s u) = rw (leaves_of s, leaves_of u) (sym (map-append f (leaves s) (leaves u)))

  pub tree_of : (s : Simple K) → as_tree (renumbered f s) ≡ renamed f (as_tree s)
  tree_of s_not_allowed = refl
  tree_of s_empty = refl
  tree_of s_text = refl
  tree_of (s_leaf l) = refl
  tree_of (s_attribute c s) = ap (attribute c) (tree_of s)
  tree_of (s_list s) = rw (tree_of s) refl
  tree_of (s_data d) = refl
  tree_of (s_data_except d s) = ap (data_except d) (tree_of s)
  tree_of (s_value d v) = refl
  tree_of (s_one_or_more s) = rw (tree_of s) refl
  tree_of (s_joined k s u) = rw (tree_of s, tree_of u) refl

renumbered_twice : {J K L : Type 0} (f : J → K) (g : K → L) (s : Simple J) → renumbered g (renumbered f s) ≡ renumbered (λ j. g (f j)) s
renumbered_twice f g s_not_allowed = refl
renumbered_twice f g s_empty = refl
renumbered_twice f g s_text = refl
renumbered_twice f g (s_leaf l) = refl
renumbered_twice f g (s_attribute c s) = ap (s_attribute c) (renumbered_twice f g s)
renumbered_twice f g (s_list s) = rw (renumbered_twice f g s) refl
renumbered_twice f g (s_data d) = refl
renumbered_twice f g (s_data_except d s) = ap (s_data_except d) (renumbered_twice f g s)
renumbered_twice f g (s_value d v) = refl
renumbered_twice f g (s_one_or_more s) = rw (renumbered_twice f g s) refl
renumbered_twice f g (s_joined k s u) = rw (renumbered_twice f g s, renumbered_twice f g u) refl

-- renaming leaves that were renumbered is renaming the first leaves by both steps
pub renamed_renumbered : {J K L : Type 0} (f : J → K) (g : K → L) (s : Simple J) → renamed g (as_tree (renumbered f s)) ≡ renamed (λ j. g (f j)) (as_tree s)
renamed_renumbered f g s = sym (tree_of g (renumbered f s)) ∙ ap as_tree (renumbered_twice f g s) ∙ tree_of (λ j. g (f j)) s

-- ---- trees as they are written

abbrev simple_of : {L : Type 0} → Tree L → Simple L
simple_of not_allowed = s_not_allowed
simple_of empty = s_empty
simple_of text = s_text
simple_of (leaf l) = s_leaf l
simple_of (attribute c a) = s_attribute c (simple_of a)
simple_of (list a) = s_list (simple_of a)
simple_of (data_of d) = s_data d
simple_of (data_except d a) = s_data_except d (simple_of a)
simple_of (value d v) = s_value d v
simple_of (mixed a) = s_empty
simple_of (optional a) = s_empty
simple_of (zero_or_more a) = s_empty
simple_of (one_or_more a) = s_one_or_more (simple_of a)
simple_of (joined k a b ts) = s_joined k (simple_of a) (simple_of b)

simple_again : {L : Type 0} (s : Simple L) → simple_of (as_tree s) ≡ s
simple_again s_not_allowed = refl
simple_again s_empty = refl
simple_again s_text = refl
simple_again (s_leaf l) = refl
simple_again (s_attribute c s) = ap (s_attribute c) (simple_again s)
simple_again (s_list s) = rw (simple_again s) refl
simple_again (s_data d) = refl
simple_again (s_data_except d s) = ap (s_data_except d) (simple_again s)
simple_again (s_value d v) = refl
simple_again (s_one_or_more s) = rw (simple_again s) refl
simple_again (s_joined k s u) = rw (simple_again s, simple_again u) refl

same_renumbered : {J K L : Type 0} (f : J → L) (g : K → L) (s : Simple J) (u : Simple K) → renamed f (as_tree s) ≡ renamed g (as_tree u)
    → renumbered f s ≡ renumbered g u
same_renumbered f g s u e =
    sym (simple_again (renumbered f s)) ∙ ap simple_of (tree_of f s ∙ e ∙ sym (tree_of g u)) ∙ simple_again (renumbered g u)

-- each leaf of the list is one of the tree
all_leaves : {L : Type 0} (P : L → Type 0) (s : Simple L) → ((l : L) → LeafIn l (as_tree s) → P l) → AllByRecursion P (leaves s)
all_leaves P s_not_allowed h = tt
all_leaves P s_empty h = tt
all_leaves P s_text h = tt
all_leaves P (s_leaf l) h = (h l here, tt)
all_leaves P (s_attribute c s) h = all_leaves P s (λ l i. h l (of_attribute i))
all_leaves P (s_list s) h = all_leaves P s (λ l i. h l (of_list i))
all_leaves P (s_data d) h = tt
all_leaves P (s_data_except d s) h = all_leaves P s (λ l i. h l (of_except i))
all_leaves P (s_value d v) h = tt
all_leaves P (s_one_or_more s) h = all_leaves P s (λ l i. h l (of_one_or_more i))
all_leaves P (s_joined k s u) h = all_append P (leaves s) (leaves u) (all_leaves P s (λ l i. h l (of_first i))) (all_leaves P u (λ l i. h l (of_second i)))

-- each leaf is one of the first n numbers
abbrev pub IsBelow : ℕ → Simple ℕ → Type 0
IsBelow n s_not_allowed = Unit {0}
IsBelow n s_empty = Unit {0}
IsBelow n s_text = Unit {0}
IsBelow n (s_leaf k) = k < n
IsBelow n (s_attribute c a) = IsBelow n a
IsBelow n (s_list a) = IsBelow n a
IsBelow n (s_data d) = Unit {0}
IsBelow n (s_data_except d a) = IsBelow n a
IsBelow n (s_value d v) = Unit {0}
IsBelow n (s_one_or_more a) = IsBelow n a
IsBelow n (s_joined k a b) = IsBelow n a × IsBelow n b

pub is_below : (n : ℕ) (s : Simple ℕ) → AreLeavesBelow n (as_tree s) → IsBelow n s
is_below n s_not_allowed h = tt
is_below n s_empty h = tt
is_below n s_text h = tt
is_below n (s_leaf k) h = h k here
is_below n (s_attribute c s) h = is_below n s (λ l i. h l (of_attribute i))
is_below n (s_list s) h = is_below n s (λ l i. h l (of_list i))
is_below n (s_data d) h = tt
is_below n (s_data_except d s) h = is_below n s (λ l i. h l (of_except i))
is_below n (s_value d v) h = tt
is_below n (s_one_or_more s) h = is_below n s (λ l i. h l (of_one_or_more i))
is_below n (s_joined k s u) h = (is_below n s (λ l i. h l (of_first i)), is_below n u (λ l i. h l (of_second i)))

-- ---- two names of the same leaves

module _ {L : Type 0} (f h : ℕ → L) (n m : ℕ) (pairing : ℕ → ℕ) (paired : (k : ℕ) → k < n → (pairing k < m) × (h (pairing k) ≡ f k))
    (one_to_one : (i j : ℕ) → i < m → j < m → h i ≡ h j → i ≡ j) where
  same_leaves : (ks js : List ℕ) → AllByRecursion (λ k. k < n) ks → AllByRecursion (λ j. j < m) js → map f ks ≡ map h js → js ≡ map pairing ks
  same_leaves [] [] a b e = refl
  same_leaves [] (j ∷ js) a b e = absurd (cc)
  same_leaves (k ∷ ks) [] a b e = absurd (cc)
  same_leaves (k ∷ ks) (j ∷ js) a b e =
      let first : f k ≡ h j = cc in
      let rest : map f ks ≡ map h js = cc in
      let both = paired k a.0 in
      let one : j ≡ pairing k = one_to_one j (pairing k) b.0 both.0 (sym first ∙ sym both.1) in
      ap (λ x. x ∷ js) one ∙ ap (λ xs. pairing k ∷ xs) (same_leaves ks js a.1 b.1 rest)

  -- the second tree is the first one with the paired numbers
  pub paired_tree : (s u : Simple ℕ) → AreLeavesBelow n (as_tree s) → AreLeavesBelow m (as_tree u) → renamed f (as_tree s) ≡ renamed h (as_tree u)
      → u ≡ renumbered pairing s
  paired_tree s u a b e =
      let same = same_renumbered f h s u e in
      same_by_leaves u (renumbered pairing s)
      (sym (same_shape h u) ∙ ap shape (sym same) ∙ same_shape f s ∙ sym (same_shape pairing s))
      (same_leaves (leaves s) (leaves u) (all_leaves (λ k. k < n) s a) (all_leaves (λ j. j < m) u b) (sym (leaves_of f s) ∙ ap leaves same ∙ leaves_of h u)
      ∙ sym (leaves_of pairing s))
