-- The leaves of trees, trees with their leaves under other names, and the depth of a tree in the simple syntax and of a
-- name class (profile: clause S17).
use Rattle.std.specs.Prelude.{ℕ, ◌<◌, ◌+◌, max}
use Rattle.rng_model.specs.names.Names.{NameClass, any_except, ns_except, one_of, NameClasses, no_classes, class_and}
use Rattle.rng_model.specs.simple.Tree.{Datatype, Connector, Tree, not_allowed, empty, text, leaf, attribute, list, data_of, data_except, value, mixed}
use Rattle.rng_model.specs.simple.Tree.{optional, zero_or_more, one_or_more, joined, Trees, no_trees, tree_and, Simple}
use Rattle.rng_model.specs.simple.Tree.{s_attribute, s_list, s_data_except, s_one_or_more, s_joined}

-- a leaf of a tree
mutual
  pub data LeafIn {L : Type 0} : L → Tree L → Type 0 where
    here : {l : L} → LeafIn l (leaf l)
    of_attribute : {l : L} {c : NameClass} {a : Tree L} → LeafIn l a → LeafIn l (attribute c a)
    of_list : {l : L} {a : Tree L} → LeafIn l a → LeafIn l (list a)
    of_except : {l : L} {d : Datatype} {a : Tree L} → LeafIn l a → LeafIn l (data_except d a)
    of_mixed : {l : L} {a : Tree L} → LeafIn l a → LeafIn l (mixed a)
    of_optional : {l : L} {a : Tree L} → LeafIn l a → LeafIn l (optional a)
    of_zero_or_more : {l : L} {a : Tree L} → LeafIn l a → LeafIn l (zero_or_more a)
    of_one_or_more : {l : L} {a : Tree L} → LeafIn l a → LeafIn l (one_or_more a)
    of_first : {l : L} {k : Connector} {a b : Tree L} {ts : Trees L} → LeafIn l a → LeafIn l (joined k a b ts)
    of_second : {l : L} {k : Connector} {a b : Tree L} {ts : Trees L} → LeafIn l b → LeafIn l (joined k a b ts)
    of_others : {l : L} {k : Connector} {a b : Tree L} {ts : Trees L} → LeafAmong l ts → LeafIn l (joined k a b ts)

  -- a leaf of one of the trees
  pub data LeafAmong {L : Type 0} : L → Trees L → Type 0 where
    in_this : {l : L} {a : Tree L} {ts : Trees L} → LeafIn l a → LeafAmong l (tree_and a ts)
    in_later : {l : L} {a : Tree L} {ts : Trees L} → LeafAmong l ts → LeafAmong l (tree_and a ts)

-- each leaf of the tree is a number below n
abbrev pub AreLeavesBelow : ℕ → Tree ℕ → Type 0
AreLeavesBelow n a = (k : ℕ) → LeafIn k a → k < n

-- the tree with each leaf under another name
abbrev mutual
  pub renamed : {K L : Type 0} → (K → L) → Tree K → Tree L
  renamed f not_allowed = not_allowed
  renamed f empty = empty
  renamed f text = text
  renamed f (leaf l) = leaf (f l)
  renamed f (attribute c a) = attribute c (renamed f a)
  renamed f (list a) = list (renamed f a)
  renamed f (data_of d) = data_of d
  renamed f (data_except d a) = data_except d (renamed f a)
  renamed f (value d v) = value d v
  renamed f (mixed a) = mixed (renamed f a)
  renamed f (optional a) = optional (renamed f a)
  renamed f (zero_or_more a) = zero_or_more (renamed f a)
  renamed f (one_or_more a) = one_or_more (renamed f a)
  renamed f (joined k a b ts) = joined k (renamed f a) (renamed f b) (all_renamed f ts)

  pub all_renamed : {K L : Type 0} → (K → L) → Trees K → Trees L
  all_renamed f no_trees = no_trees
  all_renamed f (tree_and a ts) = tree_and (renamed f a) (all_renamed f ts)

-- ---- depth

-- A class or a tree without a child has depth 1. Every other one has one more than its deepest child. The child of `* -
-- c` and of `p:* - c` is c.
abbrev mutual
  pub class_depth : NameClass → ℕ
  class_depth (any_except c) = class_depth c + 1
  class_depth (ns_except u c) = class_depth c + 1
  class_depth (one_of c d cs) = max (max (class_depth c) (class_depth d)) (classes_depth cs) + 1
  class_depth _ = 1

  pub classes_depth : NameClasses → ℕ
  classes_depth no_classes = 0
  classes_depth (class_and c cs) = max (class_depth c) (classes_depth cs)

-- the children of an attribute are its name class and its body, the child of a data is its except; an element is a leaf
abbrev pub depth : {L : Type 0} → Simple L → ℕ
depth (s_attribute c s) = max (class_depth c) (depth s) + 1
depth (s_list s) = depth s + 1
depth (s_data_except d s) = depth s + 1
depth (s_one_or_more s) = depth s + 1
depth (s_joined k s u) = max (depth s) (depth u) + 1
depth _ = 1

-- how deep a tree may be
abbrev pub depth_limit : ℕ
depth_limit = 1000
