-- A tree in the simple syntax is determined by its tree as written.
use Rattle.std.proofs.Common.{◌≡◌, refl, ap, sym, ◌∙◌}
use Rattle.rng_model.specs.simple.Tree.{Tree, not_allowed, empty, text, leaf, attribute, list, data_of, data_except, value, mixed, optional, zero_or_more, one_or_more}
use Rattle.rng_model.specs.simple.Tree.{joined, Simple, s_not_allowed, s_empty, s_text, s_leaf, s_attribute, s_list, s_data, s_data_except, s_value}
use Rattle.rng_model.specs.simple.Tree.{s_one_or_more, s_joined, as_tree}

module _ {L : Type 0} where
  -- the simple tree of the tree, if it has one
  unfoldable read_off : Tree L → Simple L
  read_off not_allowed = s_not_allowed
  read_off empty = s_empty
  read_off text = s_text
  read_off (leaf l) = s_leaf l
  read_off (attribute c a) = s_attribute c (read_off a)
  read_off (list a) = s_list (read_off a)
  read_off (data_of d) = s_data d
  read_off (data_except d a) = s_data_except d (read_off a)
  read_off (value d v) = s_value d v
  read_off (mixed a) = s_empty
  read_off (optional a) = s_empty
  read_off (zero_or_more a) = s_empty
  read_off (one_or_more a) = s_one_or_more (read_off a)
  read_off (joined k a b ts) = s_joined k (read_off a) (read_off b)

  reads_back : (p : Simple L) → read_off (as_tree p) ≡ p
  unfolding read_off
  reads_back s_not_allowed = refl
  reads_back s_empty = refl
  reads_back s_text = refl
  reads_back (s_leaf l) = refl
  reads_back (s_attribute c p) = ap (s_attribute c) (reads_back p)
  reads_back (s_list p) = ap s_list (reads_back p)
  reads_back (s_data d) = refl
  reads_back (s_data_except d p) = ap (s_data_except d) (reads_back p)
  reads_back (s_value d v) = refl
  reads_back (s_one_or_more p) = ap s_one_or_more (reads_back p)
  reads_back (s_joined k p q) = let e = reads_back p in let f = reads_back q in cc

  pub same_simple : {p q : Simple L} → as_tree p ≡ as_tree q → p ≡ q
  same_simple {p} {q} e = sym (reads_back p) ∙ (ap read_off e ∙ reads_back q)
