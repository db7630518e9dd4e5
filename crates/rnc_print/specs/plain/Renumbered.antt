-- Two simple grammars that differ only in the numbers of their elements.
use Rattle.std.specs.Prelude.{◌≡◌, ℕ, ◌<◌, Some, length, slice_get}
use Rattle.rng_model.specs.names.Names.{NameClass}
use Rattle.rng_model.specs.simple.Leaves.{AreLeavesBelow}
use Rattle.rng_model.specs.simple.Tree.{Simple, s_not_allowed, s_empty, s_text, s_leaf, s_attribute, s_list, s_data, s_data_except, s_value, s_one_or_more, s_joined}
use Rattle.rng_model.specs.simple.Tree.{as_tree}
use Rattle.rng_model.specs.simple.Grammar.{Grammar}

-- the tree with other names of its leaves
abbrev pub renumbered : {K L : Type 0} → (K → L) → Simple K → Simple L
renumbered f s_not_allowed = s_not_allowed
renumbered f s_empty = s_empty
renumbered f s_text = s_text
renumbered f (s_leaf k) = s_leaf (f k)
renumbered f (s_attribute c a) = s_attribute c (renumbered f a)
renumbered f (s_list a) = s_list (renumbered f a)
renumbered f (s_data d) = s_data d
renumbered f (s_data_except d a) = s_data_except d (renumbered f a)
renumbered f (s_value d v) = s_value d v
renumbered f (s_one_or_more a) = s_one_or_more (renumbered f a)
renumbered f (s_joined k a b) = s_joined k (renumbered f a) (renumbered f b)

-- The first function gives each element of the first grammar a number of the second, and maps start, name classes and
-- bodies. The other function leads back. Each number in the start or in a body is that of an element.
pub record IsCarriedOver (to back : ℕ → ℕ) (g h : Grammar) : Type 0 where
  pub start : h.start ≡ renumbered to g.start
  pub start_below : AreLeavesBelow (length g.elements) (as_tree g.start)
  pub elements : (k : ℕ) (c : NameClass) (p : Simple ℕ) → slice_get g.elements k ≡ Some (c, p) →
      (slice_get h.elements (to k) ≡ Some (c, renumbered to p)) × AreLeavesBelow (length g.elements) (as_tree p)
  pub leads_back : (k : ℕ) → k < length g.elements → back (to k) ≡ k

-- a pairing of the elements of both grammars, one to one and onto, maps start, name classes and bodies, in both
-- directions
pub record AreSameUpToNumbering (g h : Grammar) : Type 0 where
  pub pairing : ℕ → ℕ
  pub back : ℕ → ℕ
  pub there : IsCarriedOver pairing back g h
  pub back_again : IsCarriedOver back pairing h g
