-- The plain function that fills a table of simple forms: the simple form of a pattern, given that of each of its
-- points. Private contracts cite it.
use Rattle.rng_model.specs.simple.Tree.{Connector, choice, interleave}
use Rattle.rng_model.specs.simple.Tree.{Tree, not_allowed, empty, text, leaf, attribute, list, data_of, data_except, value, mixed, optional, zero_or_more, one_or_more}
use Rattle.rng_model.specs.simple.Tree.{joined, Trees, no_trees, tree_and}
use Rattle.rng_model.specs.simple.Tree.{Simple, s_not_allowed, s_empty, s_text, s_data, s_value}
use Rattle.rng_model.specs.schema.Patterns.{Place, Point}
use Rattle.rng_model.specs.schema.Schema.{Schema, Definition}
use Rattle.rng_model.specs.schema.Unfolding.{Leaf, aim}
use Rattle.rng_simple.specs.plain.InTwos.{nested}
use Rattle.rng_simple.specs.plain.DepthWith.{of_aim}
use Rattle.rng_simple.specs.plain.SimpleOf.{sort_of, attribute_by, list_by, except_by, join, some_of}

-- the simple form, given that of the tree of each point
unfoldable mutual
  pub simple_with : {P L : Type 0} → (P → Simple L) → Tree P → Simple L
  simple_with g not_allowed = s_not_allowed
  simple_with g empty = s_empty
  simple_with g text = s_text
  simple_with g (leaf l) = g l
  simple_with g (attribute c a) = let s = simple_with g a in attribute_by (sort_of s) (nested c) s
  simple_with g (list a) = let s = simple_with g a in list_by (sort_of s) s
  simple_with g (data_of d) = s_data d
  simple_with g (data_except d a) = let s = simple_with g a in except_by (sort_of s) d s
  simple_with g (value d v) = s_value d v
  simple_with g (mixed a) = join interleave (simple_with g a) s_text
  simple_with g (optional a) = join choice (simple_with g a) s_empty
  simple_with g (zero_or_more a) = join choice (some_of (simple_with g a)) s_empty
  simple_with g (one_or_more a) = some_of (simple_with g a)
  simple_with g (joined k a b ts) = join_all_with g k (join k (simple_with g a) (simple_with g b)) ts

  -- what is joined already, and the members after it
  pub join_all_with : {P L : Type 0} → (P → Simple L) → Connector → Simple L → Trees P → Simple L
  join_all_with g k s no_trees = s
  join_all_with g k s (tree_and a ts) = join_all_with g k (join k s (simple_with g a)) ts

-- the simple form of a pattern at a place, given those of the definitions and of the elements
abbrev pub simple_at : {L : Type 0} → Schema → (Leaf → Simple L) → (Definition → Simple L) → Place → Tree Point → Simple L
simple_at s name table x a = simple_with (λ l. of_aim name s_not_allowed table (aim s x l)) a
