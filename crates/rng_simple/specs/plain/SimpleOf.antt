-- The plain function that simplifies a tree, from the leaves up (RELAX NG Specification, sections 4.12 to 4.15, 4.20
-- and 4.21). Private contracts cite it; `Step` and `SimpleForm` of `rng_model` state what it must return.
use Rattle.rng_model.specs.names.Names.{NameClass}
use Rattle.rng_model.specs.simple.Tree.{Datatype, Connector, choice, group, interleave}
use Rattle.rng_model.specs.simple.Tree.{Tree, not_allowed, empty, text, leaf, attribute, list, data_of, data_except, value, mixed, optional, zero_or_more, one_or_more}
use Rattle.rng_model.specs.simple.Tree.{joined, Trees, no_trees, tree_and}
use Rattle.rng_model.specs.simple.Tree.{Simple, s_not_allowed, s_empty, s_text, s_leaf, s_attribute, s_list, s_data, s_data_except, s_value, s_one_or_more, s_joined}
use Rattle.rng_simple.specs.plain.InTwos.{nested}

-- what the rules need to know of a side: notAllowed, empty, or something else
pub data Sort : Type 0 where
  nothing : Sort
  blank : Sort
  proper : Sort

-- which of these a tree is
abbrev pub sort_of : {L : Type 0} → Simple L → Sort
sort_of s_not_allowed = nothing
sort_of s_empty = blank
sort_of _ = proper

-- an attribute with a body of this sort; it is notAllowed if the body is (4.20)
abbrev pub attribute_by : {L : Type 0} → Sort → NameClass → Simple L → Simple L
attribute_by nothing c s = s_not_allowed
attribute_by _ c s = s_attribute c s

-- a list, in the same way (4.20)
abbrev pub list_by : {L : Type 0} → Sort → Simple L → Simple L
list_by nothing s = s_not_allowed
list_by _ s = s_list s

-- a datatype with an except, which is left out if it is notAllowed (4.20)
abbrev pub except_by : {L : Type 0} → Sort → Datatype → Simple L → Simple L
except_by nothing d s = s_data d
except_by _ d s = s_data_except d s

-- one or more of a pattern: notAllowed and empty are unchanged (4.20, 4.21)
abbrev pub one_or_more_by : {L : Type 0} → Sort → Simple L → Simple L
one_or_more_by nothing s = s_not_allowed
one_or_more_by blank s = s_empty
one_or_more_by proper s = s_one_or_more s

-- a choice of two sides: without a notAllowed side, and with empty as its first side (4.20, 4.21)
abbrev pub choice_by : {L : Type 0} → Sort → Sort → Simple L → Simple L → Simple L
choice_by nothing _ s u = u
choice_by blank nothing s u = s
choice_by proper nothing s u = s
choice_by blank blank s u = s_empty
choice_by proper blank s u = s_joined choice s_empty s
choice_by _ proper s u = s_joined choice s u

-- a group or an interleave of two sides: notAllowed if one is, and without an empty side (4.20, 4.21)
abbrev pub both_by : {L : Type 0} → Connector → Sort → Sort → Simple L → Simple L → Simple L
both_by k nothing _ s u = s_not_allowed
both_by k blank _ s u = u
both_by k proper nothing s u = s_not_allowed
both_by k proper blank s u = s
both_by k proper proper s u = s_joined k s u

-- two sides of these sorts with a connector
abbrev pub joined_by : {L : Type 0} → Connector → Sort → Sort → Simple L → Simple L → Simple L
joined_by choice = choice_by
joined_by group = both_by group
joined_by interleave = both_by interleave

-- two simple sides with a connector
abbrev pub join : {L : Type 0} → Connector → Simple L → Simple L → Simple L
join k s u = joined_by k (sort_of s) (sort_of u) s u

-- one or more of a simple tree
abbrev pub some_of : {L : Type 0} → Simple L → Simple L
some_of s = one_or_more_by (sort_of s) s

-- the simple form of a tree
unfoldable mutual
  pub simple_of : {L : Type 0} → Tree L → Simple L
  simple_of not_allowed = s_not_allowed
  simple_of empty = s_empty
  simple_of text = s_text
  simple_of (leaf l) = s_leaf l
  simple_of (attribute c a) = let s = simple_of a in attribute_by (sort_of s) (nested c) s
  simple_of (list a) = let s = simple_of a in list_by (sort_of s) s
  simple_of (data_of d) = s_data d
  simple_of (data_except d a) = let s = simple_of a in except_by (sort_of s) d s
  simple_of (value d v) = s_value d v
  simple_of (mixed a) = join interleave (simple_of a) s_text
  simple_of (optional a) = join choice (simple_of a) s_empty
  simple_of (zero_or_more a) = join choice (some_of (simple_of a)) s_empty
  simple_of (one_or_more a) = some_of (simple_of a)
  simple_of (joined k a b ts) = join_all k (join k (simple_of a) (simple_of b)) ts

  -- what is joined already, and the members after it (4.12)
  pub join_all : {L : Type 0} → Connector → Simple L → Trees L → Simple L
  join_all k s no_trees = s
  join_all k s (tree_and a ts) = join_all k (join k s (simple_of a)) ts
