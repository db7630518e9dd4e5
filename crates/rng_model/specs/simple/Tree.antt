-- Trees of patterns, as they are written and in simple form. An element is a leaf with a name in `L`.
use Rattle.std.specs.Prelude.{ℕ, List}
use Rattle.rng_model.specs.names.Names.{NameClass}

-- a datatype: its library, its name there, and its parameters in the order in which they are written
-- (RELAX NG Specification, section 2)
pub record Datatype : Type 0 where
  pub library : List ℕ
  pub name : List ℕ
  pub parameters : List (List ℕ × List ℕ)

-- the connector of members: `|`, `,` or `&`
pub data Connector : Type 0 where
  choice : Connector
  group : Connector
  interleave : Connector

-- a tree as it is written: two or more members joined by a connector (RELAX NG Specification, section 3)
mutual
  pub data Tree (L : Type 0) : Type 0 where
    not_allowed : Tree L
    empty : Tree L
    text : Tree L
    leaf : L → Tree L
    attribute : NameClass → Tree L → Tree L
    list : Tree L → Tree L
    data_of : Datatype → Tree L
    data_except : Datatype → Tree L → Tree L
    value : Datatype → List ℕ → Tree L
    mixed : Tree L → Tree L
    optional : Tree L → Tree L
    zero_or_more : Tree L → Tree L
    one_or_more : Tree L → Tree L
    joined : Connector → Tree L → Tree L → Trees L → Tree L

  pub data Trees (L : Type 0) : Type 0 where
    no_trees : Trees L
    tree_and : Tree L → Trees L → Trees L

-- a tree in the simple syntax: two sides joined by a connector (RELAX NG Specification, section 5)
pub data Simple (L : Type 0) : Type 0 where
  s_not_allowed : Simple L
  s_empty : Simple L
  s_text : Simple L
  s_leaf : L → Simple L
  s_attribute : NameClass → Simple L → Simple L
  s_list : Simple L → Simple L
  s_data : Datatype → Simple L
  s_data_except : Datatype → Simple L → Simple L
  s_value : Datatype → List ℕ → Simple L
  s_one_or_more : Simple L → Simple L
  s_joined : Connector → Simple L → Simple L → Simple L

-- the same tree, as a tree as written
abbrev pub as_tree : {L : Type 0} → Simple L → Tree L
as_tree s_not_allowed = not_allowed
as_tree s_empty = empty
as_tree s_text = text
as_tree (s_leaf l) = leaf l
as_tree (s_attribute c s) = attribute c (as_tree s)
as_tree (s_list s) = list (as_tree s)
as_tree (s_data d) = data_of d
as_tree (s_data_except d s) = data_except d (as_tree s)
as_tree (s_value d v) = value d v
as_tree (s_one_or_more s) = one_or_more (as_tree s)
as_tree (s_joined k s u) = joined k (as_tree s) (as_tree u) no_trees
