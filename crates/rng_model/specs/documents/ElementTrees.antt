-- Documents as trees of elements, whatever they are read from (RELAX NG Specification, section 2).
use Rattle.std.specs.Prelude.{◌≡◌, ℕ, List}
use Rattle.rng_model.specs.names.Names.{Name}
use Rattle.rng_model.specs.matching.Document.{Attribute, an_element}
use Rattle.rng_model.specs.plain.WellFormed.{IsWellFormed}
use Rattle.rng_model.specs.documents.PyxTrees.{Placed, PlacedItems, element_at, items_of}

-- the tree is an element, and is well-formed
pub record IsElementTree (tree : Placed) : Type 0 where
  pub line : ℕ
  pub name : Name
  pub attributes : List Attribute
  pub kids : PlacedItems
  pub last : ℕ
  pub is : tree ≡ element_at line name attributes kids last
  pub formed : IsWellFormed (an_element name attributes (items_of kids))
