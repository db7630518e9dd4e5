-- Some patterns of a table, in another table.
use Rattle.std.specs.Prelude.{◌≡◌, ◌<◌, List, length}
use Rattle.std.specs.List.{AllZip}
use Rattle.rng_model.specs.simple.Table.{Table}
use Rattle.rng_deriv_table.specs.views.Node.{Node}
use Rattle.rng_deriv_table.specs.views.Trees.{tree_of}
use Rattle.rng_deriv_table.specs.declared.pattern.PatternNumber.{PatternNumber}

-- the number in the new table represents the same tree as the one in the old table
abbrev pub IsSameTree : Table → List Node → List Node → PatternNumber → PatternNumber → Type 0
IsSameTree t old new m n = (n.0 < length new) × (tree_of t new n.0 ≡ tree_of t old m.0)

-- the same for each number and its partner
abbrev pub AreSameTrees : Table → List Node → List Node → List PatternNumber → List PatternNumber → Type 0
AreSameTrees t old new ms ns = AllZip (IsSameTree t old new) ms ns
