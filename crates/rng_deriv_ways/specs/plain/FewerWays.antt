-- Ways that can be left out because of others.
use Rattle.std.specs.Prelude.{◌≡◌, ◌⊎◌, List, []}
use Rattle.std.specs.List.{Contains}
use Rattle.rng_model.specs.simple.Table.{Table}
use Rattle.rng_model.specs.matching.GrammarMatching.{Reading}
use Rattle.rng_deriv_laws.specs.plain.Taking.{Takes}
use Rattle.rng_deriv_table.specs.plain.Facts.{LosesFirst}
use Rattle.rng_deriv_table.specs.views.Node.{Node}
use Rattle.rng_deriv_table.specs.views.Trees.{tree_of}
use Rattle.rng_deriv_table.specs.declared.pattern.PatternNumber.{PatternNumber}
use Rattle.rng_deriv_ways.specs.declared.way.LeafWay.{LeafWay}

-- the pattern of this number may be left out
abbrev pub IsOptional : List Node → PatternNumber → Type 0
IsOptional ns n = (t : Table) (g : Reading) → Takes g (tree_of t ns n.0) [] []

-- some way with this leaf may end after it
pub record HasOptionalRest (ns : List Node) (ways : List LeafWay) (leaf : PatternNumber) : Type 0 where
  pub way : LeafWay
  pub contained : Contains ways way
  pub same : way.leaf ≡ leaf
  pub optional : IsOptional ns way.rest

-- the ways of copies that may end after their leaf, each with this rest
pub record AreRepeated (ns : List Node) (copies : List LeafWay) (more : PatternNumber) (all : List LeafWay) : Type 0 where
  pub within : (w : LeafWay) → Contains all w → (w.rest ≡ more) × HasOptionalRest ns copies w.leaf
  pub each : (w : LeafWay) → Contains copies w → Contains all (record { leaf = w.leaf; rest = more })
      ⊎ ((t : Table) (g : Reading) → Takes g (tree_of t ns w.rest.0) [] [] → ⊥)

-- what this way leaves of the second side of a group is no more than what a way with the same leaf leaves of the group
pub record IsCovered (ns : List Node) (second : PatternNumber) (firsts : List LeafWay) (w : LeafWay) : Type 0 where
  pub loses : (t : Table) (g : Reading) → LosesFirst g (tree_of t ns second.0)
  pub first : HasOptionalRest ns firsts w.leaf

-- all ways of the second side, except some that are covered
pub record AreUncovered (ns : List Node) (second : PatternNumber) (firsts seconds left : List LeafWay) : Type 0 where
  pub within : (w : LeafWay) → Contains left w → Contains seconds w
  pub each : (w : LeafWay) → Contains seconds w → Contains left w ⊎ IsCovered ns second firsts w
