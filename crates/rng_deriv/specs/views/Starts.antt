-- The ways of a start, without those that nothing matches.
use Rattle.std.specs.Prelude.{◌↔◌, ◌<◌, List, [], ◌∷◌, ◌++◌, length, map, All}
use Rattle.rng_model.specs.names.Names.{Name}
use Rattle.rng_model.specs.matching.Document.{Attribute, Item}
use Rattle.rng_model.specs.simple.Table.{Table}
use Rattle.rng_deriv_laws.specs.plain.Derivatives as tree
use Rattle.rng_deriv_laws.specs.plain.Restricted.{IsRestricted}
use Rattle.rng_deriv_laws.specs.plain.Ways.{EachWay, Opens}
use Rattle.rng_deriv_events.specs.views.Numbers.{way_of}
use Rattle.rng_deriv_events.specs.declared.derivatives.StartWay.{StartWay}
use Rattle.rng_deriv_table.specs.views.Node.{Node}
use Rattle.rng_deriv_table.specs.views.Trees.{trees, tree_of}
use Rattle.rng_model.specs.matching.GrammarMatching.{reading_of}
use Rattle.rng_deriv_ways.specs.plain.Starting.{IsRestrictedBodyNamed}
use Rattle.rng_deriv_ways.specs.plain.Ways.{way_by}
use Rattle.rng_deriv_ways.specs.declared.way.LeafWay as numbered

-- the numbers of the way are in the table
abbrev pub IsWayInside : List Node → StartWay → Type 0
IsWayInside ns w = (w.body.0 < length ns) × (w.rest.0 < length ns)

-- these ways open exactly what those ways open, and are restricted if those are
pub record OpensLike (t : Table) (ns : List Node) (those : List tree.Way) (these : List StartWay) : Type 0 where
  pub inside : All (IsWayInside ns) these
  pub opens : (xs : List Attribute) (kids ms : List Item) → Opens (reading_of t) xs kids ms (map (way_of (trees t ns)) these)
      ↔ Opens (reading_of t) xs kids ms those
  pub kept : (q : Name) → EachWay (IsRestrictedBodyNamed (reading_of t) q) IsRestricted those
      → EachWay (IsRestrictedBodyNamed (reading_of t) q) IsRestricted (map (way_of (trees t ns)) these)

-- some ways, and one more
abbrev pub with_way : Table → List Node → List StartWay → numbered.LeafWay → List tree.Way
with_way t ns before w = map (way_of (trees t ns)) before ++ way_by (tree_of t ns) w ∷ []
