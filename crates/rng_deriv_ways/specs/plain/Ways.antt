-- Ways by number, and when they are those of a pattern.
use Rattle.std.specs.Prelude.{◌≡◌, ◌⊎◌, ℕ, ◌+◌, ◌<◌, ◌≤◌, ⊤, List, ◌∷◌, ◌++◌, length, map, slice_index_or, take, All, ◌↔◌}
use Rattle.std.specs.List.{Contains}
use Rattle.rng_model.specs.names.Lists.{Among}
use Rattle.rng_model.specs.simple.Tree.{Simple}
use Rattle.rng_model.specs.matching.Document.{Attribute, Item}
use Rattle.rng_model.specs.simple.Table.{Table}
use Rattle.rng_model.specs.names.NameViews.{name_of}
use Rattle.rng_model.specs.matching.GrammarMatching.{Reading, reading_of}
use Rattle.rng_deriv_laws.specs.plain.Taking.{Takes}
use Rattle.rng_deriv_laws.specs.plain.Restricted.{RepeatsWell}
use Rattle.rng_deriv_laws.specs.plain.Derivatives as tree
use Rattle.rng_deriv_laws.specs.plain.Derivatives.{joined_of}
use Rattle.rng_deriv_laws.specs.plain.Ways.{AreItemWays, AreAttributeWays, EachWay}
use Rattle.rng_deriv_table.specs.views.Node.{Node}
use Rattle.rng_deriv_table.specs.declared.pattern.PatternNumber.{PatternNumber}
use Rattle.rng_deriv_table.specs.views.Trees.{tree_of}
use Rattle.rng_deriv_ways.specs.plain.Kinds.{IsElementNamed, IsNamed, IsText, IsLeafOf, Obeys, connector_of}
use Rattle.rng_deriv_ways.specs.declared.way.LeafWay.{LeafWay}
use Rattle.rng_deriv_ways.specs.declared.way.Kind.{Kind}
use Rattle.rng_deriv_ways.specs.declared.way.Kind.TheVariants as kinds
use Rattle.rng_deriv_ways.specs.declared.way.Place.{Place}
use Rattle.rng_deriv_ways.specs.declared.way.Hole.{Hole}
use Rattle.rng_deriv_ways.specs.declared.way.Hole.TheVariants as holes

-- ways over the trees of their numbers
abbrev pub way_by : (ℕ → Simple ℕ) → LeafWay → tree.Way
way_by f w = record { leaf = f w.leaf.0; rest = f w.rest.0 }

abbrev pub ways_by : (ℕ → Simple ℕ) → List LeafWay → List tree.Way
ways_by f ws = map (way_by f) ws

-- the numbers of the way are numbers of the table
abbrev pub IsInside : List Node → LeafWay → Type 0
IsInside ns w = (w.leaf.0 < length ns) × (w.rest.0 < length ns)

abbrev pub AreInside : List Node → List LeafWay → Type 0
AreInside ns ws = All (IsInside ns) ws

-- the way at this position
abbrev pub way_at : List LeafWay → ℕ → LeafWay
way_at ways i = slice_index_or ways i (record { leaf = record { 0 = 0 }; rest = record { 0 = 0 } })

-- the rests of ways with one leaf, one after the other from this position on
pub record IsRun (ways : List LeafWay) (start : ℕ) (rests : List PatternNumber) : Type 0 where
  pub some : 0 < length rests
  pub within : start + length rests ≤ length ways
  pub all : (v : LeafWay) → Contains (take (start + length rests) ways) v
      → Contains (take start ways) v ⊎ ((v.leaf ≡ (way_at ways start).leaf) × Contains rests v.rest)
  pub own : (r : PatternNumber) → Contains rests r → Contains ways (record { leaf = (way_at ways start).leaf; rest = r })

-- the element is removed from a list
abbrev pub IsTakenOut : {A : Type 0} → List A → List A → A → Type 0
IsTakenOut {A} old new x = (front : List A) × (back : List A) × (old ≡ front ++ x ∷ back) × (new ≡ front ++ back)

-- the rest of the whole, from that of a side
abbrev pub filled : (ℕ → Simple ℕ) → Hole → Simple ℕ → Simple ℕ
filled f holes.Whole r = r
filled f (holes.First joint second) r = joined_of (connector_of joint) r (f second.0)
filled f (holes.Second joint first) r = joined_of (connector_of joint) (f first.0) r

abbrev pub IsHoleInside : List Node → Hole → Type 0
IsHoleInside ns holes.Whole = ⊤
IsHoleInside ns (holes.First joint second) = second.0 < length ns
IsHoleInside ns (holes.Second joint first) = first.0 < length ns

-- some leaf takes the first attributes and items, and its rest takes the others
abbrev pub Offers : Reading → List tree.Way → List Attribute → List Item → List Attribute → List Item → Type 0
Offers g ws xs ns ys ms = (w : tree.Way) × Among w ws × Takes g w.leaf xs ns × Takes g w.rest ys ms

-- each leaf is of the kind, and leaves and rests obey what they have to obey at the place
abbrev pub AreKept : Kind → Place → List tree.Way → Type 0
AreKept kind place ws = EachWay (λ l. IsLeafOf kind l × Obeys place l) (Obeys place) ws

-- the numbered ways offer what these ways offer, and keep what they keep
pub record StandFor (ns : List Node) (numbered : List LeafWay) (ws : Table → List tree.Way) : Type 0 where
  pub inside : AreInside ns numbered
  pub offers : (t : Table) (g : Reading) (xs : List Attribute) (ks : List Item) (ys : List Attribute) (ms : List Item)
      → Offers g (ways_by (tree_of t ns) numbered) xs ks ys ms ↔ Offers g (ws t) xs ks ys ms
  pub kept : (t : Table) (kind : Kind) (place : Place) → AreKept kind place (ws t) → AreKept kind place (ways_by (tree_of t ns) numbered)

-- the ways of a pattern by which it takes something of this kind first
abbrev pub AreWays : Reading → Kind → Simple ℕ → List tree.Way → Type 0
AreWays g (kinds.Element q) p ws = AreItemWays g (IsElementNamed (name_of q.now)) p ws
AreWays g (kinds.Attribute q) p ws = RepeatsWell p → AreAttributeWays g (IsNamed (name_of q.now)) p ws
AreWays g kinds.Text p ws = AreItemWays g IsText p ws

-- the numbered ways are those of a pattern of a grammar, and keep what the pattern obeys
pub record AreWaysOf (t : Table) (ns : List Node) (kind : Kind) (p : Simple ℕ) (numbered : List LeafWay) : Type 0 where
  pub inside : AreInside ns numbered
  pub law : AreWays (reading_of t) kind p (ways_by (tree_of t ns) numbered)
  pub kept : (place : Place) → Obeys place p → AreKept kind place (ways_by (tree_of t ns) numbered)
