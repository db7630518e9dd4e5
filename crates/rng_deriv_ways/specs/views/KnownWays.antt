-- Known ways of patterns.
use Rattle.std.specs.Prelude.{◌≡◌, ◌<◌, Box, List, Option, Some, false, length, slice_get}
use Rattle.std.specs.HashMap.{HashMap, get}
use Rattle.smallvec.specs.SmallVec.{SmallVec}
use Rattle.rng_names.specs.plain.Keys.{Keys, KeysServe, name_at}
use Rattle.rng_names.specs.declared.name_keys.NameKey.{NameKey}
use Rattle.rng_names.specs.contracts.name_keys.NameKeyPartialEq.TheImpl as same_key
use Rattle.rng_model.specs.names.Names.{Name}
use Rattle.rng_model.specs.simple.Table.{Table}
use Rattle.rng_model.specs.names.NameViews.{name_of}
use Rattle.rng_deriv_table.specs.views.Node.{Node}
use Rattle.rng_deriv_table.specs.views.Skips.{AreSkips}
use Rattle.rng_deriv_table.specs.views.Trees.{tree_of}
use Rattle.rng_deriv_table.specs.declared.pattern.PatternNumber.{PatternNumber}
use Rattle.rng_deriv_table.specs.contracts.pattern.PatternNumberPartialEq.TheImpl as same
use Rattle.rng_deriv_ways.specs.plain.Alike.{AreAlike}
use Rattle.rng_deriv_ways.specs.views.Datatypes.{AreDatatypesOf}
use Rattle.rng_deriv_ways.specs.views.KnownRests.{AreRestsOf}
use Rattle.rng_deriv_ways.specs.views.Plans.{ArePlans}
use Rattle.rng_deriv_ways.specs.plain.Takers.{AreAllTold, AreAttributesTold, AreSpansOf}
use Rattle.rng_deriv_ways.specs.plain.Ways.{AreWaysOf}
use Rattle.rng_deriv_ways.specs.declared.known.Known.{Known}
use Rattle.rng_deriv_ways.specs.declared.known.LastWays.{LastWays}
use Rattle.rng_deriv_ways.specs.declared.way.Kind.{Kind}
use Rattle.rng_deriv_ways.specs.declared.way.Kind.TheVariants as kinds
use Rattle.rng_deriv_ways.specs.declared.way.LeafWay.{LeafWay}

-- these ways are known for the pattern of this number
abbrev pub HasKnown : {Z : Type 0} → HashMap PatternNumber (SmallVec LeafWay) Z → PatternNumber → List LeafWay → Type 0
HasKnown known n ways = (v : SmallVec LeafWay) × (get same.ghosts.eq known n ≡ Some v) × (v.items ≡ ways)

-- these are its ways to take something of this kind first
pub record AreThoseOf (t : Table) (ns : List Node) (kind : Kind) (n : PatternNumber) (ws : List LeafWay) : Type 0 where
  pub inside : n.0 < length ns
  pub ways : AreWaysOf t ns kind (tree_of t ns n.0) ws

-- all known ways are right
abbrev pub AreKnown : {Z : Type 0} → Table → List Node → Kind → HashMap PatternNumber (SmallVec LeafWay) Z → Type 0
AreKnown t ns kind known = (n : PatternNumber) (ways : List LeafWay) → HasKnown known n ways → AreThoseOf t ns kind n ways

-- an element of this name comes first
abbrev pub IsElementKind : Name → Kind → Type 0
IsElementKind q (kinds.Element r) = name_of r.now ≡ q
IsElementKind q (kinds.Attribute r) = ⊥
IsElementKind q kinds.Text = ⊥

-- an attribute of this name comes first
abbrev pub IsAttributeKind : Name → Kind → Type 0
IsAttributeKind q (kinds.Element r) = ⊥
IsAttributeKind q (kinds.Attribute r) = name_of r.now ≡ q
IsAttributeKind q kinds.Text = ⊥

-- the known ways for this key, if it has occurred
abbrev pub HasForKey : {Y Z : Type 0} → HashMap NameKey (HashMap PatternNumber (SmallVec LeafWay) Z) Y → NameKey → HashMap PatternNumber (SmallVec LeafWay) Z → Type 0
HasForKey known k m = get same_key.ghosts.eq known k ≡ Some m

-- all known ways for this key are right
abbrev pub AreKnownFor : {Y Z : Type 0} → Table → List Node → Kind → NameKey → HashMap NameKey (HashMap PatternNumber (SmallVec LeafWay) Z) Y → Type 0
AreKnownFor {Y} {Z} t ns kind k known = (m : HashMap PatternNumber (SmallVec LeafWay) Z) → HasForKey known k m → AreKnown t ns kind m

-- the known ways for other keys have not changed
abbrev pub KeepsOtherKeys : {Y Z : Type 0} → NameKey → HashMap NameKey (HashMap PatternNumber (SmallVec LeafWay) Z) Y
    → HashMap NameKey (HashMap PatternNumber (SmallVec LeafWay) Z) Y → Type 0
KeepsOtherKeys key old new = (k : NameKey) → same_key.ghosts.eq key k ≡ false → get same_key.ghosts.eq new k ≡ get same_key.ghosts.eq old k

-- all known ways for the representative names of keys are right, where these are the kinds of a name
abbrev pub AreKnownByKey : {Y Z : Type 0} → (Name → Kind → Type 0) → Table → Keys → List Node
    → HashMap NameKey (HashMap PatternNumber (SmallVec LeafWay) Z) Y → Type 0
AreKnownByKey Are t keys ns known = (k : NameKey) (kind : Kind) → Are (name_at keys k.0) kind → AreKnownFor t ns kind k known

-- these ways are the last ones for the pattern of this number
abbrev pub HasLast : {Z : Type 0} → List (Option (Box LastWays Z)) → PatternNumber → LastWays → Type 0
HasLast {Z} last n ways = (b : Box LastWays Z) × (slice_get last n.0 ≡ Some (Some b)) × (b.value ≡ ways)

-- all last ways are right, for the representative names of their keys
abbrev pub AreLast : {Z : Type 0} → Table → Keys → List Node → List (Option (Box LastWays Z)) → Type 0
AreLast t keys ns last = (n : PatternNumber) (ways : LastWays) → HasLast last n ways → (kind : Kind) → IsAttributeKind (name_at keys ways.key.0) kind
    → AreThoseOf t ns kind n ways.ways.items

-- The keys serve, and everything known is right: the ways to take strings, elements and attributes, and what is left
-- after a tag is closed. So are the elements and the attributes that may have a name, the alike elements, the ranges of
-- attributes, the skips, the datatypes, and the plans.
pub record AreAllKnown (t : Table) (keys : Keys) (ns : List Node) (known : Known) : Type 0 where
  pub serve : KeysServe t keys
  pub texts : AreKnown t ns kinds.Text known.texts
  pub elements : AreKnownByKey IsElementKind t keys ns known.elements
  pub attributes : AreKnownByKey IsAttributeKind t keys ns known.attributes
  pub rests : AreRestsOf ns known.rests
  pub takers : AreAllTold t keys known.takers
  pub alike : AreAlike t known.alike.items
  pub attribute_takers : AreAttributesTold t keys known.attribute_takers
  pub spans : AreSpansOf t ns known.spans.items
  pub skips : AreSkips ns known.skips
  pub datatypes : AreDatatypesOf t known.datatypes
  pub last : AreLast t keys ns known.last.items
  pub plans : ArePlans t keys ns known.plans
