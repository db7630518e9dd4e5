-- Skips over members of choices.
use Rattle.std.specs.Prelude.{◌≡◌, ◌<◌, ◌≤◌, ℕ, All, List, [], Option, Some, None, Vec, length, slice_get}
use Rattle.std.specs.HashMap.{HashMap, get}
use Rattle.rng_model.specs.simple.Table.{Table}
use Rattle.rng_deriv_table.specs.plain.Facts.{HasElement, IsWithin}
use Rattle.rng_deriv_table.specs.views.Node.{Node}
use Rattle.rng_deriv_table.specs.views.Node as node
use Rattle.rng_deriv_table.specs.views.Trees.{tree_of}
use Rattle.rng_deriv_table.specs.declared.pattern.PatternNumber.{PatternNumber}
use Rattle.rng_deriv_table.specs.declared.skips.Skip.{Skip}
use Rattle.rng_deriv_table.specs.declared.skips.Skips.{Skips}
use Rattle.rng_deriv_table.specs.contracts.pattern.PatternNumberPartialEq.TheImpl as same

-- the members of a choice that a look-up found; anything else has none
abbrev pub members_found : Option Node → List ℕ
members_found None = []
members_found (Some node.not_allowed) = []
members_found (Some node.empty) = []
members_found (Some node.text) = []
members_found (Some (node.choice ms)) = ms
members_found (Some (node.group a b)) = []
members_found (Some (node.interleave a b)) = []
members_found (Some (node.one_or_more a)) = []
members_found (Some (node.element e)) = []
members_found (Some (node.attribute a)) = []
members_found (Some (node.data_at d)) = []

-- the members of the pattern of this number
abbrev pub members_at : List Node → ℕ → List ℕ
members_at ns n = members_found (slice_get ns n)

-- the skip goes on from this position, and the elements in the members that it passes over are in its range
pub record IsSkip (ns : List Node) (ms : List ℕ) (i : ℕ) (s : Skip) : Type 0 where
  pub further : i < s.behind
  pub within : (j m : ℕ) → i ≤ j → j < s.behind → slice_get ms j ≡ Some m → (t : Table) (e : ℕ) → HasElement e (tree_of t ns m) → IsWithin s.elements e

abbrev pub AreSkipsOf : List Node → List ℕ → List Skip → Type 0
AreSkipsOf ns ms skips = (i : ℕ) (s : Skip) → slice_get skips i ≡ Some s → IsSkip ns ms i s

-- these are skips of the choice of this number
pub record AreSkipsAt (ns : List Node) (n : PatternNumber) (skips : List Skip) : Type 0 where
  pub inside : n.0 < length ns
  pub members : All (λ m. m < length ns) (members_at ns n.0)
  pub right : AreSkipsOf ns (members_at ns n.0) skips

-- these skips are kept for the choice of this number
abbrev pub HasSkips : {Y Z : Type 0} → HashMap PatternNumber (Vec Skip Y) Z → PatternNumber → List Skip → Type 0
HasSkips {Y} {Z} kept n skips = (v : Vec Skip Y) × (get same.ghosts.eq kept n ≡ Some v) × (v.items ≡ skips)

-- all skips that are kept are right
abbrev pub AreSkipsIn : {Y Z : Type 0} → List Node → HashMap PatternNumber (Vec Skip Y) Z → Type 0
AreSkipsIn ns kept = (n : PatternNumber) (skips : List Skip) → HasSkips kept n skips → AreSkipsAt ns n skips

abbrev pub AreSkips : List Node → Skips → Type 0
AreSkips ns skips = AreSkipsIn ns skips.by_choice
