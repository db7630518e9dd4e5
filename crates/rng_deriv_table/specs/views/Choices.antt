-- The alternatives of several patterns.
use Rattle.std.specs.Prelude.{◌≡◌, ◌⊎◌, ◌↔◌, ℕ, ◌<◌, List, Bool, true, false}
use Rattle.std.specs.List.{Contains}
use Rattle.rng_model.specs.simple.Tree.{Simple, s_not_allowed}
use Rattle.rng_model.specs.matching.Document.{Attribute, Item}
use Rattle.rng_model.specs.simple.Table.{Table}
use Rattle.rng_model.specs.matching.GrammarMatching.{Reading}
use Rattle.rng_deriv_laws.specs.plain.Taking.{Takes}
use Rattle.rng_deriv_table.specs.views.Node.{Node}
use Rattle.rng_deriv_table.specs.plain.Reduced.{HasAlternative, HasAllowedMembers, IsReducedChoice}
use Rattle.rng_deriv_table.specs.views.Trees.{tree_of}
use Rattle.rng_deriv_table.specs.declared.pattern.PatternNumber.{PatternNumber}

-- the tree is an alternative of one of these patterns
abbrev pub IsAlternativeOf : (ℕ → Simple ℕ) → List PatternNumber → Simple ℕ → Type 0
IsAlternativeOf tree ms s = (m : PatternNumber) × Contains ms m × HasAlternative (tree m.0) s

-- one of these patterns takes the attributes with the items
abbrev pub SomeTakes : Reading → (ℕ → Simple ℕ) → List PatternNumber → List Attribute → List Item → Type 0
SomeTakes g tree ms xs ns = (m : PatternNumber) × Contains ms m × Takes g (tree m.0) xs ns

-- whether the tree is not notAllowed; notAllowed is the whole or occurs nowhere
abbrev pub IsAllowed : Bool → Simple ℕ → Type 0
IsAllowed true p = HasAllowedMembers p
IsAllowed false p = p ≡ s_not_allowed

-- the outer pattern takes everything that the inner one takes
abbrev pub Covers : List Node → PatternNumber → PatternNumber → Type 0
Covers ns outer inner = (t : Table) (g : Reading) (xs : List Attribute) (is : List Item) → Takes g (tree_of t ns inner.0) xs is
    → Takes g (tree_of t ns outer.0) xs is

-- the second pattern has a greater number than the first and takes everything that it takes
pub record IsAbsorbedBy (ns : List Node) (number other : PatternNumber) : Type 0 where
  pub above : number.0 < other.0
  pub takes : Covers ns other number

-- each of the members is this one, in which notAllowed is the whole or occurs nowhere, or is notAllowed
pub record IsOnlyMember (ns : List Node) (members : List PatternNumber) (only : PatternNumber) : Type 0 where
  pub member : Contains members only
  pub others : (t : Table) (m : PatternNumber) → Contains members m → (m ≡ only) ⊎ (tree_of t ns m.0 ≡ s_not_allowed)
  pub reduced : (t : Table) → IsReducedChoice (tree_of t ns only.0)

-- the whole takes what one of the two takes
abbrev pub IsEither : Simple ℕ → Simple ℕ → Simple ℕ → Type 0
IsEither p q whole = (g : Reading) (xs : List Attribute) (ns : List Item) → Takes g whole xs ns ↔ (Takes g p xs ns ⊎ Takes g q xs ns)
