-- Elements of a grammar that take the same.
use Rattle.std.specs.Prelude.{◌≡◌, ◌⊎◌, ◌<◌, ℕ, List, Some, length, slice_get}
use Rattle.rng_model.specs.names.Names.{Name}
use Rattle.rng_model.specs.simple.Table.{Table}
use Rattle.rng_model.specs.simple.Tree.{Simple, s_leaf}
use Rattle.rng_model.specs.declared.simple.ElementId.{ElementId}
use Rattle.rng_deriv_laws.specs.plain.Reading.{body_of, has_name}
use Rattle.rng_deriv_table.specs.views.Node.{Node}
use Rattle.rng_deriv_table.specs.views.Trees.{tree_of}
use Rattle.rng_deriv_table.specs.declared.pattern.PatternNumber.{PatternNumber}
use Rattle.rng_model.specs.matching.GrammarMatching.{reading_of}

-- the elements of these numbers have the same names and the same body
pub record IsAlike (t : Table) (e f : ℕ) : Type 0 where
  pub names : (q : Name) → has_name (reading_of t) e q ≡ has_name (reading_of t) f q
  pub bodies : body_of (reading_of t) e ≡ body_of (reading_of t) f

-- each element of a list is alike to the one at its number
abbrev pub AreAlike : Table → List ElementId → Type 0
AreAlike t alike = (e : ℕ) (f : ElementId) → slice_get alike e ≡ Some f → IsAlike t e f.0

-- the second tree is the first one, or both are refs to elements that take the same
abbrev pub AreLikeLeaves : Table → Simple ℕ → Simple ℕ → Type 0
AreLikeLeaves t p q = (q ≡ p) ⊎ ((e : ℕ) × (f : ℕ) × (p ≡ s_leaf e) × (q ≡ s_leaf f) × IsAlike t e f)

-- the pattern of the second number may replace that of the first one
pub record IsLikeLeaf (t : Table) (old new : List Node) (number leaf : PatternNumber) : Type 0 where
  pub inside : leaf.0 < length new
  pub like : AreLikeLeaves t (tree_of t old number.0) (tree_of t new leaf.0)
