-- Patterns after all attributes of a tag are taken.
use Rattle.std.specs.Prelude.{◌≡◌, ℕ, ◌<◌, List, length, slice_get, Some}
use Rattle.rng_model.specs.simple.Tree.{Simple}
use Rattle.rng_model.specs.simple.Table.{Table}
use Rattle.rng_model.specs.matching.GrammarMatching.{Reading}
use Rattle.rng_deriv_laws.specs.plain.Taking.{Same}
use Rattle.rng_deriv_laws.specs.plain.Restricted.{HasNoAttribute, HasTexts, MayBeListed}
use Rattle.rng_deriv_laws.specs.plain.Derivatives.{closed}
use Rattle.rng_deriv_table.specs.views.Node.{Node}
use Rattle.rng_deriv_table.specs.views.Node as node
use Rattle.rng_deriv_table.specs.views.Trees.{tree_of}
use Rattle.rng_deriv_table.specs.declared.pattern.PatternNumber.{PatternNumber}

-- the pattern of this number is a choice
abbrev pub IsChoice : List Node → ℕ → Type 0
IsChoice ns i = (ms : List ℕ) × (slice_get ns i ≡ Some (node.choice ms))

-- the pattern contains no attribute, and its lists and excepts contain what they may
pub record IsBareOfAttributes (p : Simple ℕ) : Type 0 where
  pub none : HasNoAttribute p
  pub texts : HasTexts MayBeListed p

-- the pattern of the second number is what is left of the first one's
pub record IsClosed (old new : List Node) (number rest : PatternNumber) : Type 0 where
  pub inside : rest.0 < length new
  pub same : (t : Table) (g : Reading) → Same g (tree_of t new rest.0) (closed (tree_of t old number.0))
  pub bare : (t : Table) → HasTexts MayBeListed (tree_of t old number.0) → IsBareOfAttributes (tree_of t new rest.0)
