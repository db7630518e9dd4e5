-- Options of patterns that are kept as the patterns of a grammar are taken over.
use Rattle.std.specs.Prelude.{◌≡◌, ◌<◌, ℕ, List, Some, length}
use Rattle.std.specs.HashMap.{HashMap, get}
use Rattle.rng_model.specs.simple.Table.{Table}
use Rattle.rng_model.specs.simple.Tree.{Simple, choice, group, s_empty, s_joined}
use Rattle.rng_deriv_table.specs.plain.Copies.{AreCopies}
use Rattle.rng_deriv_table.specs.plain.Kept.{IsRegrouped}
use Rattle.rng_deriv_table.specs.views.Node.{Node}
use Rattle.rng_deriv_table.specs.views.Trees.{tree_of}
use Rattle.rng_deriv_table.specs.declared.pattern.PatternNumber.{PatternNumber}
use Rattle.rng_deriv_table.specs.contracts.pattern.PatternNumberPartialEq.TheImpl as same

-- this is kept as the option of the pattern
abbrev pub HasOption : {Z : Type 0} → HashMap PatternNumber PatternNumber Z → PatternNumber → PatternNumber → Type 0
HasOption kept p o = get same.ghosts.eq kept p ≡ Some o

-- a pattern that may be left out
abbrev pub option : Simple ℕ → Simple ℕ
option p = s_joined choice s_empty p

-- the second pattern takes what the first one takes, or nothing
pub record IsOptionOf (ns : List Node) (p o : PatternNumber) : Type 0 where
  pub body : p.0 < length ns
  pub inside : o.0 < length ns
  pub is : (t : Table) → IsRegrouped (option (tree_of t ns p.0)) (tree_of t ns o.0)

-- all options that are kept are right
abbrev pub AreOptions : {Z : Type 0} → List Node → HashMap PatternNumber PatternNumber Z → Type 0
AreOptions ns kept = (p o : PatternNumber) → HasOption kept p o → IsOptionOf ns p o

-- a group of a pattern, whose option is o, and q, which is copies of o
pub record IsOfOption (whole o q : Simple ℕ) : Type 0 where
  pub first : Simple ℕ
  pub is : whole ≡ s_joined group first q
  pub option_is : IsRegrouped (option first) o
  pub copies : AreCopies o q
