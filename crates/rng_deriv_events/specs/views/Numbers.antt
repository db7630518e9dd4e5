-- Numbered patterns: the trees that their numbers represent, in a table that only grows, except for its renewals.
use Rattle.std.specs.Prelude.{◌≡◌, ◌↔◌, ℕ, ◌<◌, List, [], ◌++◌, length, map, All, Contains}
use Rattle.std.specs.List.{AllZip}
use Rattle.rng_model.specs.names.Names.{Name}
use Rattle.rng_model.specs.simple.Tree.{Simple}
use Rattle.rng_model.specs.matching.Document.{Item}
use Rattle.rng_model.specs.matching.GrammarMatching.{Reading}
use Rattle.rng_deriv_laws.specs.plain.Taking.{Takes}
use Rattle.rng_deriv_laws.specs.plain.Restricted.{IsRestricted}
use Rattle.rng_deriv_laws.specs.plain.Derivatives as tree
use Rattle.rng_deriv_laws.specs.plain.LevelStates.{AreStarts}
use Rattle.rng_deriv_table.specs.views.Trees.{tree_in}
use Rattle.rng_deriv_table.specs.declared.pattern.PatternNumber.{PatternNumber}
use Rattle.rng_deriv_events.specs.declared.derivatives.StartWay.{StartWay}

-- some patterns are added
abbrev pub Longer : List (Simple ℕ) → List (Simple ℕ) → Type 0
Longer old new = (more : List (Simple ℕ)) × (new ≡ old ++ more)

abbrev pub tree_of : List (Simple ℕ) → PatternNumber → Simple ℕ
tree_of trees n = tree_in trees n.0

-- the number is in the table, and its pattern obeys the restrictions (RELAX NG Specification, section 7)
pub record IsInside (trees : List (Simple ℕ)) (n : PatternNumber) : Type 0 where
  pub below : n.0 < length trees
  pub restricted : IsRestricted (tree_of trees n)

-- the pattern of this number, new or not, satisfies `Is`
pub record Adds (Is : Simple ℕ → Type 0) (old new : List (Simple ℕ)) (n : PatternNumber) : Type 0 where
  pub longer : Longer old new
  pub inside : IsInside new n
  pub is : Is (tree_of new n)

-- each pattern and its partner are related by `Is`
pub record AddsEach (Is : Simple ℕ → Simple ℕ → Type 0) (old new : List (Simple ℕ)) (ps qs : List PatternNumber) : Type 0 where
  pub longer : Longer old new
  pub inside : All (IsInside new) qs
  pub each : AllZip Is (map (tree_of new) ps) (map (tree_of new) qs)

-- the pattern takes exactly the items, without attributes, that some of these take
abbrev pub IsChoiceOf : Reading → List (Simple ℕ) → List PatternNumber → Simple ℕ → Type 0
IsChoiceOf g trees ms p = (ns : List Item) → Takes g p [] ns ↔ ((m : PatternNumber) × Contains ms m × Takes g (tree_of trees m) [] ns)

abbrev pub way_of : List (Simple ℕ) → StartWay → tree.Way
way_of trees w = record { leaf = tree_of trees w.body; rest = tree_of trees w.rest }

-- the ways are those of a start of this name
pub record AddsStarts (g : Reading) (q : Name) (old new : List (Simple ℕ)) (p : Simple ℕ) (ways : List StartWay) : Type 0 where
  pub longer : Longer old new
  pub inside : All (λ w. IsInside new w.body × IsInside new w.rest) ways
  pub starts : AreStarts g q p (map (way_of new) ways)

-- the second numbers represent the same patterns as the first, in another table
pub record AreRenewed (old new : List (Simple ℕ)) (held numbers : List PatternNumber) : Type 0 where
  pub inside : All (IsInside new) numbers
  pub same : map (tree_of new) numbers ≡ map (tree_of old) held
