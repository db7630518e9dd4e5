-- Strings that may still turn out to be only children.
use Rattle.std.specs.Prelude.{◌≡◌, ⊤, ℕ, List, [], length, map, All, Bool, Option, Some, None}
use Rattle.std.specs.List.{AllZip}
use Rattle.rng_model.specs.simple.Tree.{Simple}
use Rattle.rng_model.specs.datatypes.Texts.{is_blank}
use Rattle.rng_model.specs.matching.GrammarMatching.{Reading}
use Rattle.rng_deriv_laws.specs.plain.LevelStates.{IsAfterText}
use Rattle.rng_deriv_table.specs.declared.pattern.PatternNumber.{PatternNumber}
use Rattle.rng_deriv_events.specs.views.Numbers.{Longer, IsInside, tree_of}

-- a string: whether it is blank, and what is left of each alternative after it
pub record HeldString : Type 0 where
  pub blank : Bool
  pub after : List PatternNumber

-- this string is held, with what is left of each alternative after it; if no string is held, it is the empty one
abbrev pub IsHeld : Reading → List (Simple ℕ) → List PatternNumber → Option HeldString → List ℕ → Type 0
IsHeld g trees now None s = s ≡ []
IsHeld g trees now (Some h) s = (is_blank s ≡ h.blank) × AllZip (IsAfterText g s) (map (tree_of trees) now) (map (tree_of trees) h.after)

-- what is left of each alternative has a number of the table
abbrev pub IsHeldInside : List (Simple ℕ) → ℕ → Option HeldString → Type 0
IsHeldInside trees count None = ⊤
IsHeldInside trees count (Some h) = (count ≡ length h.after) × All (IsInside trees) h.after

-- a string that satisfies `Is` is held, in a table that may have grown
pub record AddsHeld (Is : List ℕ → Type 0) (g : Reading) (old new : List (Simple ℕ)) (now : List PatternNumber) (h : HeldString) : Type 0 where
  pub longer : Longer old new
  pub inside : IsHeldInside new (length now) (Some h)
  pub held : (s : List ℕ) → Is s → IsHeld g new now (Some h) s
