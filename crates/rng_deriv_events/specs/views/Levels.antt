-- Levels by number: links, and what they represent.
use Rattle.std.specs.Prelude.{◌≡◌, ◌↔◌, ℕ, ◌<◌, List, [], ◌∷◌, ◌++◌, length, map, All, Contains, Bool, true, Some, slice_get}
use Rattle.std.specs.List.{AllZip}
use Rattle.rng_model.specs.names.Names.{Name}
use Rattle.rng_model.specs.simple.Tree.{Simple}
use Rattle.rng_model.specs.datatypes.Texts.{is_blank}
use Rattle.rng_model.specs.matching.GrammarMatching.{Reading}
use Rattle.rng_deriv_laws.specs.plain.LevelStates as level
use Rattle.rng_deriv_laws.specs.plain.LevelStates.{AreOpened, AreEnded, IsAfterText, EndsWith}
use Rattle.rng_deriv_table.specs.declared.pattern.PatternNumber.{PatternNumber}
use Rattle.rng_deriv_events.specs.views.Numbers.{Longer, IsInside, tree_of}
use Rattle.rng_deriv_events.specs.declared.derivatives.StartWay.{StartWay}
use Rattle.rng_deriv_events.specs.declared.level_table.link.Link.{Link}

abbrev pub link_of : List (Simple ℕ) → Link → level.Link
link_of trees l = record { inner = l.inner; outer = l.outer; rest = tree_of trees l.rest }

-- the link leads from the body of the way to the alternative at this place, and leaves the rest of the way
abbrev pub IsLinkOf : List PatternNumber → ℕ → StartWay → Link → Type 0
IsLinkOf bodies outer w l = (l.outer ≡ outer) × (slice_get bodies l.inner ≡ Some w.body) × (l.rest ≡ w.rest)

abbrev pub IsBodyOf : List StartWay → PatternNumber → Type 0
IsBodyOf ways b = (w : StartWay) × Contains ways w × (w.body ≡ b)

-- the bodies and links of the ways of the alternative at this place are added
pub record AddsLinks (outer : ℕ) (ways : List StartWay) (old_bodies new_bodies : List PatternNumber) (old_links new_links : List Link) : Type 0 where
  pub bodies : List PatternNumber
  pub links : List Link
  pub bodies_are : new_bodies ≡ old_bodies ++ bodies
  pub links_are : new_links ≡ old_links ++ links
  pub linked : AllZip (IsLinkOf new_bodies outer) ways links
  pub of_ways : All (IsBodyOf ways) bodies

-- the link leads from one of this many alternatives inside to one of this many around, and its rest is in the table
abbrev pub IsLinkWithin : List (Simple ℕ) → ℕ → ℕ → Link → Type 0
IsLinkWithin trees inner outer l = (l.inner < inner) × (l.outer < outer) × IsInside trees l.rest

-- the bodies and links are those of a start of this name for these alternatives
pub record AddsOpened (g : Reading) (q : Name) (old new : List (Simple ℕ)) (outside bodies : List PatternNumber) (links : List Link) : Type 0 where
  pub longer : Longer old new
  pub inside : All (IsInside new) bodies
  pub within : All (IsLinkWithin new (length bodies) (length outside)) links
  pub opened : AreOpened g q (map (tree_of new) outside) (map (tree_of new) bodies) (map (link_of new) links)

-- the alternatives around are what the links leave, when the good alternatives inside end
pub record AddsEnded (g : Reading) (good : List Bool) (around : ℕ) (old new : List (Simple ℕ)) (links : List Link) (outside : List PatternNumber) : Type 0 where
  pub longer : Longer old new
  pub inside : All (IsInside new) outside
  pub count : length outside ≡ around
  pub ended : AreEnded g good (map (link_of new) links) (map (tree_of new) outside)

abbrev pub IsRestWithin : List (Simple ℕ) → ℕ → Link → Type 0
IsRestWithin trees outer l = (l.outer < outer) × IsInside trees l.rest

-- the rest is that of the only way out, which leads from a good alternative into the only one around
pub record IsOnlyRest (good : List Bool) (links : List Link) (around : ℕ) (rest : PatternNumber) : Type 0 where
  pub link : Link
  pub only : links ≡ link ∷ []
  pub one : around ≡ 1
  pub may_end : slice_get good link.inner ≡ Some true
  pub leaves : rest ≡ link.rest

-- The alternatives around an element after one more link. If the link leads from a good alternative, the one that it
-- leads to also takes what the rest takes.
pub record LeavesBy (g : Reading) (good : List Bool) (old new : List (Simple ℕ)) (l : Link) (before after : List PatternNumber) : Type 0 where
  pub longer : Longer old new
  pub inside : All (IsInside new) after
  pub count : length after ≡ length before
  pub ended : (links : List level.Link) → AreEnded g good links (map (tree_of old) before)
      → AreEnded g good (links ++ link_of old l ∷ []) (map (tree_of new) after)

-- the tests say which of these alternatives may end an element with only a string, given what is left of all
-- alternatives after it
abbrev pub AreEndsWith : Reading → List (Simple ℕ) → List PatternNumber → List PatternNumber → Bool → List PatternNumber → List Bool → Type 0
AreEndsWith g trees now after blank tested good = (s : List ℕ) → is_blank s ≡ blank →
    AllZip (IsAfterText g s) (map (tree_of trees) now) (map (tree_of trees) after) →
    AllZip (λ p b. (b ≡ true) ↔ EndsWith g s p) (map (tree_of trees) tested) good
