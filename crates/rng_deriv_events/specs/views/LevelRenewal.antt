-- Renewal: the patterns that nobody holds are freed, and the others are in another table, under new numbers.
use Rattle.std.specs.Prelude.{◌≡◌, ℕ, List, [], ◌∷◌, map}
use Rattle.std.specs.List.{AllZip, flat_map}
use Rattle.rng_model.specs.simple.Tree.{Simple}
use Rattle.rng_model.specs.matching.GrammarMatching.{Reading}
use Rattle.rng_deriv_laws.specs.plain.LevelEvents.{LevelMatcher}
use Rattle.rng_deriv_table.specs.declared.pattern.PatternNumber.{PatternNumber}
use Rattle.rng_deriv_events.specs.declared.level_table.link.Link.{Link}
use Rattle.rng_deriv_events.specs.views.Numbers.{IsInside, tree_of}
use Rattle.rng_deriv_events.specs.views.OpenPositions.{OpenPosition, open_level}
use Rattle.rng_deriv_events.specs.views.States.{IsStateInside, OpenLevel, OpenState, state_of}
use Rattle.rng_deriv_events.specs.views.Positions.{IsPositionOf}
use Rattle.rng_deriv_events.specs.declared.state.WaysOut.{WaysOut}

-- what the ways out of an element leave
abbrev pub rests_of : List Link → List PatternNumber
rests_of links = map (λ l. l.rest) links

-- what the ways out of all these elements leave
abbrev pub rests_in : List WaysOut → List PatternNumber
rests_in levels = flat_map (λ (l : WaysOut). rests_of l.links.items) levels

-- the links, each with one of the numbers as its rest
abbrev pub with_rests : List Link → List PatternNumber → List Link
with_rests [] ns = []
with_rests (l ∷ ls) [] = l ∷ ls
with_rests (l ∷ ls) (n ∷ ns) = record { inner = l.inner; outer = l.outer; rest = n } ∷ with_rests ls ns

-- a pattern by its number in one table, and by its number in the other
abbrev pub IsRenewed : List (Simple ℕ) → List (Simple ℕ) → PatternNumber → PatternNumber → Type 0
IsRenewed old new p n = IsInside new n × (tree_of new n ≡ tree_of old p)

pub record IsLinkRenewed (old new : List (Simple ℕ)) (l k : Link) : Type 0 where
  pub inner : k.inner ≡ l.inner
  pub outer : k.outer ≡ l.outer
  pub rest : IsRenewed old new l.rest k.rest

pub record IsLevelRenewed (old new : List (Simple ℕ)) (l k : OpenLevel) : Type 0 where
  pub around : k.around ≡ l.around
  pub links : AllZip (IsLinkRenewed old new) l.links k.links

-- the same of what is stored
abbrev pub AreWaysRenewed : List (Simple ℕ) → List (Simple ℕ) → WaysOut → WaysOut → Type 0
AreWaysRenewed old new l k = IsLevelRenewed old new (open_level l) (open_level k)

-- the states are the same over trees
pub record IsStateRenewed (old new : List (Simple ℕ)) (s t : OpenState) : Type 0 where
  pub inside : IsStateInside new t
  pub same : state_of new t ≡ state_of old s

-- the positions are the same over level states
abbrev pub IsPositionRenewed : List (Simple ℕ) → List (Simple ℕ) → OpenPosition → OpenPosition → Type 0
IsPositionRenewed old new p q = (g : Reading) (m : LevelMatcher) → IsPositionOf g old p m → IsPositionOf g new q m
