-- What a matcher knows between two events.
use Rattle.std.specs.Prelude.{◌≡◌, ◌⊎◌, ⊤, ℕ, List, [], ◌∷◌, ◌++◌, length, map, All, Bool, false, not, Box, Option, Some, None}
use Rattle.std.specs.Global.{Global}
use Rattle.std.specs.List.{Contains}
use Rattle.rng_names.specs.plain.Keys.{Keys}
use Rattle.rng_model.specs.datatypes.Texts.{is_blank}
use Rattle.rng_model.specs.simple.Tree.{Simple}
use Rattle.rng_model.specs.documents.PyxTrees.{Event, EventKind}
use Rattle.rng_model.specs.matching.GrammarMatching.{Reading}
use Rattle.rng_deriv_laws.specs.plain.Derivatives.{is_not_allowed}
use Rattle.rng_deriv_laws.specs.plain.Events.{kinds}
use Rattle.rng_deriv_laws.specs.plain.LevelEvents.{LevelMatcher, SettlesLevels, StepsTo, StandsFor}
use Rattle.rng_deriv_laws.specs.plain.LevelStates.{LevelState}
use Rattle.rng_deriv_events.specs.views.Numbers.{IsInside, Longer, tree_of}
use Rattle.rng_deriv_events.specs.views.States.{state_of, IsStateInside}
use Rattle.rng_deriv_events.specs.views.Strings.{IsHeld, IsHeldInside}
use Rattle.rng_deriv_events.specs.views.OpenPositions.{OpenPosition, IsPositionKept, open_position}
use Rattle.rng_model.specs.matching.Outcomes.{KnowsName, FailsAt}
use Rattle.rng_deriv_events.specs.views.FailedEvents.{IsFailedEvent, IsKept, is_told}
use Rattle.rng_deriv_events.specs.views.LevelsLeft.{LevelLeft, left_of}
use Rattle.rng_deriv_events.specs.views.NextEnds.{LeadToEnd}
use Rattle.rng_deriv_events.specs.declared.failed_event.FailedEvent.{FailedEvent}
use Rattle.rng_deriv_events.specs.declared.left.Left.{Left}
use Rattle.rng_deriv_events.specs.declared.position.Position.{Position}
use Rattle.rng_deriv_events.specs.declared.progress.Progress.{Progress}
use Rattle.rng_deriv_events.specs.declared.progress.Progress.TheVariants as progress

pub record IsPositionInside (trees : List (Simple ℕ)) (p : OpenPosition) : Type 0 where
  pub state : IsStateInside trees p.state
  pub held : IsHeldInside trees (length p.state.now) p.held

-- the level state that the position represents
pub record IsPositionOf (g : Reading) (trees : List (Simple ℕ)) (p : OpenPosition) (m : LevelMatcher) : Type 0 where
  pub state : m.state ≡ state_of trees p.state
  pub has_begun : m.has_begun ≡ p.has_begun
  pub held : IsHeld g trees p.state.now p.held m.held

-- the level state after an event, which the position after the event represents
pub record Leads (g : Reading) (kind : EventKind) (new : List (Simple ℕ)) (m : LevelMatcher) (q : OpenPosition) : Type 0 where
  pub matcher : LevelMatcher
  pub steps : StepsTo g m kind matcher
  pub position : IsPositionOf g new q matcher

-- an event leads from a position to another, in a table that may have grown
pub record AddsStep (g : Reading) (kind : EventKind) (old new : List (Simple ℕ)) (p q : OpenPosition) : Type 0 where
  pub longer : Longer old new
  pub inside : IsPositionInside new q
  pub leads : (m : LevelMatcher) → IsPositionOf g old p m → Leads g kind new m q

-- this is the line of the last event, if there is one
abbrev pub IsLastLine : List Event → ℕ → Type 0
IsLastLine es line = (es ≡ []) ⊎ ((front : List Event) × (kind : EventKind) × (es ≡ front ++ record { line = line; kind = kind } ∷ []))

-- no event has come, or some alternative is not notAllowed
abbrev pub IsSomeLeft : List (Simple ℕ) → List Event → Type 0
IsSomeLeft now es = (es ≡ []) ⊎ ((p : Simple ℕ) × Contains now p × (is_not_allowed p ≡ false))

-- The events lead to the position, and each of them that is a start has a name that the grammar has. Once an event has
-- come, some alternative is left: a matcher does not go on where nothing is left.
pub record HasCome (g : Reading) (trees : List (Simple ℕ)) (p : OpenPosition) (line : ℕ) (es : List Event) : Type 0 where
  pub matcher : LevelMatcher
  pub position : IsPositionOf g trees p matcher
  pub stands : StandsFor g matcher (kinds es)
  pub known : All (λ e. KnowsName g.grammar e.kind) es
  pub left : IsSomeLeft matcher.state.now es
  pub last : IsLastLine es line

-- the events lead to what is left
pub record LeadTo (g : Reading) (trees : List (Simple ℕ)) (l : LevelLeft) (es : List Event) : Type 0 where
  pub matcher : LevelMatcher
  pub stands : StandsFor g matcher (kinds es)
  -- the state behind the held string, given that an element is beside it
  pub settled : LevelState
  pub settles : SettlesLevels g matcher.held matcher.state settled
  pub now : settled.now ≡ map (tree_of trees) l.now
  pub in_place : matcher.state.now ≡ map (tree_of trees) l.in_place
  pub has_begun : matcher.has_begun ≡ l.has_begun
  pub has_text : l.has_text ≡ not (is_blank matcher.held)

-- nothing is left after one of the events, at this line; the events before it lead to what was left, and to a place where
-- the end tag could come next exactly if this is true
pub record FailsWith (g : Reading) (trees : List (Simple ℕ)) (l : LevelLeft) (may_end : Bool) (event : FailedEvent) (es : List Event) (line : ℕ) : Type 0 where
  pub fails : FailsAt g es line
  pub is : IsFailedEvent event fails.kind
  pub left : LeadTo g trees l fails.before
  pub ends : LeadToEnd g may_end fails.before

-- what is known of a document that might have been valid, after the event of this line: it may still be valid, or else
-- this was left before the event
abbrev pub progress_at : Option (Box Left Global) → Box Position Global → ℕ → Progress
progress_at None p line = progress.Going p line
progress_at (Some left) p line = progress.Failed line left

-- what is left has numbers of a table
pub record IsLeftInside (trees : List (Simple ℕ)) (l : LevelLeft) : Type 0 where
  pub now : All (IsInside trees) l.now
  pub in_place : All (IsInside trees) l.in_place

-- what is kept is right by the patterns of a table
abbrev pub IsProgressInside : Reading → Keys → List (Simple ℕ) → Progress → Type 0
IsProgressInside g keys trees (progress.Going p line) = IsPositionKept g keys trees p.value
IsProgressInside g keys trees (progress.Failed line left) = IsLeftInside trees (left_of left.value)
IsProgressInside g keys trees progress.Lost = ⊤

-- the line after which no continuation is valid, if it is known
abbrev pub failed_line : Progress → Option ℕ
failed_line (progress.Going p line) = None
failed_line (progress.Failed line left) = Some line
failed_line progress.Lost = None

-- no continuation after this line is valid
abbrev pub IsFailed : ℕ → Progress → Type 0
IsFailed line p = failed_line p ≡ Some line

-- the start after which nothing is left is kept whole, or will be, exactly if this is true
abbrev pub KeepsTag : Bool → Progress → Type 0
KeepsTag whole (progress.Going p line) = p.value.keeps_tag ≡ whole
KeepsTag whole (progress.Failed line left) = IsKept whole left.value.event
KeepsTag whole progress.Lost = ⊤

-- whether it is stays so
abbrev pub StaysInMode : Progress → Progress → Type 0
StaysInMode old new = (whole : Bool) → KeepsTag whole old → KeepsTag whole new

-- no continuation is valid after an event of which enough is kept to tell why
abbrev pub tells_reason : Progress → Bool
tells_reason (progress.Going p line) = false
tells_reason (progress.Failed line left) = is_told left.value.event
tells_reason progress.Lost = false

-- a call ran out of memory
abbrev pub IsLost : Progress → Type 0
IsLost p = p ≡ progress.Lost

-- what is known represents the events
abbrev pub IsKnown : Reading → List (Simple ℕ) → Progress → List Event → Type 0
IsKnown g trees (progress.Going p line) es = HasCome g trees (open_position p.value) line es
IsKnown g trees (progress.Failed line left) es = FailsWith g trees (left_of left.value) left.value.may_end left.value.event es line
IsKnown g trees progress.Lost es = ⊤

-- what is known after one more event, in the table as it is after the event
abbrev pub AddsProgress : Reading → Event → (List Event → Type 0) → List (Simple ℕ) → Progress → Type 0
AddsProgress g e Before new p = (es : List Event) → Before es → IsKnown g new p (es ++ e ∷ [])

-- these events lead to what is left; if nothing is left after one of them, those before it lead to what was left
abbrev pub LeadUp : Reading → List (Simple ℕ) → Progress → LevelLeft → List Event → Type 0
LeadUp g trees (progress.Going p line) l es = LeadTo g trees l es
LeadUp g trees (progress.Failed line left) l es = FailsWith g trees l left.value.may_end left.value.event es line
LeadUp g trees progress.Lost l es = ⊤
