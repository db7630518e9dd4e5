-- What may come next behind events.
use Rattle.std.specs.Prelude.{⊤, ◌≡◌, ◌↔◌, ℕ, List, Bool, true, false, Option, Some, None, not, All, map}
use Rattle.rng_model.specs.documents.PyxTrees.{Event, EventKind, a_start, a_string, an_end}
use Rattle.rng_model.specs.matching.Document.{Attribute}
use Rattle.rng_model.specs.matching.GrammarMatching.{Reading}
use Rattle.rng_model.specs.names.Names.{Name}
use Rattle.rng_model.specs.simple.Tree.{Simple}
use Rattle.rng_expected.specs.Expectations.{IsExpected, Next}
use Rattle.rng_expected.specs.Tags.{IsTag, Tag}
use Rattle.rng_reasons.specs.AllowedPatterns.{IsReduced}
use Rattle.rng_reasons.specs.Reasons.{Alternatives, IsEndReason, IsStartReason}
use Rattle.rng_reasons.specs.TagOptions.{IsTagOptionsOf, Options}
use Rattle.rng_reasons.specs.declared.reasons.Reason.{Reason}
use Rattle.rng_reasons.specs.declared.reasons.Reason.TheVariants as reasons
use Rattle.rng_deriv_events.specs.views.FailedEvents.{IsFailedEvent, is_told}
use Rattle.rng_deriv_events.specs.views.LevelsLeft.{LevelLeft, left_of, level_in}
use Rattle.rng_deriv_events.specs.views.NextEnds.{LeadToEnd}
use Rattle.rng_deriv_events.specs.views.Numbers.{tree_of}
use Rattle.rng_deriv_events.specs.views.Positions.{FailsWith, KeepsTag, LeadUp, failed_line, tells_reason}
use Rattle.rng_deriv_events.specs.declared.left.Left.{Left}
use Rattle.rng_deriv_events.specs.declared.progress.Progress.{Progress}
use Rattle.rng_deriv_events.specs.declared.progress.Progress.TheVariants as progress
use Rattle.rng_deriv.specs.views.Matchers.{Matching, trees_in}

-- the alternatives that are left, as trees
abbrev pub alternatives_of : List (Simple ℕ) → LevelLeft → Alternatives
alternatives_of trees l = record { behind = map (tree_of trees) l.now; in_place = map (tree_of trees) l.in_place; has_text = l.has_text }

-- notAllowed is the whole of an alternative, or occurs nowhere in it (RELAX NG Specification, section 4.20)
pub record AreAllReduced (left : Alternatives) : Type 0 where
  pub behind : All IsReduced left.behind
  pub in_place : All IsReduced left.in_place

-- The events lead to what is left, of which this is so. If no continuation is valid after one of them, those before it do, and
-- what is kept is that event, and whether the end tag could come in its place.
pub record LeaveSuch (g : Reading) (trees : List (Simple ℕ)) (AreSo : Alternatives → Type 0) (p : Progress) (es : List Event) (l : LevelLeft) : Type 0 where
  pub lead : LeadUp g trees p l es
  pub reduced : AreAllReduced (alternatives_of trees l)
  pub are_so : AreSo (alternatives_of trees l)

-- the same of what is kept to be left; after a call ran out of memory nothing is
abbrev pub HaveLeft : Reading → List (Simple ℕ) → (Alternatives → Type 0) → Progress → List Event → Type 0
HaveLeft g trees AreSo (progress.Going p line) es = LeaveSuch g trees AreSo (progress.Going p line) es (level_in p.value)
HaveLeft g trees AreSo (progress.Failed line left) es = LeaveSuch g trees AreSo (progress.Failed line left) es (left_of left.value)
HaveLeft g trees AreSo progress.Lost es = ⊤

-- this is all that may come next by what is left
abbrev pub MayFollow : Reading → Matching → Next → List Event → Type 0
MayFollow g m next es = HaveLeft g (trees_in m) (λ left. IsExpected g.grammar left.behind next) m.progress es

-- this is all that may come in place of the string since the last tag
abbrev pub MayReplace : Reading → Matching → Next → List Event → Type 0
MayReplace g m next es = HaveLeft g (trees_in m) (λ left. IsExpected g.grammar left.in_place next) m.progress es

-- this is what the tag of a start of this name may have next
abbrev pub MayHave : Reading → Matching → Name → Tag → List Event → Type 0
MayHave g m q tag es = HaveLeft g (trees_in m) (λ left. IsTag g left.behind q tag) m.progress es

-- This is why a start of this name with these attributes leaves nothing of what is left. What is left, there and behind the
-- start, is told by patterns among these trees.
abbrev pub HasStartReason : Reading → Progress → List (Simple ℕ) → Name → List Attribute → Option Reason → List Event → Type 0
HasStartReason g p trees q xs reason es = HaveLeft g trees (λ left. IsStartReason g trees q xs left reason) p es

-- This is what a start tag of this name may have after these attributes, and what the value of an attribute with the second
-- name may be. What is left, there and after the attributes, is told by patterns among these trees.
abbrev pub HasTagOptions : Reading → Progress → List (Simple ℕ) → Name → List Attribute → Name → Option Options → List Event → Type 0
HasTagOptions g p trees q xs named options es = HaveLeft g trees (λ left. IsTagOptionsOf g trees left.behind q xs named options) p es

-- this is why an end leaves nothing of it, where it may not come
abbrev pub HasEndReason : Reading → Matching → Reason → List Event → Type 0
HasEndReason g m reason es = HaveLeft g (trees_in m) (λ left. IsEndReason g left reason) m.progress es

-- ---- why no continuation is valid

-- This is why an event leaves nothing, given whether the end tag may come in its place. `NothingMatches` says that by the
-- patterns the event leaves something.
abbrev pub IsEventReason : Reading → List (Simple ℕ) → EventKind → Bool → Alternatives → Reason → Type 0
IsEventReason g trees (a_start q xs) may_end left reasons.NothingMatches = IsStartReason g trees q xs left None
IsEventReason g trees (a_start q xs) may_end left (reasons.Tag f) = IsStartReason g trees q xs left (Some (reasons.Tag f))
IsEventReason g trees (a_start q xs) may_end left reasons.Text = IsStartReason g trees q xs left (Some reasons.Text)
IsEventReason g trees (a_start q xs) may_end left reasons.TextValue = ⊥
IsEventReason g trees (a_start q xs) may_end left reasons.Incomplete = ⊥
IsEventReason g trees (a_string s) may_end left r = r ≡ reasons.NothingMatches
IsEventReason g trees an_end true left r = r ≡ reasons.NothingMatches
IsEventReason g trees an_end false left r = IsEndReason g left r

-- No continuation is valid after one of the events, at this line, and this is why that event leaves nothing of what those before
-- it leave, by what is kept of them.
pub record FailFor (g : Reading) (trees : List (Simple ℕ)) (left : Left) (r : Reason) (es : List Event) (line : ℕ) : Type 0 where
  pub fails : FailsWith g trees (left_of left) left.may_end left.event es line
  pub reduced : AreAllReduced (alternatives_of trees (left_of left))
  pub is : IsEventReason g trees fails.fails.kind left.may_end (alternatives_of trees (left_of left)) r

-- there is a reason exactly if it is known that no continuation is valid, and enough is kept of the event; it is that of the event
abbrev pub IsReason : Reading → Progress → List (Simple ℕ) → Option Reason → List Event → Type 0
IsReason g (progress.Going p line) trees reason es = reason ≡ None
IsReason g (progress.Failed line left) trees None es = is_told left.value.event ≡ false
IsReason g (progress.Failed line left) trees (Some r) es = FailFor g trees left.value r es line
IsReason g progress.Lost trees reason es = ⊤

-- No reason is told exactly if none is known, or if nothing is kept of the start that it would be about. So it is told of each
-- event to who asked for reasons before.
pub record TellsNone (p : Progress) (reason : Option Reason) : Type 0 where
  pub none : (reason ≡ None) ↔ (tells_reason p ≡ false)
  pub asked : KeepsTag true p → (reason ≡ None) ↔ (failed_line p ≡ None)
