-- Why no continuation is valid, by the event that is kept.
use Rattle.std.proofs.Common.{◌≡◌, ◌↔◌, ◌∙◌, ℕ, List, Bool, true, false, Option, Some, None, unwrap_or, refl, sym, ap, subst}
use Rattle.rng_model.specs.simple.Table.{Table}
use Rattle.rng_model.specs.simple.Tree.{Simple}
use Rattle.rng_model.specs.documents.PyxTrees.{Event, EventKind, a_start}
use Rattle.rng_model.specs.matching.Document.{Attribute}
use Rattle.rng_model.specs.matching.GrammarMatching.{Reading, reading_of}
use Rattle.rng_model.specs.names.Names.{Name}
use Rattle.rng_deriv_events.specs.views.FailedEvents.{IsFailedEvent, IsKept, is_told}
use Rattle.rng_deriv_events.specs.views.Innermost.{innermost_of}
use Rattle.rng_deriv_events.specs.views.LevelsLeft.{left_of}
use Rattle.rng_deriv_events.specs.views.Positions.{KeepsTag, failed_line, tells_reason}
use Rattle.rng_deriv_events.specs.declared.failed_event.FailedEvent.{FailedEvent}
use Rattle.rng_deriv_events.specs.declared.failed_event.FailedEvent.TheVariants as events
use Rattle.rng_deriv_events.specs.declared.progress.Progress.{Progress}
use Rattle.rng_deriv_events.specs.declared.progress.Progress.TheVariants as progress
use Rattle.rng_reasons.specs.Reasons.{Alternatives, IsEndReason, IsStartReason}
use Rattle.rng_reasons.specs.declared.reasons.Reason.{Reason}
use Rattle.rng_reasons.specs.declared.reasons.Reason.TheVariants as reasons
use Rattle.rng_deriv.specs.views.Followers.{HasEndReason, HasStartReason, HaveLeft, IsEventReason, IsReason, TellsNone, alternatives_of}
use Rattle.rng_deriv.specs.views.KeptEvents.{KeepsFailed}
use Rattle.rng_deriv.specs.views.Matchers.{IsStateBy, Knows, Matching, matching_in, trees_in}
use Rattle.rng_deriv.specs.declared.matcher_state.MatcherState.{MatcherState}
use Rattle.rng_deriv.proofs.FollowingEvents.{is_left}

-- no reason of a start says that by the patterns it leaves something
start_reason_is : (g : Reading) (trees : List (Simple ℕ)) (q : Name) (xs : List Attribute) (may_end : Bool) (left : Alternatives) (o : Option Reason)
    → IsStartReason g trees q xs left o → IsEventReason g trees (a_start q xs) may_end left (unwrap_or o reasons.NothingMatches)
start_reason_is g trees q xs may_end left None is = is
start_reason_is g trees q xs may_end left (Some (reasons.Tag f)) is = is
start_reason_is g trees q xs may_end left (Some reasons.Text) is = is
start_reason_is g trees q xs may_end left (Some reasons.TextValue) is = is
start_reason_is g trees q xs may_end left (Some reasons.Incomplete) is = is
start_reason_is g trees q xs may_end left (Some reasons.NothingMatches) is = absurd is

module _ (g : Reading) (trees : List (Simple ℕ)) (event : FailedEvent) (may_end : Bool) where
  -- what is so of the alternatives before a kept event of this kind is why it leaves nothing
  reason_is : (AreSo : Alternatives → Type 0) (r : Reason)
      → ((kind : EventKind) → IsFailedEvent event kind → (left : Alternatives) → AreSo left → IsEventReason g trees kind may_end left r)
      → (p : Progress) → KeepsFailed event may_end p → (es : List Event) → HaveLeft g trees AreSo p es → IsReason g p trees (Some r) es
  reason_is AreSo r why (progress.Going p line) keeps es left = absurd keeps
  reason_is AreSo r why (progress.Failed line left) keeps es w =
      let kind = w.lead.fails.kind in
      let now = alternatives_of trees (left_of left.value) in
      record {
        fails = w.lead;
        reduced = w.reduced;
        is = subst (λ m. IsEventReason g trees kind m now r) (sym keeps.1) (why kind (keeps.0 kind w.lead.is) now w.are_so);
      }
  reason_is AreSo r why progress.Lost keeps es left = absurd keeps

-- ---- at a start

pub start_told : (g : Reading) (trees : List (Simple ℕ)) (q : Name) (xs : List Attribute) (event : FailedEvent) (may_end : Bool)
    → ((kind : EventKind) → IsFailedEvent event kind → kind ≡ a_start q xs) → (p : Progress) → KeepsFailed event may_end p → (o : Option Reason) (es : List Event)
    → HasStartReason g p trees q xs o es → IsReason g p trees (Some (unwrap_or o reasons.NothingMatches)) es
start_told g trees q xs event may_end is p keeps o es told =
    reason_is g trees event may_end (λ left. IsStartReason g trees q xs left o) (unwrap_or o reasons.NothingMatches)
    (λ kind at left so. subst (λ k. IsEventReason g trees k may_end left (unwrap_or o reasons.NothingMatches)) (sym (is kind at))
    (start_reason_is g trees q xs may_end left o so)) p keeps es told

-- ---- at an end that may not come

pub end_told : (g : Reading) (m : Matching) → KeepsFailed events.End false m.progress → (r : Reason) (es : List Event)
    → HasEndReason g m r es → IsReason g m.progress (trees_in m) (Some r) es
end_told g m keeps r es told =
    reason_is g (trees_in m) events.End false (λ left. IsEndReason g left r) r
    (λ kind at left so. subst (λ k. IsEventReason g (trees_in m) k false left r) (sym at) so) m.progress keeps es told

-- ---- where nothing is found

left_there : (t : Table) (s : MatcherState) (state : IsStateBy t s) (event : FailedEvent) (may_end : Bool) (p : Progress) → s.progress ≡ p
    → KeepsFailed event may_end p → (es : List Event) → Knows (matching_in t s) es
    → HaveLeft (reading_of t) (trees_in (matching_in t s)) (λ left. Unit {0}) p es
left_there t s state event may_end (progress.Going p line) is keeps es known = absurd keeps
left_there t s state event may_end (progress.Failed line left) is keeps es known =
    subst (λ p. HaveLeft (reading_of t) (trees_in (matching_in t s)) (λ left. Unit {0}) p es) is
    (is_left t s state (left_of left.value) (ap innermost_of is) (λ left. Unit {0}) tt es known)
left_there t s state event may_end progress.Lost is keeps es known = absurd keeps

pub nothing_told : (t : Table) (s : MatcherState) (state : IsStateBy t s) (event : FailedEvent) (may_end : Bool)
    → ((kind : EventKind) → IsFailedEvent event kind → (left : Alternatives)
    → IsEventReason (reading_of t) (trees_in (matching_in t s)) kind may_end left reasons.NothingMatches)
    → KeepsFailed event may_end s.progress → (es : List Event) → Knows (matching_in t s) es
    → IsReason (reading_of t) s.progress (trees_in (matching_in t s)) (Some reasons.NothingMatches) es
nothing_told t s state event may_end is keeps es known =
    reason_is (reading_of t) (trees_in (matching_in t s)) event may_end (λ left. Unit {0}) reasons.NothingMatches (λ kind at left so. is kind at left)
    s.progress keeps es (left_there t s state event may_end s.progress refl keeps es known)

pub text_is : (g : Reading) (trees : List (Simple ℕ)) (may_end : Bool) (kind : EventKind) → IsFailedEvent events.Text kind → (left : Alternatives)
    → IsEventReason g trees kind may_end left reasons.NothingMatches
text_is g trees may_end kind at left = subst (λ k. IsEventReason g trees k may_end left reasons.NothingMatches) (sym at.1) refl

pub end_is : (g : Reading) (trees : List (Simple ℕ)) (kind : EventKind) → IsFailedEvent events.End kind → (left : Alternatives)
    → IsEventReason g trees kind true left reasons.NothingMatches
end_is g trees kind at left = subst (λ k. IsEventReason g trees k true left reasons.NothingMatches) (sym at) refl

-- ---- where no reason is told

pub none_is : (g : Reading) (trees : List (Simple ℕ)) (p : Progress) (es : List Event) → tells_reason p ≡ false → IsReason g p trees None es
none_is g trees (progress.Going p line) es none = refl
none_is g trees (progress.Failed line left) es none = none
none_is g trees progress.Lost es none = tt

kept_is_told : (e : FailedEvent) → IsKept true e → is_told e ≡ true
kept_is_told (events.Start name attrs) kept = refl
kept_is_told events.UnkeptStart kept = sym kept
kept_is_told events.Text kept = refl
kept_is_told events.End kept = refl

-- to who asked for reasons, no reason is told exactly if none is known
asked_is : (p : Progress) → KeepsTag true p → (tells_reason p ≡ false) ↔ (failed_line p ≡ None)
asked_is (progress.Going p line) keeps = (λ none. refl, λ none. refl)
asked_is (progress.Failed line left) keeps =
    let told = kept_is_told left.value.event keeps in (λ none. absurd (cc), λ none. absurd (cc))
asked_is progress.Lost keeps = (λ none. refl, λ none. refl)

tells_none : (p : Progress) (o : Option Reason) → (o ≡ None) ↔ (tells_reason p ≡ false) → TellsNone p o
tells_none p o none = record {
  none = none;
  asked = λ keeps. let both = asked_is p keeps in (λ e. both.0 (none.0 e), λ e. none.1 (both.1 e));
}

pub none_told : (p : Progress) → tells_reason p ≡ false → TellsNone p None
none_told p e = tells_none p None (λ same. e, λ none. refl)

pub some_told : (p : Progress) (r : Reason) → true ≡ tells_reason p → TellsNone p (Some r)
some_told p r e = tells_none p (Some r) (λ same. absurd (cc), λ none. absurd (cc))

-- where no continuation is known to be none
pub none_known : (p : Progress) → failed_line p ≡ None → tells_reason p ≡ false
none_known (progress.Going p line) none = refl
none_known (progress.Failed line left) none = absurd (cc)
none_known progress.Lost none = refl
