use Rattle.std.proofs.Common.{◌≡◌, ◌∙◌, IfSome, Some, true, false, map, ap, refl, subst, sym}
use Rattle.rng_model.specs.documents.EventViews.{attribute_of}
use Rattle.rng_model.specs.documents.PyxTrees.{a_start}
use Rattle.rng_model.specs.matching.GrammarMatching.{reading_of}
use Rattle.rng_model.specs.names.NameViews.{name_of}
use Rattle.rng_deriv_events.specs.views.FailedEvents.{IsFailedEvent, is_told}
use Rattle.rng_deriv_events.specs.views.Positions.{tells_reason}
use Rattle.rng_deriv_events.specs.declared.failed_event.FailedEvent.{FailedEvent}
use Rattle.rng_deriv_events.specs.declared.failed_event.FailedEvent.TheVariants as events
use Rattle.rng_reasons.specs.declared.reasons.Reason.{Reason}
use Rattle.rng_reasons.specs.declared.reasons.Reason.TheVariants as reasons
use Rattle.rng_deriv.specs.views.Followers.{IsReason}
use Rattle.rng_deriv.specs.views.KeptEvents.{KeepsFailed}
use Rattle.rng_deriv.specs.views.Matchers.{matching_in, trees_in}
use Rattle.rng_deriv.proofs.FailedReasons.{end_is, end_told, none_is, none_known, none_told, nothing_told, some_told, start_told, text_is}
use Rattle.rng_deriv.proofs.matcher_state.MatcherState.reason.Goals as goal

pub returns-in_ok-reason-in-Start-clause-reason : goal.returns-in_ok-reason-in-Start-clause-reason
returns-in_ok-reason-in-Start-clause-reason c = λ es known.
    let t = c.args.grammar.now in
    let p = c.args.self.now.progress in
    let keeps : KeepsFailed c.in-Some.event c.in-Some.may_end p = subst (λ o. IfSome o (λ e. KeepsFailed e.0 e.1 p)) c.in-Some.is c.in_ok-event.ensures.event in
    let new = trees_in (matching_in t c.start_reason.new.self) in
    let q = name_of c.in-Start.name in
    subst (λ (r : Reason). IsReason (reading_of t) p new (Some r) es) (sym c.unwrap_or.ensures)
    (start_told (reading_of t) new q (map attribute_of c.as_slice.result.now) c.in-Some.event c.in-Some.may_end
    (λ kind at. subst (λ (e : FailedEvent). IsFailedEvent e kind) c.in-Start.is at ∙ ap (λ xs. a_start q (map attribute_of xs)) (sym c.as_slice.ensures.value))
    p keeps c.in_ok-reason-in-Start.reason es (c.in_ok-reason-in-Start.ensures.reason es known))

pub returns-in_ok-reason-in-End-clause-reason : goal.returns-in_ok-reason-in-End-clause-reason
returns-in_ok-reason-in-End-clause-reason c = λ es known.
    let t = c.args.grammar.now in
    let s = c.args.self.now in
    let keeps : KeepsFailed events.End false s.progress = subst (λ m. KeepsFailed events.End m s.progress) c.if-may_end.false
    (subst (λ e. KeepsFailed e c.in-Some.may_end s.progress) c.in-End.is
    (subst (λ o. IfSome o (λ e. KeepsFailed e.0 e.1 s.progress)) c.in-Some.is c.in_ok-event.ensures.event)) in
    end_told (reading_of t) (matching_in t s) keeps c.in_ok-reason-in-End.reason es (c.in_ok-reason-in-End.ensures es known)

pub returns-then-may_end-clause-reason : goal.returns-then-may_end-clause-reason
returns-then-may_end-clause-reason c = λ es known.
    let t = c.args.grammar.now in
    let s = c.args.self.now in
    let new = trees_in (matching_in t s) in
    let keeps : KeepsFailed events.End true s.progress = subst (λ m. KeepsFailed events.End m s.progress) c.if-may_end.true
    (subst (λ e. KeepsFailed e c.in-Some.may_end s.progress) c.in-End.is
    (subst (λ o. IfSome o (λ e. KeepsFailed e.0 e.1 s.progress)) c.in-Some.is c.in_ok-event.ensures.event)) in
    nothing_told t s c.requires events.End true (end_is (reading_of t) new) keeps es known

pub returns-in-Text-clause-reason : goal.returns-in-Text-clause-reason
returns-in-Text-clause-reason c = λ es known.
    let t = c.args.grammar.now in
    let s = c.args.self.now in
    let new = trees_in (matching_in t s) in
    let keeps : KeepsFailed events.Text c.in-Some.may_end s.progress = subst (λ e. KeepsFailed e c.in-Some.may_end s.progress) c.in-Text.is
    (subst (λ o. IfSome o (λ e. KeepsFailed e.0 e.1 s.progress)) c.in-Some.is c.in_ok-event.ensures.event) in
    nothing_told t s c.requires events.Text c.in-Some.may_end (text_is (reading_of t) new c.in-Some.may_end) keeps es known

pub returns-in_ok-reason-in-Start-clause-none : goal.returns-in_ok-reason-in-Start-clause-none
returns-in_ok-reason-in-Start-clause-none c =
    let p = c.args.self.now.progress in
    let told = subst (λ o. IfSome o (λ e. is_told e.0 ≡ tells_reason p)) c.in-Some.is c.in_ok-event.ensures.told in
    some_told p c.unwrap_or.result (subst (λ e. is_told e ≡ tells_reason p) c.in-Start.is told)

pub returns-in_ok-reason-in-End-clause-none : goal.returns-in_ok-reason-in-End-clause-none
returns-in_ok-reason-in-End-clause-none c =
    let p = c.args.self.now.progress in
    let told = subst (λ o. IfSome o (λ e. is_told e.0 ≡ tells_reason p)) c.in-Some.is c.in_ok-event.ensures.told in
    some_told p c.in_ok-reason-in-End.reason (subst (λ e. is_told e ≡ tells_reason p) c.in-End.is told)

pub returns-then-may_end-clause-none : goal.returns-then-may_end-clause-none
returns-then-may_end-clause-none c =
    let p = c.args.self.now.progress in
    let told = subst (λ o. IfSome o (λ e. is_told e.0 ≡ tells_reason p)) c.in-Some.is c.in_ok-event.ensures.told in
    some_told p reasons.NothingMatches (subst (λ e. is_told e ≡ tells_reason p) c.in-End.is told)

pub returns-in-Text-clause-none : goal.returns-in-Text-clause-none
returns-in-Text-clause-none c =
    let p = c.args.self.now.progress in
    let told = subst (λ o. IfSome o (λ e. is_told e.0 ≡ tells_reason p)) c.in-Some.is c.in_ok-event.ensures.told in
    some_told p reasons.NothingMatches (subst (λ e. is_told e ≡ tells_reason p) c.in-Text.is told)

pub returns-in-UnkeptStart-clause-none : goal.returns-in-UnkeptStart-clause-none
returns-in-UnkeptStart-clause-none c =
    let p = c.args.self.now.progress in
    let told = subst (λ o. IfSome o (λ e. is_told e.0 ≡ tells_reason p)) c.in-Some.is c.in_ok-event.ensures.told in
    none_told p (sym (subst (λ e. is_told e ≡ tells_reason p) c.in-UnkeptStart.is told))

pub returns-in-UnkeptStart-clause-reason : goal.returns-in-UnkeptStart-clause-reason
returns-in-UnkeptStart-clause-reason c = λ es known.
    let t = c.args.grammar.now in
    let s = c.args.self.now in
    none_is (reading_of t) (trees_in (matching_in t s)) s.progress es ((returns-in-UnkeptStart-clause-none c).none.0 refl)

pub returns-in_default-clause-none : goal.returns-in_default-clause-none
returns-in_default-clause-none c =
    let p = c.args.self.now.progress in
    none_told p (none_known p (c.in_ok-event.ensures.none.0 c.in_default.is))
