use Rattle.std.proofs.Common.{◌≡◌, ◌↔◌, true, false, ◌++◌, ◌∷◌, [], ◌∙◌, ap, subst, sym}
use Rattle.rng_model.specs.matching.GrammarMatching.{Reading}
use Rattle.rng_deriv_laws.specs.plain.LevelEvents.{LevelMatcher}
use Rattle.rng_deriv_events.specs.views.Basis.{reading_by}
use Rattle.rng_deriv_events.specs.views.FailedEvents.{IsFailedEvent, IsKept}
use Rattle.rng_deriv_events.specs.views.Inputs.{event_at}
use Rattle.rng_deriv_events.specs.views.LevelTable.{levels_in}
use Rattle.rng_deriv_events.specs.views.LevelsLeft.{left_of, mark_of}
use Rattle.rng_deriv_events.specs.views.Marks.{IsMarkKept, IsMarkOf}
use Rattle.rng_deriv_events.specs.views.NextEnds.{EndMayCome}
use Rattle.rng_deriv_events.specs.views.OpenPositions.{IsPositionKept, open_position}
use Rattle.rng_deriv_events.specs.views.Positions.{HasCome}
use Rattle.rng_deriv_events.specs.declared.failed_event.FailedEvent.{FailedEvent}
use Rattle.rng_deriv_events.specs.declared.position.Position.{Position}
use Rattle.rng_deriv_events.proofs.KeptLevels.{dead_is}
use Rattle.rng_deriv_events.proofs.KnownDocuments.{comes_on, fails}
use Rattle.rng_deriv_events.proofs.LevelRenewal.{come_renewed}
use Rattle.rng_deriv_events.proofs.MarkedLevels.{left_inside, left_leads}
use Rattle.rng_deriv_events.proofs.NextEnds.{mark_kept, mark_tells}
use Rattle.rng_deriv_events.proofs.progress.go_on.Goals as goal

pub level-requires : goal.level-requires
level-requires g c = c.in_ok-step_by.ensures.keeps.right.state.now

pub left-requires : goal.left-requires
left-requires g c =
    let told = c.in_ok-step_by.ensures in
    let basis = g.D.Derivatives.basis c.args.derivatives.now in
    let p = c.deref_mut-position.result.now in
    let t = c.step_by.new.position.state.table in
    let kept = subst (IsPositionKept (reading_by basis) basis.keys (g.D.Derivatives.trees c.args.derivatives.now)) (sym c.deref_mut-position.ensures.value)
    c.requires.kept in
    record {
      kept = told.keeps.right.state.kept;
      mark = subst (IsMarkKept t) (sym c.of-mark.ensures) (mark_kept p.state.table t told.levels (mark_of p) (kept.state.now, kept.held));
    }

pub returns-then-level-clause-keeps : goal.returns-then-level-clause-keeps
returns-then-level-clause-keeps g c =
    let trees = g.D.Derivatives.trees in
    let basis = g.D.Derivatives.basis c.args.derivatives.now in
    let told = c.in_ok-step_by.ensures in
    let left = c.in_ok-left.ensures in
    let old = trees c.args.derivatives.now in
    let p = c.deref_mut-position.result.now in
    let kept = subst (IsPositionKept (reading_by basis) basis.keys old) (sym c.deref_mut-position.ensures.value) c.requires.kept in
    record {
      basis = left.basis ∙ told.keeps.basis;
      right = left_inside (reading_by basis) basis.keys old (trees c.step_by.new.derivatives) (trees c.left.new.derivatives) p
          (levels_in c.step_by.new.position.state.table) c.of-mark.result c.in_ok-left.left.value kept told.longer left.longer told.levels c.of-mark.ensures left.left;
    }

pub returns-then-level-clause-progress : goal.returns-then-level-clause-progress
returns-then-level-clause-progress g c =
    let trees = g.D.Derivatives.trees in
    let basis = g.D.Derivatives.basis c.args.derivatives.now in
    let reading = reading_by basis in
    let old = trees c.args.derivatives.now in
    let mid = trees c.step_by.new.derivatives in
    let new = trees c.left.new.derivatives in
    let told = c.in_ok-step_by.ensures in
    let left = c.in_ok-left.ensures in
    let l = c.in_ok-left.left.value in
    let mark = c.of-mark.result in
    let n = c.step_by.new.position in
    let t = n.state.table in
    let p = c.deref_mut-position.result.now in
    let same = sym c.deref_mut-position.ensures.value in
    let all = dead_is mid (levels_in t) n.state.now.0 c.level.result.now true told.keeps.right.state.kept.levels c.level.ensures c.if-level.true in
    let kept = subst (IsPositionKept reading basis.keys old) same c.requires.kept in
    let ends = subst (λ (g : Reading). (m : LevelMatcher) → IsMarkOf g mid t mark m → (l.may_end ≡ true) ↔ EndMayCome g m)
    (ap reading_by told.keeps.basis) left.ends in
    λ kind of es come.
    let here = subst (λ (p : Position). HasCome reading old (open_position p) come.0 es) same come.1 in
    fails reading old mid (open_position p) (open_position n) (event_at c.args.line kind) (told.step kind of) come.0 es here new (left_of l) l.may_end l.event
    (left_leads reading basis.keys old mid new p (levels_in t) mark l kept told.longer left.longer told.levels c.of-mark.ensures left.left come.0 es here)
    (mark_tells reading basis.keys old mid p t mark l.may_end kept told.longer told.levels c.of-mark.ensures ends come.0 es here)
    (subst (λ (e : FailedEvent). IsFailedEvent e kind) (sym left.event) (c.in_ok-event.ensures.event kind of)) all

pub renew-requires : goal.renew-requires
renew-requires g c = c.in_ok-step_by.ensures.keeps.right

pub returns-clause-keeps : goal.returns-clause-keeps
returns-clause-keeps g c =
    record { basis = c.in_ok-renew.ensures.keeps.basis ∙ c.in_ok-step_by.ensures.keeps.basis; right = c.in_ok-renew.ensures.keeps.right }

pub returns-clause-progress : goal.returns-clause-progress
returns-clause-progress g c =
    let trees = g.D.Derivatives.trees in
    let reading = reading_by (g.D.Derivatives.basis c.args.derivatives.now) in
    let mid = trees c.step_by.new.derivatives in
    let new = trees c.renew.new.derivatives in
    let p = c.step_by.new.position in
    let some = dead_is mid (levels_in p.state.table) p.state.now.0 c.level.result.now false c.in_ok-step_by.ensures.keeps.right.state.kept.levels c.level.ensures
    c.if-level.false in
    let old = trees c.args.derivatives.now in
    λ kind of es come.
    let event = event_at c.args.line kind in
    come_renewed reading mid new (open_position p) (open_position c.renew.new.position) event.line (es ++ event ∷ [])
    c.in_ok-renew.ensures.renewed
    (comes_on reading old mid (open_position c.deref_mut-position.result.now) (open_position p) event (c.in_ok-step_by.ensures.step kind of) come.0 es
    (subst (λ (p : Position). HasCome reading old (open_position p) come.0 es) (sym c.deref_mut-position.ensures.value) come.1) some)

pub returns-then-level-clause-mode : goal.returns-then-level-clause-mode
returns-then-level-clause-mode g c = λ whole is.
    let same = c.in_ok-step_by.ensures.mode ∙ ap (λ (p : Position). p.keeps_tag) c.deref_mut-position.ensures.value ∙ is in
    subst (IsKept whole) (sym c.in_ok-left.ensures.event) (subst (λ b. IsKept b c.in_ok-event.event) same c.in_ok-event.ensures.kept)

pub returns-clause-mode : goal.returns-clause-mode
returns-clause-mode g c = λ whole is.
    c.in_ok-renew.ensures.mode ∙ c.in_ok-step_by.ensures.mode ∙ ap (λ (p : Position). p.keeps_tag) c.deref_mut-position.ensures.value ∙ is
