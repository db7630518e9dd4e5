use Rattle.std.proofs.Common.{◌≡◌, ◌↔◌, IfOk, OnOk, subst, sym, true}
use Rattle.rng_deriv_laws.specs.plain.LevelEvents.{LevelMatcher}
use Rattle.rng_deriv_events.specs.views.Basis.{HoldsBy, reading_by}
use Rattle.rng_deriv_events.specs.views.Inputs.{tests_at}
use Rattle.rng_deriv_events.specs.views.LevelRenewal.{IsPositionRenewed}
use Rattle.rng_deriv_events.specs.views.NextEnds.{EndMayCome}
use Rattle.rng_deriv_events.specs.views.OpenPositions.{IsPositionKept, open_position}
use Rattle.rng_deriv_events.specs.views.Positions.{IsPositionOf}
use Rattle.rng_deriv_events.specs.declared.position.Position.{Position}
use Rattle.rng_deriv_events.proofs.NextEnds.{mark_told, same_ok, tests_ok, with_table}
use Rattle.rng_deriv_events.proofs.next_end.may_end_at.Goals as goal

pub returns-clause-same : goal.returns-clause-same
returns-clause-same g c =
    let d = c.args.derivatives.now in
    let old = g.D.Derivatives.trees d in
    let new = g.D.Derivatives.trees c.may_end.new.derivatives in
    let basis = g.D.Derivatives.basis d in
    let p = c.deref_mut-position.result.now in
    let u = c.may_end.new.table in
    let same = c.deref_mut-position.ensures.value in
    subst (λ (q : Position). OnOk c.may_end.result (IsPositionRenewed old new (open_position q) (open_position (with_table p u)))) same
    (same_ok basis (g.D.Derivatives.basis c.may_end.new.derivatives) old new p u (subst (HoldsBy IsPositionKept basis old) (sym same) c.requires)
    c.may_end.result c.may_end.ensures.longer c.may_end.ensures.keeps)

pub returns-clause-tests : goal.returns-clause-tests
returns-clause-tests g c =
    let d = c.args.derivatives.now in
    let old = g.D.Derivatives.trees d in
    let basis = g.D.Derivatives.basis d in
    let p = c.deref_mut-position.result.now in
    let u = c.may_end.new.table in
    let same = c.deref_mut-position.ensures.value in
    subst (λ (q : Position). OnOk c.may_end.result (tests_at (with_table p u) ≡ tests_at q)) same
    (tests_ok basis (g.D.Derivatives.basis c.may_end.new.derivatives) old (g.D.Derivatives.trees c.may_end.new.derivatives) p u
    (subst (HoldsBy IsPositionKept basis old) (sym same) c.requires) c.may_end.result c.may_end.ensures.keeps)

pub returns-clause-ends : goal.returns-clause-ends
returns-clause-ends g c =
    let d = c.args.derivatives.now in
    let reading = reading_by (g.D.Derivatives.basis d) in
    let trees = g.D.Derivatives.trees d in
    let p = c.deref_mut-position.result.now in
    subst (λ (q : Position). IfOk c.may_end.result (λ told. (m : LevelMatcher) → IsPositionOf reading trees (open_position q) m
    → (told ≡ true) ↔ EndMayCome reading m)) c.deref_mut-position.ensures.value
    (mark_told reading trees p c.of-mark.result c.may_end.result c.of-mark.ensures c.may_end.ensures.ends)
