use Rattle.std.proofs.Common.{refl, sym, ◌∙◌}
use Rattle.rng_deriv_events.specs.views.OpenPositions.{held_string, open_position, open_state}
use Rattle.rng_deriv_events.specs.declared.state.State.{State}
use Rattle.rng_deriv_events.proofs.Positions.{settles_nothing, settles_blank, settles_text}
use Rattle.rng_deriv_events.proofs.OpenStates.{held_is, held_none, kept_text}
use Rattle.rng_deriv_events.proofs.position.settle.Goals as goal

pub returns-in_default-clause-kept : goal.returns-in_default-clause-kept
returns-in_default-clause-kept c = λ g keys trees k. k.state

pub returns-then-blank-clause-kept : goal.returns-then-blank-clause-kept
returns-then-blank-clause-kept c = λ g keys trees k. k.state

pub returns-clause-kept : goal.returns-clause-kept
returns-clause-kept c = λ g keys trees k. kept_text g keys trees c.args.position.now c.in-Some.field-0 (sym c.take.ensures.value ∙ c.in-Some.is) k

pub returns-in_default-clause-settles : goal.returns-in_default-clause-settles
returns-in_default-clause-settles c = λ g trees m of.
    let p = c.args.position.now in
    settles_nothing g trees (open_position p) m (held_none p.state.table p.held (sym c.take.ensures.value ∙ c.in_default.is)) of

pub returns-then-blank-clause-settles : goal.returns-then-blank-clause-settles
returns-then-blank-clause-settles c = λ g trees m of.
    let p = c.args.position.now in
    settles_blank g trees (open_position p) (held_string p.state.table c.in-Some.field-0) m
    (held_is p.state.table p.held c.in-Some.field-0 (sym c.take.ensures.value ∙ c.in-Some.is)) c.if-blank.true of

pub returns-clause-settles : goal.returns-clause-settles
returns-clause-settles c = λ g trees m of.
    let p = c.args.position.now in
    let s = p.state in
    let n : State = record { table = s.table; now = c.in-Some.field-0.after; carried = s.carried; steps = s.steps } in
    settles_text g trees (open_position p) (held_string s.table c.in-Some.field-0) (open_state n) m
    (held_is s.table p.held c.in-Some.field-0 (sym c.take.ensures.value ∙ c.in-Some.is)) c.if-blank.false refl refl of
