use Rattle.std.proofs.Common.{◌∙◌, ap}
use Rattle.rng_deriv.specs.views.Matchers.{Matching}
use Rattle.rncv_validator.proofs.FreshStates.{fresh}
use Rattle.rncv_validator.proofs.validator.fresh_state.Goals as goal

pub returns-in-Ok : goal.returns-in-Ok
returns-in-Ok c = fresh c.args.grammar.now c.in-Ok.matcher c.into_state.result (c.in-Ok.ensures.grammar ∙ ap (λ (m : Matching). m.grammar) c.resume.ensures)
    c.in-Ok.ensures.knows c.in-Ok.ensures.mode c.in-Ok.ensures.kept c.into_state.ensures.state c.into_state.ensures.same

pub returns-in-Ok-new : goal.returns-in-Ok-new
returns-in-Ok-new c = fresh c.args.grammar.now c.in-Ok-new.matcher c.into_state-in-Ok-new.result c.in-Ok-new.ensures.grammar c.in-Ok-new.ensures.knows
    c.in-Ok-new.ensures.mode c.in-Ok-new.ensures.kept c.into_state-in-Ok-new.ensures.state c.into_state-in-Ok-new.ensures.same
