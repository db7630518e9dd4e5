use Rattle.std.proofs.Common.{◌∙◌, ◌++◌, List, append_assoc, option_map, rules, subst, sym}
use Rattle.rng_model.specs.documents.PyxTrees.{Event}
use Rattle.pyx.specs.plain.DocumentReader.{text_ended}
use Rattle.pyx.specs.views.View.{state_of, state_with}
use Rattle.pyx.proofs.States.JudgedNames.{closes, end_judged}
use Rattle.pyx.proofs.state.State.end.Goals as goal

pub returns : goal.returns
returns g c = rw (
  end_judged c.args.bytes c.args.name.now (state_with (option_map (λ x. x.now) c.args.text) c.args.self.now)
      (sym c.is_innermost.ensures ∙ c.if-not-is_innermost.false),
  closes (text_ended (state_with (option_map (λ x. x.now) c.args.text) c.args.self.now)) (state_of c.end_text.new.self) c.in_ok-end_text.ensures.text.0,
  c.close.ensures,
  c.end_text.ensures.tag ∙ c.requires,
) (
  search rules,
  λ first sent h.
      let text = (text_ended (state_with (option_map (λ x. x.now) c.args.text) c.args.self.now)).1 in
      subst (λ (es : List Event). g.E.Events.stands first c.event.new.self es) (append_assoc sent text _)
      (c.in_ok-event.ensures first (sent ++ text) (c.in_ok-end_text.ensures.text.1 first sent h)),
)
