use Rattle.std.proofs.Common.{◌∙◌, ap, sym, rules}
use Rattle.element_events.specs.views.Kept.{Kept, state_of}
use Rattle.element_events.proofs.Kept.{verdict_none, verdict_stuck, verdict_whole}
use Rattle.element_events.proofs.elements.ElementEvents.finish.Goals as goal

pub returns-in-Some-clause-document : goal.returns-in-Some-clause-document
returns-in-Some-clause-document c = verdict_stuck (Unit {0}) c.args.self c.in-Some.fault (search rules)

pub returns-then-is_whole-clause-document : goal.returns-then-is_whole-clause-document
returns-then-is_whole-clause-document c =
    verdict_whole c.args.self (state_of c.self.inside.state) (ap (λ (k : Kept). k.state) c.self.view_is) (search rules)
    (sym c.is_whole.ensures ∙ c.if-is_whole.true)

pub returns-clause-document : goal.returns-clause-document
returns-clause-document c =
    verdict_none c.args.self (state_of c.self.inside.state) (ap (λ (k : Kept). k.state) c.self.view_is) (search rules)
    (sym c.is_whole.ensures ∙ c.if-is_whole.false)
