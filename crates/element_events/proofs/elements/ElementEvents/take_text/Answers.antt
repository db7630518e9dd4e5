use Rattle.std.proofs.Common.{ap, refl, rules}
use Rattle.rng_model.specs.documents.PyxTrees.{a_string}
use Rattle.element_events.specs.views.Kept.{Kept, state_of}
use Rattle.element_events.specs.views.Told.{call}
use Rattle.element_events.proofs.Kept.{text_refused, stands_begins, text_taken}
use Rattle.element_events.proofs.elements.ElementEvents.take_text.Goals as goal

pub returns-in-Ok-clause-stands : goal.returns-in-Ok-clause-stands
returns-in-Ok-clause-stands c place = text_taken c.args.self.now _ (call place (a_string c.args.text.now)) _ c.self.inside.state.passed c.text.new.self.passed
    (state_of c.self.inside.state) (state_of c.text.new.self) (ap (λ (k : Kept). k.state) c.self.view_is) refl (ap (λ (k : Kept). k.passed) c.self.view_is) refl
    (search rules) (search rules) (λ text. refl) (c.in-Ok.ensures.taken place)

pub returns-in-Ok-clause-begins : goal.returns-in-Ok-clause-begins
returns-in-Ok-clause-begins c = stands_begins _ (search rules)

pub returns-in-Err-clause-stands : goal.returns-in-Err-clause-stands
returns-in-Err-clause-stands c place = text_refused (Unit {0}) c.args.self.now _ (call place (a_string c.args.text.now)) c.self.inside.state.passed
    c.text.new.self.passed (state_of c.self.inside.state) (state_of c.text.new.self) c.in-Err.fault (ap (λ (k : Kept). k.state) c.self.view_is) (search rules) refl
    (c.in-Err.ensures.taken place)
