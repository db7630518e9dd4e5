use Rattle.std.proofs.Common.{ap, refl, rules, subst, sym}
use Rattle.std.proofs.lemmas.List.{append-nil}
use Rattle.rng_model.specs.documents.EventViews.{Hands}
use Rattle.element_events.specs.views.Kept.{Kept, state_of}
use Rattle.element_events.specs.views.Told.{call, start_told}
use Rattle.element_events.proofs.Kept.{refused, stands_begins, stuck, taken}
use Rattle.element_events.proofs.elements.ElementEvents.start.Goals as goal

pub returns-in-Ok-clause-stands : goal.returns-in-Ok-clause-stands
returns-in-Ok-clause-stands g c = taken (Hands g.E.Events.stands c.args.events.now c.start.new.events) c.args.self.now _ (call c.args.place
    (start_told c.args.name c.args.attributes.now))
    (state_of c.self.inside.state) (state_of c.start.new.self) (ap (λ (k : Kept). k.state) c.self.view_is) refl (search rules) (search rules)
    (search rules) tt c.in-Ok.ensures.taken

pub returns-in-Ok-clause-begins : goal.returns-in-Ok-clause-begins
returns-in-Ok-clause-begins g c = stands_begins _ (search rules)

pub returns-in-Err-clause-stands : goal.returns-in-Err-clause-stands
returns-in-Err-clause-stands g c = refused (Unit {0}) (Hands g.E.Events.stands c.args.events.now c.start.new.events) c.args.self.now _
    (call c.args.place (start_told c.args.name c.args.attributes.now))
    (state_of c.self.inside.state) (state_of c.start.new.self) c.in-Err.fault (ap (λ (k : Kept). k.state) c.self.view_is) (search rules) refl c.in-Err.ensures.taken

pub returns-in-Some-clause-stands : goal.returns-in-Some-clause-stands
returns-in-Some-clause-stands g c = stuck (Unit {0}) (Hands g.E.Events.stands c.args.events.now c.args.events.now) c.args.self.now (call c.args.place (start_told c.args.name c.args.attributes.now)) c.in-Some.fault
    (search rules) (λ first sent s. subst (g.E.Events.stands first c.args.events.now) (sym (append-nil sent)) s)
