use Rattle.element_events.specs.views.Told.{call, start_told}
use Rattle.rncv_events.proofs.SettledCalls.{leads_unless, of_fault}
use Rattle.rncv_events.proofs.telling.tell_start.Goals as goal

pub returns-clause-leads : goal.returns-clause-leads
returns-clause-leads c = leads_unless c.args.matcher.now c.tell_passed.new.matcher c.start.new.events c.args.calls.now c.start.new.self
    (call c.args.place (start_told c.args.name c.args.attributes.now)) c.start.result c.in_ok-tell_passed.ensures c.start.ensures.stands

pub returns-clause-fault : goal.returns-clause-fault
returns-clause-fault c = of_fault c.start.new.self c.start.result c.start.ensures.fault
