use Rattle.rng_model.specs.documents.PyxTrees.{an_end}
use Rattle.element_events.specs.views.Told.{call}
use Rattle.rncv_events.proofs.SettledCalls.{leads_unless, of_fault}
use Rattle.rncv_events.proofs.telling.tell_end.Goals as goal

pub returns-clause-leads : goal.returns-clause-leads
returns-clause-leads c = leads_unless c.args.matcher.now c.tell_passed.new.matcher c.end.new.events c.args.calls.now c.end.new.self
    (call c.args.place an_end) c.end.result c.in_ok-tell_passed.ensures c.end.ensures.stands

pub returns-clause-fault : goal.returns-clause-fault
returns-clause-fault c = of_fault c.end.new.self c.end.result c.end.ensures.fault
