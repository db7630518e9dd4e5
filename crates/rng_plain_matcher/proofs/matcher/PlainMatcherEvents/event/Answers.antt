use Rattle.rng_model.specs.documents.EventViews.{event_of}
use Rattle.rng_plain_matcher.proofs.KnownDocuments.{goes_on, knows_next, same_grammar}
use Rattle.rng_plain_matcher.proofs.matcher.PlainMatcherEvents.event.Goals as goal

pub returns-clause-stands : goal.returns-clause-stands
returns-clause-stands c = λ first es h. goes_on c.args.self.now c.take.new.self (event_of c.args.event) c.in_ok-take.ensures.after first es h

pub returns-clause-grammar : goal.returns-clause-grammar
returns-clause-grammar c = same_grammar c.args.self.now c.take.new.self (event_of c.args.event) c.in_ok-take.ensures.after

pub returns-clause-knows : goal.returns-clause-knows
returns-clause-knows c = λ es k. knows_next c.args.self.now c.take.new.self (event_of c.args.event) c.in_ok-take.ensures.after es k
