use Rattle.std.proofs.Common.{refl}
use Rattle.element_events.proofs.Kept.{stands_new}
use Rattle.element_events.proofs.elements.ElementEvents.new.Goals as goal

pub returns-clause-stands : goal.returns-clause-stands
returns-clause-stands c = stands_new _ c.new.ensures.state c.new.ensures.passed refl
