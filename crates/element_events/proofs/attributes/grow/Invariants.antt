use Rattle.std.proofs.Common.{◌-◌, length}
use Rattle.element_events.proofs.attributes.grow.Given as goal

abbrev pub decreases-slots : goal.decreases-slots
decreases-slots l = l.count - length l.slots.items
