use Rattle.std.proofs.Common.{ℕ, ◌-◌, length}
use Rattle.pyx.specs.plain.Declarations.{Declared}
use Rattle.pyx.specs.views.ElementView.{AreKnown}
use Rattle.pyx.proofs.known.make_places.Given as goal

abbrev pub invariant-places : goal.invariant-places
invariant-places l = (scope : Declared) (round : ℕ) → AreKnown scope round l.fn.known.items → AreKnown scope round l.known.items

abbrev pub decreases-places : goal.decreases-places
decreases-places l = 256 - length l.known.items
