use Rattle.std.proofs.Common.{◌≡◌, drop}
use Rattle.pyx.proofs.opened.remove.Given as goal

abbrev pub invariant-innermost : goal.invariant-innermost
invariant-innermost l = drop l.left l.declarations ≡ drop l.fn.count l.fn.declarations

abbrev pub decreases-innermost : goal.decreases-innermost
decreases-innermost l = l.left
