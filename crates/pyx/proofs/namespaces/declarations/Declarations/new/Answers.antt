use Rattle.std.proofs.Common.{ap, reverse}
use Rattle.pyx.proofs.Scopes.DeclarationPlaces.{none_found}
use Rattle.pyx.proofs.namespaces.declarations.Declarations.new.Goals as goal

pub invariant_of-result : goal.invariant_of-result
invariant_of-result c = none_found c.new-2.result c.new-2.ensures (reverse c.new.result.items) (ap reverse c.new.ensures.items)
