use Rattle.std.proofs.Common.{ap, reverse}
use Rattle.pyx.proofs.Scopes.DeclarationPlaces.{none_found}
use Rattle.pyx.proofs.namespaces.declarations.Declarations.push.Goals as goal

pub invariant_of-self-in-Err : goal.invariant_of-self-in-Err
invariant_of-self-in-Err c = none_found c.clear-in-Err.new.self c.clear-in-Err.ensures (reverse c.clear.new.self.items) (ap reverse c.clear.ensures.items)
