use Rattle.std.proofs.Common.{None, refl}
use Rattle.pyx.specs.declared.namespaces.places.Places.{Places}
use Rattle.pyx.proofs.Scopes.DeclarationPlaces.{nowhere}
use Rattle.pyx.proofs.namespaces.places.Places.new.Goals as goal

pub returns : goal.returns
returns c =
    let places : Places = record { prefixes = c.new.result; unprefixed = None } in
    nowhere places refl c.new.ensures.empty
