use Rattle.std.proofs.Common.{None, refl}
use Rattle.pyx.specs.declared.namespaces.places.Places.{Places}
use Rattle.pyx.proofs.Scopes.DeclarationPlaces.{nowhere}
use Rattle.pyx.proofs.namespaces.places.Places.clear.Goals as goal

pub returns : goal.returns
returns c =
    let places : Places = record { prefixes = c.clear.new.self; unprefixed = None } in
    nowhere places refl c.clear.ensures.empty
