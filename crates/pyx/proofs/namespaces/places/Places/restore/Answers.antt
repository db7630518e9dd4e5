use Rattle.std.proofs.Common.{refl}
use Rattle.pyx.proofs.Scopes.DeclarationPlaces.{set_of_default, set_of_prefix}
use Rattle.pyx.proofs.namespaces.places.Places.restore.Goals as goal

pub returns-in-Some : goal.returns-in-Some
returns-in-Some c =
    let old = c.args.self.now in
    rw (c.in-Some.is) (λ some. set_of_prefix old (record old { prefixes = c.restore_place.new.prefixes }) c.in-Some.prefix.now c.args.hidden refl
    (c.restore_place.ensures some))

pub returns-in-None : goal.returns-in-None
returns-in-None c =
    let old = c.args.self.now in
    rw (c.in-None.is) (λ some. set_of_default old (record old { unprefixed = c.args.hidden }) c.args.hidden refl (λ q. refl))
