use Rattle.std.proofs.Common.{Some, refl}
use Rattle.std.proofs.lemmas.Result.{on_ok_weaker}
use Rattle.pyx.proofs.Scopes.DeclarationPlaces.{set_of_default, set_of_prefix}
use Rattle.pyx.proofs.namespaces.places.Places.set.Goals as goal

pub returns-in-Some-clause-set : goal.returns-in-Some-clause-set
returns-in-Some-clause-set c =
    let old = c.args.self.now in
    rw (c.in-Some.is) (on_ok_weaker c.set_place.result
    (set_of_prefix old (record old { prefixes = c.set_place.new.prefixes }) c.in-Some.prefix.now (Some c.args.place) refl) c.set_place.ensures.set)

pub returns-in-None-clause-set : goal.returns-in-None-clause-set
returns-in-None-clause-set c =
    let old = c.args.self.now in
    rw (c.in-None.is) (set_of_default old (record old { unprefixed = c.replace.new.dest }) (Some c.args.place) c.replace.ensures.after (λ q. refl))
