use Rattle.std.proofs.Common.{refl}
use Rattle.pyx.proofs.Scopes.KnownNames.{known_more}
use Rattle.pyx.proofs.known.make_places.Goals as goal

pub places-preserved : goal.places-preserved
places-preserved c = λ scope round all. known_more scope round c.places.known.items c.push.new.self.items _ c.in_ok-push.ensures.items refl
    (c.places.invariant scope round all)

pub returns-in_err-push-clause-known : goal.returns-in_err-push-clause-known
returns-in_err-push-clause-known c = rw (c.in_err-push.ensures.items) c.places.invariant
