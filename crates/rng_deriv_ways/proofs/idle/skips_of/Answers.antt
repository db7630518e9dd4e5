use Rattle.std.proofs.Common.{subst}
use Rattle.rng_deriv_ways.specs.plain.Takers.{AreCandidates}
use Rattle.rng_deriv_ways.proofs.idle.skips_of.Goals as goal

pub returns-in-Some : goal.returns-in-Some
returns-in-Some c = λ ns right.
    let among = subst (AreCandidates right.0 ns right.1) c.in-Elements.is right.2 in
    (c.in-Some.ensures ns among.2).right
