use Rattle.std.proofs.Common.{◌≡◌, All, take}
use Rattle.rng_deriv.proofs.starts.place_of_rest.Given as goal

abbrev pub invariant-others : goal.invariant-others
invariant-others l = All (λ w. ¬ (w.rest ≡ l.rest)) (take l.place l.ways)
