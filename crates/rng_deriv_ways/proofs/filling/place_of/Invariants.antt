use Rattle.std.proofs.Common.{◌≡◌, All, take}
use Rattle.rng_deriv_ways.proofs.filling.place_of.Given as goal

abbrev pub invariant-others : goal.invariant-others
invariant-others l = All (λ w. ¬ (w.leaf ≡ l.leaf)) (take l.place l.ways)
