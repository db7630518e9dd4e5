use Rattle.std.proofs.Common.{◌≡◌, ◌++◌, take}
use Rattle.rng_deriv_events.specs.views.LevelRenewal.{rests_of}
use Rattle.rng_deriv_events.proofs.level_renewal.add_rests.Given as goal

abbrev pub invariant-links : goal.invariant-links
invariant-links l = l.held.items ≡ l.fn.held.items ++ rests_of (take l.link-index l.links)
