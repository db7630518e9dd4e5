use Rattle.std.proofs.Common.{◌≡◌, length, take}
use Rattle.rng_deriv_events.specs.views.LevelRenewal.{with_rests}
use Rattle.rng_deriv_events.proofs.level_renewal.put_rests.Given as goal

abbrev pub invariant-rests : goal.invariant-rests
invariant-rests l = record {
  around : l.level.around ≡ l.fn.level.around;
  count : length l.level.links.items ≡ length l.fn.level.links.items;
  links : l.level.links.items ≡ with_rests l.fn.level.links.items (take l.place l.rests);
}
