use Rattle.std.proofs.Common.{◌≡◌, length, map}
use Rattle.rng_deriv_table.specs.views.Skips.{AreSkipsOf}
use Rattle.rng_deriv_table.proofs.skips.single_skips.Given as goal

abbrev pub invariant-members : goal.invariant-members
invariant-members l = record {
  count : length l.skips.items ≡ l.position;
  skips : AreSkipsOf l.table (map (λ m. m.0) l.members) l.skips.items;
}
