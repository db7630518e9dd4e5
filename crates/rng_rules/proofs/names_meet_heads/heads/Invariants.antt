use Rattle.std.proofs.Common.{◌≡◌, ◌≤◌, length}
use Rattle.rng_rules.specs.views.NamesMeetHeads.{AreHeadsFrom}
use Rattle.rng_rules.proofs.names_meet_heads.heads.Given as goal

abbrev pub invariant-rows : goal.invariant-rows
invariant-rows l = record {
  long : length l.heads.items ≡ length l.rows.standing.items;
  within : l.row ≤ length l.heads.items;
  heads : AreHeadsFrom l.rows l.row l.heads.items;
}

abbrev pub decreases-rows : goal.decreases-rows
decreases-rows l = l.row
