use Rattle.std.proofs.Common.{◌≡◌, ◌≤◌, ◌-◌, [], length}
use Rattle.xsd_automaton.specs.plain.Closures.{LeadsTo}
use Rattle.xsd_automaton.specs.plain.Sets.{AreEnds, AreSets, members_at}
use Rattle.xsd_positions.specs.views.Positions.{positions_of}
use Rattle.xsd_automaton.specs.views.Sets.{AreRows, sets_of}
use Rattle.xsd_automaton.proofs.found_sets.set_table.Given as goal

abbrev pub invariant-rows : goal.invariant-rows
invariant-rows l = record {
  sets : AreSets (positions_of l.positions) (sets_of l.found);
  start : LeadsTo (positions_of l.positions) l.positions.first [] (members_at (sets_of l.found) 0);
  many : length l.rows.items ≤ length (sets_of l.found);
  as_many : length l.ends.items ≡ length l.rows.items;
  ends : AreEnds (positions_of l.positions) (sets_of l.found) l.ends.items;
  rows : AreRows (positions_of l.positions) (sets_of l.found) l.rows.items;
}

abbrev pub decreases-rows : goal.decreases-rows
decreases-rows l = 1025 - length l.rows.items
