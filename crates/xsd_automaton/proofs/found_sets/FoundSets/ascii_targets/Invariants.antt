use Rattle.std.proofs.Common.{◌≡◌, ◌-◌, length}
use Rattle.xsd_automaton.specs.plain.Sets.{members_at, AreSets, IsLonger, HasTarget, AreTargets}
use Rattle.xsd_positions.specs.views.Positions.{positions_of}
use Rattle.xsd_automaton.specs.views.Sets.{sets_of}
use Rattle.xsd_automaton.proofs.found_sets.FoundSets.ascii_targets.Given as goal

abbrev pub invariant-loop-c : goal.invariant-loop-c
invariant-loop-c l =
    let ps = positions_of l.positions in
    let from = members_at (sets_of l.fn.self) l.set in
    record {
      as_many : length l.targets ≡ 128;
      sets : AreSets ps (sets_of l.self);
      longer : IsLonger (sets_of l.fn.self) (sets_of l.self);
      target : HasTarget ps (sets_of l.self) from (l.c - 1) l.target;
      targets : AreTargets ps (sets_of l.self) from l.c l.targets;
    }
