use Rattle.std.proofs.Common.{arith}
use Rattle.std.proofs.lemmas.List.{length-map}
use Rattle.xsd_positions.specs.views.Positions.{position_of, positions_of}
use Rattle.xsd_automaton.specs.views.Classes.{classes_of}
use Rattle.xsd_automaton.proofs.Within.{are_within}
use Rattle.xsd_automaton.proofs.automaton.Automaton.new.Goals as goal

pub set_table-requires-clause-within : goal.set_table-requires-clause-within
set_table-requires-clause-within c = are_within c.requires.are.1.states (positions_of c.args.positions) c.requires.are.1.are

pub invariant_of-result : goal.invariant_of-result
invariant_of-result c =
    let few = c.requires.few in
    let long = length-map c.args.positions.positions.items (position_of (classes_of c.args.positions)) in
    let some = c.requires.are.1.some in
    record {
      within = are_within c.requires.are.1.states (positions_of c.args.positions) c.requires.are.1.are;
      few = omega (arith, few, long);
      begins = omega (arith, some);
      tables = c.in_ok-sets.ensures;
    }
