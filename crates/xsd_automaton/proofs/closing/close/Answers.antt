use Rattle.std.proofs.Common.{sym}
use Rattle.xsd_positions.specs.views.Positions.{positions_of}
use Rattle.xsd_automaton.proofs.WorkList.{goes_on, is_done}
use Rattle.xsd_automaton.proofs.closing.close.Goals as goal

pub loop-number-preserved : goal.loop-number-preserved
loop-number-preserved c =
    goes_on (positions_of c.args.positions.now) c.args.reached.now c.requires.within c.loop-number.reached c.add_edges.new.reached c.loop-number.place
    c.in-Some.number c.loop-number.invariant (sym c.in-Some.ensures.value) c.add_edges.ensures

pub returns-clause-closed : goal.returns-clause-closed
returns-clause-closed c =
    is_done (positions_of c.args.positions.now) c.args.reached.now c.loop-number.reached c.loop-number.place c.loop-number.invariant
    (sym c.in_default.ensures.value)
