use Rattle.xsd_automaton.proofs.FoundPositions.{next_missing}
use Rattle.xsd_automaton.proofs.steps.next_behind.Goals as goal

pub returns-in_default : goal.returns-in_default
returns-in_default c = next_missing c.args.positions.now c.args.number c.args.c c.in_default.ensures
