use Rattle.std.proofs.Common.{sym, ap}
use Rattle.xsd_automaton.proofs.FoundPositions.{position_missing}
use Rattle.xsd_automaton.proofs.closing.is_nullable.Goals as goal

pub returns-in-None : goal.returns-in-None
returns-in-None c = sym (ap (λ p. p.is_nullable) (position_missing c.args.positions.now c.args.number c.in-None.ensures))
