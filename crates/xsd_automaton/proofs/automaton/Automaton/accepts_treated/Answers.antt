use Rattle.std.proofs.Common.{sym, subst}
use Rattle.xsd_regex.specs.plain.Positions.{ArePositionsOf}
use Rattle.xsd_positions.specs.views.Positions.{positions_of}
use Rattle.xsd_automaton.proofs.automaton.Automaton.accepts_treated.Goals as goal

pub returns-in-Some : goal.returns-in-Some
returns-in-Some c r of =
    c.in-Some.ensures (positions_of c.self.inside.positions) c.self.inside.positions.first r c.self.invariant.tables
    (subst (λ p. ArePositionsOf r p.first (positions_of p)) (sym c.self.view_is) of)
