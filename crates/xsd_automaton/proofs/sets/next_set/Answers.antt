use Rattle.std.proofs.Common.{◌++◌, sym, subst}
use Rattle.xsd_automaton.specs.views.Sets.{LeadsToSet}
use Rattle.xsd_automaton.proofs.SetTables.{behind_byte}
use Rattle.xsd_automaton.proofs.sets.next_set.Goals as goal

pub returns-in-Some : goal.returns-in-Some
returns-in-Some c ps begin table read cs begun leads =
    subst (λ t. LeadsToSet ps begin c.args.rows.now table t (read ++ cs)) (sym c.from.ensures)
    (behind_byte ps begin c.args.rows.now table c.args.set c.args.byte c.target.result c.in-Some.row.now read cs (sym c.in-Some.ensures) c.target.ensures
    begun leads)
