use Rattle.std.proofs.Common.{ℕ, List, [], ◌++◌, subst}
use Rattle.std.specs.Str.{chars}
use Rattle.xsd_regex.specs.plain.Positions.{Position}
use Rattle.xsd_automaton.specs.views.Sets.{IsSetTable, LeadsToSet}
use Rattle.xsd_automaton.proofs.SetTables.{starts}
use Rattle.xsd_automaton.proofs.sets.accepts_by_sets.Goals as goal

pub returns-in-Some : goal.returns-in-Some
returns-in-Some c ps first r tables of =
    let rows = c.args.sets.now.rows.items in
    let behind : (ps : List Position) (begin : ℕ) (table : IsSetTable ps begin rows) (read : List ℕ) → LeadsToSet ps begin rows table 0 read
    → LeadsToSet ps begin rows table c.in-Some.set (read ++ chars c.args.text.now) =
    subst (λ rows. (ps : List Position) (begin : ℕ) (table : IsSetTable ps begin rows) (read : List ℕ) → LeadsToSet ps begin rows table 0 read
    → LeadsToSet ps begin rows table c.in-Some.set (read ++ chars c.args.text.now)) c.as_slice.ensures.value c.in-Some.ensures in
    c.is_end.ensures ps first r tables (chars c.args.text.now) of (behind ps first tables.table [] (starts ps first rows tables.table))
