use Rattle.std.proofs.Common.{ℕ, List, take, ◌++◌}
use Rattle.xsd_regex.specs.plain.Positions.{Position}
use Rattle.xsd_automaton.specs.plain.BegunChars.{AreBegun}
use Rattle.xsd_automaton.specs.views.Sets.{IsSetTable, LeadsToSet}
use Rattle.xsd_automaton.proofs.sets.set_behind.Given as goal

abbrev pub invariant-loop-byte : goal.invariant-loop-byte
invariant-loop-byte l = (ps : List Position) (begin : ℕ) (table : IsSetTable ps begin l.rows) (read cs : List ℕ)
    → AreBegun (take l.byte-index l.byte-items) cs → LeadsToSet ps begin l.rows table l.first read → LeadsToSet ps begin l.rows table l.set (read ++ cs)
