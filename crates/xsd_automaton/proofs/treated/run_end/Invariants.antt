use Rattle.std.proofs.Common.{◌≡◌, ℕ, List, take, ◌++◌, true}
use Rattle.std.specs.List.{list_all}
use Rattle.rng_model.specs.plain.BlankRuns.{is_run_byte}
use Rattle.xsd_regex.specs.plain.Positions.{Position}
use Rattle.xsd_automaton.specs.plain.BegunChars.{AreBegun}
use Rattle.xsd_automaton.specs.views.Sets.{IsSetTable, LeadsToSet}
use Rattle.xsd_automaton.proofs.treated.run_end.Given as goal

abbrev pub invariant-loop-len : goal.invariant-loop-len
invariant-loop-len l = record {
  run : list_all is_run_byte (take l.len l.text) ≡ true;
  leads : (ps : List Position) (begin : ℕ) (table : IsSetTable ps begin l.rows) (read cs : List ℕ) → AreBegun (take l.len l.text) cs
      → LeadsToSet ps begin l.rows table l.first read → LeadsToSet ps begin l.rows table l.set (read ++ cs);
}
