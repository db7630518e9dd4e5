use Rattle.std.proofs.Common.{ℕ, List, length}
use Rattle.std.specs.Str.{IsUtf8, chars}
use Rattle.xsd_regex.specs.plain.Positions.{Position}
use Rattle.xsd_automaton.specs.views.Sets.{IsSetTable, LeadsToSet}
use Rattle.xsd_automaton.specs.views.WhiteSpace.{left_by, treated}
use Rattle.xsd_automaton.specs.plain.ReadParts.{IsRead}
use Rattle.xsd_automaton.proofs.treated.accepts_treated_by_sets.Given as goal

abbrev pub invariant-runs : goal.invariant-runs
invariant-runs l = record {
  utf8 : IsUtf8 l.rest;
  leads : (ps : List Position) (first : ℕ) (table : IsSetTable ps first l.sets.rows.items)
      → IsRead (LeadsToSet ps first l.sets.rows.items table l.set) (chars (treated l.white_space l.text)) (left_by l.white_space l.rest);
}

abbrev pub decreases-runs : goal.decreases-runs
decreases-runs l = length l.rest
