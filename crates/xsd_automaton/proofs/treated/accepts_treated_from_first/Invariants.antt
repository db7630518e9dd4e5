use Rattle.std.proofs.Common.{length}
use Rattle.std.specs.Str.{IsUtf8, chars}
use Rattle.xsd_automaton.specs.plain.Closures.{IsClosed, LeadsTo}
use Rattle.xsd_automaton.specs.views.WhiteSpace.{left_by, treated}
use Rattle.xsd_positions.specs.views.Positions.{positions_of}
use Rattle.xsd_automaton.specs.plain.ReadParts.{IsRead}
use Rattle.xsd_automaton.proofs.treated.accepts_treated_from_first.Given as goal

abbrev pub invariant-parts : goal.invariant-parts
invariant-parts l = record {
  utf8 : IsUtf8 l.rest;
  closed : IsClosed (positions_of l.positions) l.reached;
  leads : IsRead (λ read. LeadsTo (positions_of l.positions) l.positions.first read l.reached) (chars (treated l.white_space l.text))
      (left_by l.white_space l.rest);
}

abbrev pub decreases-parts : goal.decreases-parts
decreases-parts l = length l.rest
