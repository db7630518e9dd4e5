use Rattle.std.proofs.Common.{◌≡◌, ◌≤◌, ◌+◌, length}
use Rattle.rnc_syntax.specs.plain.Reading.{lexemes_in}
use Rattle.rnc_syntax.specs.plain.Productions.{annotation_end}
use Rattle.rnc_syntax.proofs.reading.Reader.annotation_end.Given as goal

abbrev pub invariant-loop-role : goal.invariant-loop-role
invariant-loop-role l = record {
  whole : annotation_end l.open (lexemes_in l.self.count l.rest) ≡ annotation_end 0 (lexemes_in l.self.count l.tokens);
  few : l.open + length l.rest ≤ length l.tokens;
}

abbrev pub decreases-loop-role : goal.decreases-loop-role
decreases-loop-role l = length l.rest
