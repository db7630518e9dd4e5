use Rattle.std.proofs.Common.{◌≡◌, ◌≤◌, ℕ, length}
use Rattle.rnc_syntax.specs.plain.Reading.{lexemes_in}
use Rattle.rnc_places.specs.plain.FaultNumbers.{behind_tildes, behind_value}
use Rattle.rnc_places.proofs.declarations.behind_value.Given as goal

abbrev pub invariant-segments : goal.invariant-segments
invariant-segments l = record {
  is : (total : ℕ) → behind_tildes (lexemes_in total l.rest) ≡ behind_value (lexemes_in total l.tokens);
  within : length l.rest ≤ length l.tokens;
}

abbrev pub decreases-segments : goal.decreases-segments
decreases-segments l = length l.rest
