use Rattle.std.proofs.Common.{◌≡◌, ◌≤◌, ℕ, length}
use Rattle.rnc_syntax.specs.plain.Reading.{lexemes_in}
use Rattle.rnc_places.specs.plain.FaultNumbers.{from_equal}
use Rattle.rnc_places.proofs.declarations.behind_equal.Given as goal

abbrev pub invariant-tokens : goal.invariant-tokens
invariant-tokens l = record {
  is : (total : ℕ) → from_equal (lexemes_in total l.rest) ≡ from_equal (lexemes_in total l.tokens);
  within : length l.rest ≤ length l.tokens;
}

abbrev pub decreases-tokens : goal.decreases-tokens
decreases-tokens l = length l.rest
