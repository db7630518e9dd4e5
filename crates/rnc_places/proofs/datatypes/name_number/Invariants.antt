use Rattle.std.proofs.Common.{◌≡◌, ◌≤◌, ◌+◌, ◌-◌, ℕ, length}
use Rattle.rnc_syntax.specs.plain.Reading.{lexemes_in}
use Rattle.rnc_places.specs.declared.prefixes.Part.TheVariants.{Body}
use Rattle.rnc_places.specs.plain.DatatypeNumbers.{name_number, names}
use Rattle.rnc_places.proofs.datatypes.name_number.Given as goal

abbrev pub invariant-tokens : goal.invariant-tokens
invariant-tokens l = record {
  number : (total : ℕ) → (length l.tokens - length l.rest) + name_number l.left (names l.depth l.part (lexemes_in total l.rest))
      ≡ name_number l.count (names 0 Body (lexemes_in total l.tokens));
  depth : l.depth + length l.rest ≤ length l.tokens;
  within : length l.rest ≤ length l.tokens;
}

abbrev pub decreases-tokens : goal.decreases-tokens
decreases-tokens l = length l.rest
