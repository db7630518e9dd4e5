use Rattle.std.proofs.Common.{◌+◌, ◌≤◌, drop, length}
use Rattle.rnc_model.specs.tokens.CutTokens.{tokens_of}
use Rattle.rnc_model.specs.tokens.Cut.{lexemes}
use Rattle.rnc_syntax.specs.plain.Reading.{lexemes_in}
use Rattle.rnc_model.specs.grammar.Sentence.{nesting_limit, BreaksNesting, NestsWithin}
use Rattle.rnc_syntax.proofs.NestingSteps.{Exceeds, Within}
use Rattle.rnc_syntax.proofs.nesting.nests_within_limit.Given as goal

abbrev pub invariant-loop-token : goal.invariant-loop-token
invariant-loop-token l = record {
  keeps : Within l.opened l.closed (lexemes_in (length l.tokens) (drop l.token-index l.tokens)) → NestsWithin nesting_limit (lexemes (tokens_of l.tokens));
  breaks : Exceeds l.opened l.closed (lexemes_in (length l.tokens) (drop l.token-index l.tokens)) → BreaksNesting (lexemes (tokens_of l.tokens));
  small : l.opened ≤ l.closed + nesting_limit;
  opened : l.opened ≤ l.token-index;
  closed : l.closed ≤ l.token-index;
}
