use Rattle.std.proofs.Common.{◌+◌, ◌≤◌, drop, length}
use Rattle.rnc_model.specs.grammar.Sentence.{nesting_limit, NestsWithin}
use Rattle.rnc_model.specs.tokens.CutTokens.{tokens_of}
use Rattle.rnc_model.specs.tokens.Cut.{lexemes}
use Rattle.rnc_syntax.specs.plain.Reading.{lexemes_in}
use Rattle.rnc_syntax.proofs.NestingSteps.{Within}
use Rattle.rnc_places.proofs.NestingNumber.{Leads}
use Rattle.rnc_places.proofs.nesting.too_deep_number.Given as goal

abbrev pub invariant-loop-index : goal.invariant-loop-index
invariant-loop-index l = record {
  keeps : Within l.opened l.closed (lexemes_in (length l.tokens) (drop l.index l.tokens)) → NestsWithin nesting_limit (lexemes (tokens_of l.tokens));
  leads : Leads (lexemes (tokens_of l.tokens)) l.opened l.closed l.index (lexemes_in (length l.tokens) (drop l.index l.tokens));
  small : l.opened ≤ l.closed + nesting_limit;
  opened : l.opened ≤ l.index;
  closed : l.closed ≤ l.index;
}
