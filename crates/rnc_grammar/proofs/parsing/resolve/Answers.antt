use Rattle.rnc_grammar.proofs.ParsingAnswers.{broken_given, only_broken, only_resolved, resolved_given}
use Rattle.rnc_grammar.proofs.parsing.resolve.Goals as goal

pub returns : goal.returns
returns c = record {
  tree = resolved_given _ _ c.resolved.ensures;
  fault = broken_given _ _ c.resolved.ensures;
  only = λ t is. only_resolved _ _ t is c.resolved.ensures;
  declarations = λ broken. only_broken _ _ broken c.resolved.ensures;
}
