use Rattle.written_grammars.proofs.FoundDatatypes.{known_if_found}
use Rattle.written_grammars.proofs.grammar_builder.is_known.Goals as goal

pub returns : goal.returns
returns c = known_if_found _ c.find.result c.find.ensures.found c.is_ok.result c.is_ok.ensures.value
