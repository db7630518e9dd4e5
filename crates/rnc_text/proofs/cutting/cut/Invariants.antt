use Rattle.std.proofs.Common.{length}
use Rattle.rnc_model.specs.tokens.CutTokens.{tokens_of}
use Rattle.rnc_text.proofs.OneCut.{HasCut}
use Rattle.rnc_text.proofs.cutting.cut.Given as goal

abbrev pub invariant-pieces : goal.invariant-pieces
invariant-pieces l = HasCut l.text (tokens_of l.tokens.items) l.cursor

abbrev pub decreases-pieces : goal.decreases-pieces
decreases-pieces l = length l.cursor.rest.now
