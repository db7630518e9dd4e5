use Rattle.std.proofs.Common.{map, length}
use Rattle.rnc_syntax.specs.plain.Reading.{lexemes_in}
use Rattle.rnc_syntax.specs.plain.Combinators.{many}
use Rattle.rnc_syntax.specs.plain.Productions.{annotated_parameter_at, parameter_front}
use Rattle.rnc_syntax.specs.views.SyntaxView.{parameter_of}
use Rattle.rnc_syntax.proofs.ReadItems.{Goes}
use Rattle.rnc_syntax.proofs.reading.Reader.parameter_list.Given as goal

abbrev pub invariant-loop-self : goal.invariant-loop-self
invariant-loop-self l = Goes parameter_front annotated_parameter_at (map parameter_of l.parameters.items) (lexemes_in l.self.count l.rest)
    (many parameter_front annotated_parameter_at (lexemes_in l.self.count l.tokens))

abbrev pub decreases-loop-self : goal.decreases-loop-self
decreases-loop-self l = length l.rest
