use Rattle.std.proofs.Common.{map, length}
use Rattle.rnc_syntax.specs.plain.Reading.{lexemes_in}
use Rattle.rnc_syntax.specs.plain.Productions.{declaration_front, declaration_at, declarations_at}
use Rattle.rnc_syntax.specs.views.SyntaxView.{declaration_of}
use Rattle.rnc_syntax.proofs.ReadItems.{Goes}
use Rattle.rnc_syntax.proofs.reading.Reader.declarations.Given as goal

abbrev pub invariant-loop-self : goal.invariant-loop-self
invariant-loop-self l = Goes declaration_front declaration_at (map declaration_of l.all.items) (lexemes_in l.self.count l.rest)
    (declarations_at (lexemes_in l.self.count l.tokens))

abbrev pub decreases-loop-self : goal.decreases-loop-self
decreases-loop-self l = length l.rest
