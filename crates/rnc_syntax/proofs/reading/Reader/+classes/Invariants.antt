use Rattle.std.proofs.Common.{map, length, ◌+◌, ◌*◌}
use Rattle.rnc_model.specs.declared.token.Sign.TheVariants.{Bar}
use Rattle.rnc_syntax.specs.plain.Reading.{lexemes_in}
use Rattle.rnc_syntax.specs.plain.Combinators.{follow, many, with_front}
use Rattle.rnc_syntax.specs.plain.Productions.{basic_with, inside_at}
use Rattle.rnc_syntax.specs.views.SyntaxView.{class_of}
use Rattle.rnc_syntax.proofs.ReadItems.{Goes}
use Rattle.rnc_syntax.proofs.reading.Reader.+classes.Given as goal

abbrev pub decreases-inner_class : goal.decreases-inner_class
decreases-inner_class l = 8 * l.levels

abbrev pub decreases-basic : goal.decreases-basic
decreases-basic l = 8 * l.levels + 2

abbrev pub decreases-bare_basic : goal.decreases-bare_basic
decreases-bare_basic l = 8 * l.levels + 1

abbrev pub decreases-more_classes : goal.decreases-more_classes
decreases-more_classes l = 8 * l.levels + 3

abbrev pub decreases-choice : goal.decreases-choice
decreases-choice l = 8 * l.levels + 4

abbrev pub decreases-class : goal.decreases-class
decreases-class l = 8 * l.levels + 6

abbrev pub decreases-bare_class : goal.decreases-bare_class
decreases-bare_class l = 8 * l.levels + 5

abbrev pub invariant-more_classes-loop-after : goal.invariant-more_classes-loop-after
invariant-more_classes-loop-after l = Goes (follow Bar) (basic_with (inside_at l.levels).class) (map class_of l.all.items) (lexemes_in l.self.count l.rest)
    (with_front (map class_of l.fn.all.items) (many (follow Bar) (basic_with (inside_at l.levels).class) (lexemes_in l.self.count l.tokens)))

abbrev pub decreases-more_classes-loop-after : goal.decreases-more_classes-loop-after
decreases-more_classes-loop-after l = length l.rest
