use Rattle.pyx.proofs.Lines.ReplacedEscapes.{literal_behind}
use Rattle.pyx.proofs.States.TextInPlace.{behind_is, end_behind}
use Rattle.pyx.proofs.pieces.Pieces.text_in_place.Goals as goal

pub returns-then-name-lt-LINE_LIMIT-clause-text : goal.returns-then-name-lt-LINE_LIMIT-clause-text
returns-then-name-lt-LINE_LIMIT-clause-text c = (
  behind_is 45 c.args.line.now c.in_ok-text.text.now c.in_ok-text.ensures,
  literal_behind 45 c.args.line.now c.in_ok-text.text.now c.in_ok-text.ensures (c.requires c.if-not-literal.false),
)

pub returns-then-name-lt-LINE_LIMIT-clause-end : goal.returns-then-name-lt-LINE_LIMIT-clause-end
returns-then-name-lt-LINE_LIMIT-clause-end c =
    end_behind c.args.after.now c.in_ok-rest.rest.now c.in_ok-name.name.now c.in_ok-name.rest.now c.in_ok-rest.ensures c.in_ok-name.ensures.parts
