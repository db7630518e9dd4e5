use Rattle.std.proofs.Common.{◌∙◌, arith, refl}
use Rattle.pyx.specs.plain.Pieces.{ended_line}
use Rattle.pyx.proofs.Lines.LineClauses.{said_ended}
use Rattle.pyx.proofs.Lines.PlainTexts.{good_text, plain_text}
use Rattle.pyx.proofs.pieces.Pieces.text_line.Goals as goal

pub text_line-requires-clause-good : goal.text_line-requires-clause-good
text_line-requires-clause-good g c = said_ended (ended_line c.args.text.now) (omega (arith, c.if-text-le-LINE_LIMIT.true)) refl
    ∙ good_text c.args.text.now c.utf8.text (plain_text c.args.text.now c.utf8.text c.requires.plain)
