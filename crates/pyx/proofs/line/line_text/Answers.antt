use Rattle.std.proofs.Common.{◌≡◌, ◌≤◌, ◌∙◌, arith, refl, sym, ap, length}
use Rattle.std.specs.List.{list_all}
use Rattle.std.specs.Str.{chars}
use Rattle.rng_model.specs.names.Names.{is_xml_char}
use Rattle.pyx.specs.plain.LineReader.{said_of, kind_of}
use Rattle.pyx.specs.plain.Pieces.{ended_line}
use Rattle.pyx.specs.views.View.{line_of}
use Rattle.pyx.proofs.Lines.LineClauses.{said_ended}
use Rattle.pyx.proofs.Lines.PlainTexts.{good_text, odd_text}
use Rattle.pyx.proofs.Lines.LineTexts.{read_when_utf8, read_when_not}
use Rattle.pyx.proofs.line.line_text.Goals as goal

pub returns-in_default : goal.returns-in_default
returns-in_default c = said_ended (line_of c.args.line) (omega (arith, c.if-line-gt-LINE_LIMIT.false)) c.if-not-line.false
    ∙ read_when_not c.args.line.bytes.now c.in_default.ensures.cases.0

pub returns-then-not-all_xml_chars : goal.returns-then-not-all_xml_chars
returns-then-not-all_xml_chars c = said_ended (line_of c.args.line) (omega (arith, c.if-line-gt-LINE_LIMIT.false)) c.if-not-line.false
    ∙ read_when_utf8 c.args.line.bytes.now c.in-Ok.ensures.cases.1
    ∙ odd_text c.args.line.bytes.now (ap (λ bs. list_all is_xml_char (chars bs)) (sym c.in-Ok.ensures.cases.0)
    ∙ sym c.all_xml_chars.ensures ∙ c.if-not-all_xml_chars.true)

pub returns : goal.returns
returns c =
    let whole : line_of c.args.line ≡ ended_line c.in-Ok.text.now = rw (c.if-not-line.false, c.in-Ok.ensures.cases.0) refl in
    let few : length c.args.line.bytes.now ≤ 65536 = omega (arith, c.if-line-gt-LINE_LIMIT.false) in (
      whole,
      ap said_of (sym whole) ∙ said_ended (line_of c.args.line) few c.if-not-line.false
          ∙ good_text c.args.line.bytes.now c.in-Ok.ensures.cases.1 (ap (λ bs. list_all is_xml_char (chars bs)) (sym c.in-Ok.ensures.cases.0)
          ∙ sym c.all_xml_chars.ensures ∙ c.if-not-all_xml_chars.false) ∙ ap kind_of (sym c.in-Ok.ensures.cases.0),
    )
