use Rattle.std.proofs.Common.{sym, ap, ◌∙◌}
use Rattle.std.specs.List.{list_all}
use Rattle.pyx.specs.plain.PlainBytes.{is_plain}
use Rattle.pyx.proofs.Lines.PlainTexts.{plain_text}
use Rattle.pyx.proofs.line.all_xml_chars.Goals as goal

pub returns-then-all_plain : goal.returns-then-all_plain
returns-then-all_plain c = c.if-all_plain.true ∙ sym (plain_text c.args.text.now c.utf8.text
    (ap (list_all is_plain) (sym c.as_bytes.ensures.value) ∙ sym c.all_plain.ensures ∙ c.if-all_plain.true))
