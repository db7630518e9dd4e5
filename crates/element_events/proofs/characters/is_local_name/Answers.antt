use Rattle.std.proofs.Common.{◌∙◌, ap, sym}
use Rattle.element_events.specs.plain.AsciiChars.{is_ascii_name}
use Rattle.element_events.proofs.AsciiChars.{ascii_name}
use Rattle.element_events.proofs.characters.is_local_name.Goals as goal

pub returns-then-is_ascii_name : goal.returns-then-is_ascii_name
returns-then-is_ascii_name c =
    c.if-is_ascii_name.true ∙ sym (ascii_name c.args.text.now (ap is_ascii_name (sym c.as_bytes.ensures.value) ∙ sym c.is_ascii_name.ensures ∙ c.if-is_ascii_name.true))
