use Rattle.std.proofs.Common.{◌∙◌, sym}
use Rattle.element_events.proofs.AsciiChars.{no_chars}
use Rattle.element_events.proofs.characters.is_good_namespace.Goals as goal

pub returns-then-is_empty : goal.returns-then-is_empty
returns-then-is_empty c = sym (no_chars c.args.namespace.now (sym c.is_empty.ensures ∙ c.if-is_empty.true))
