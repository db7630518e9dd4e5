use Rattle.std.proofs.Common.{◌≡◌, take}
use Rattle.std.specs.List.{list_all}
use Rattle.element_events.specs.plain.AsciiChars.{is_ascii_char}
use Rattle.element_events.proofs.characters.are_ascii_chars.Given as goal

abbrev pub invariant-bytes : goal.invariant-bytes
invariant-bytes l = l.all ≡ list_all is_ascii_char (take l.byte-index l.fn.bytes)
