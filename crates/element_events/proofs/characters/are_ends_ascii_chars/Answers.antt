use Rattle.std.proofs.Common.{◌∙◌, ◌-◌, ap, arith, drop, length, sym}
use Rattle.std.proofs.lemmas.Bool.{and_parts}
use Rattle.std.proofs.lemmas.List.{length-drop, take_all}
use Rattle.std.specs.List.{list_all}
use Rattle.element_events.specs.plain.AsciiChars.{is_ascii_char}
use Rattle.element_events.proofs.AsciiChars.{all_in_ends}
use Rattle.element_events.proofs.characters.are_ends_ascii_chars.Goals as goal

pub returns : goal.returns
returns c = λ both.
    let bytes = c.args.bytes.now in
    let last = length bytes - c.args.count in
    let p = and_parts c.are_ascii_chars.result c.are_ascii_chars-2.result both in
    let whole = take_all (length bytes - last) (drop last bytes) (omega (arith, length-drop last bytes)) in
    all_in_ends is_ascii_char bytes c.args.count last (omega (arith, c.requires.1)) (sym c.are_ascii_chars.ensures ∙ p.0)
    (ap (list_all is_ascii_char) (sym whole) ∙ sym c.are_ascii_chars-2.ensures ∙ p.1)
