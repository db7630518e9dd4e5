use Rattle.std.proofs.Common.{◌≡◌, ◌∙◌, ◌++◌, ap, flat_map, map-id, string_bytes, sym}
use Rattle.std.proofs.lemmas.Iterator.{YieldsList-from_chars}
use Rattle.std.proofs.lemmas.Iterator.Consumers.{YieldsList-end}
use Rattle.std.specs.Str.{chars}
use Rattle.expected_text.specs.plain.Fields.{escaped_char}
use Rattle.expected_text.proofs.FieldChars.{field_is}
use Rattle.expected_text.proofs.fields.write_field.Goals as goal

pub returns : goal.returns
returns c =
    let chars_of = YieldsList-from_chars c.args.words.now c.utf8.words cc in
    let t = YieldsList-end chars_of c.loop-c.yielded _ c.loop-c.yielded_by _ _ c.in-None.is c.next.ensures.steps in
    let read : c.loop-c.yielded ≡ chars c.args.words.now = sym (map-id c.loop-c.yielded) ∙ t.0 in
    c.loop-c.invariant ∙ ap (λ w. string_bytes c.args.text.now ++ w) (ap (flat_map escaped_char) read ∙ field_is c.args.words.now c.utf8.words)
