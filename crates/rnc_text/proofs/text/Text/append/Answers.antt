use Rattle.std.proofs.lemmas.Str.{IsUtf8-string_bytes}
use Rattle.rnc_text.proofs.Held.{appended, still_marks_after}
use Rattle.rnc_text.proofs.text.Text.append.Goals as goal

pub invariant_of-self : goal.invariant_of-self
invariant_of-self c =
    still_marks_after c.push_str.result _ _ _ c.args.characters.now c.push_str.ensures.bytes (IsUtf8-string_bytes c.self.inside.text) c.utf8.characters
    c.self.invariant

pub returns : goal.returns
returns c =
    appended c.push_str.result _ _ _ c.args.characters.now _ c.push_str.ensures.bytes (IsUtf8-string_bytes c.self.inside.text) c.utf8.characters
    c.self.invariant c.self.view_is
