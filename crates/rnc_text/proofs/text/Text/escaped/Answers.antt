use Rattle.std.proofs.lemmas.Str.{IsUtf8-string_bytes}
use Rattle.rnc_text.proofs.Held.{marks_kept}
use Rattle.rnc_text.proofs.text.Text.escaped.Goals as goal

pub returns : goal.returns
returns c = rw c.as_slice.ensures.value (marks_kept _ _ _ (IsUtf8-string_bytes c.self.inside.text) c.self.view_is)
