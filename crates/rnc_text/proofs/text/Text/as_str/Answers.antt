use Rattle.std.proofs.Common.{ap, ◌∙◌}
use Rattle.std.proofs.lemmas.Str.{IsUtf8-string_bytes}
use Rattle.rnc_model.specs.characters.Decoding.{bytes_of}
use Rattle.rnc_text.proofs.Held.{bytes_kept}
use Rattle.rnc_text.proofs.text.Text.as_str.Goals as goal

pub returns : goal.returns
returns c = c.as_str.ensures.value ∙ bytes_kept _ _ (IsUtf8-string_bytes c.self.inside.text) ∙ ap bytes_of c.self.view_is
