use Rattle.std.proofs.Common.{is_some, ◌∙◌, sym, ap, ap₂}
use Rattle.std.specs.Str.{bytes_eq}
use Rattle.rng_model.specs.xsd.primitives.Octets.{without_blanks}
use Rattle.xsd_octets.proofs.Base64Values.{same_characters}
use Rattle.xsd_octets.proofs.base64_binary.is_same_base64_binary.Goals as goal

pub returns-then-is_some : goal.returns-then-is_some
returns-then-is_some c =
    c.is_same_without_blanks.ensures
    ∙ ap₂ (λ s t. bytes_eq (without_blanks s) (without_blanks t)) c.as_bytes.ensures.value c.as_bytes-then-is_some.ensures.value
    ∙ same_characters c.args.a.now c.args.b.now (ap is_some (sym c.character_count.ensures) ∙ sym c.if-is_some.ensures)
