use Rattle.std.proofs.Common.{sym, ap, ◌∙◌}
use Rattle.std.specs.Str.{chars}
use Rattle.rng_model.specs.datatypes.Datatypes.{is_nmtoken}
use Rattle.xsd_types.proofs.AsciiWords.{nmtoken-ascii}
use Rattle.xsd_types.proofs.names.is_nmtoken.Goals as goal

pub returns-then-is_ascii_nmtoken : goal.returns-then-is_ascii_nmtoken
returns-then-is_ascii_nmtoken c =
    c.if-is_ascii_nmtoken.true
    ∙ sym (ap (λ t. is_nmtoken (chars t)) (sym c.as_bytes.ensures.value) ∙ nmtoken-ascii c.as_bytes.result.now (sym c.is_ascii_nmtoken.ensures ∙ c.if-is_ascii_nmtoken.true))
