use Rattle.std.proofs.Common.{sym, ap, ◌∙◌}
use Rattle.std.specs.Str.{chars}
use Rattle.rng_model.specs.names.Names.{is_ncname}
use Rattle.xsd_types.proofs.AsciiWords.{ncname-ascii}
use Rattle.xsd_types.proofs.names.is_ncname.Goals as goal

pub returns-then-is_ascii_ncname : goal.returns-then-is_ascii_ncname
returns-then-is_ascii_ncname c =
    c.if-is_ascii_ncname.true
    ∙ sym (ap (λ t. is_ncname (chars t)) (sym c.as_bytes.ensures.value) ∙ ncname-ascii c.as_bytes.result.now (sym c.is_ascii_ncname.ensures ∙ c.if-is_ascii_ncname.true))
