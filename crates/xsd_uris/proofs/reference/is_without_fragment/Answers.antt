use Rattle.std.proofs.Common.{◌||◌, ap, sym, ◌∙◌}
use Rattle.std.proofs.Math.Bool.{or_comm}
use Rattle.std.proofs.lemmas.Bool.{or_right}
use Rattle.xsd_uris.specs.plain.UriShapes.{is_relative, is_absolute}
use Rattle.xsd_uris.proofs.reference.is_without_fragment.Goals as goal

pub returns-then-is_absolute : goal.returns-then-is_absolute
returns-then-is_absolute c =
    c.if-is_absolute.true
    ∙ sym (or_right (is_relative c.args.bytes.now) (is_absolute c.args.bytes.now) (sym c.is_absolute.ensures ∙ c.if-is_absolute.true))

pub returns-else-is_absolute : goal.returns-else-is_absolute
returns-else-is_absolute c =
    let s = c.args.bytes.now in
    c.is_relative.ensures
    ∙ sym (ap (λ b. b || is_relative s) (sym c.is_absolute.ensures ∙ c.if-is_absolute.false))
    ∙ or_comm (is_absolute s) (is_relative s)
