use Rattle.std.proofs.Common.{sym, ◌∙◌}
use Rattle.std.specs.Str.{chars}
use Rattle.xsd_regex.proofs.SymbolSteps.{property_braced, property_unbraced, no_property}
use Rattle.xsd_regex.proofs.symbol.property.Goals as goal

pub returns-in-Some-eq123-default : goal.returns-in-Some-eq123-default
returns-in-Some-eq123-default c =
    c.named_property.ensures
    ∙ sym (property_braced c.args.negated (chars c.args.text.now) _ _ c.in-Some-eq123-default.ensures c.in-Some-eq123-default.field-0-0-test)

pub returns-in-Some : goal.returns-in-Some
returns-in-Some c = sym (property_unbraced c.args.negated (chars c.args.text.now) _ _ c.in-Some.ensures c.in-Some.field-0-0-test.1)

pub returns-in-None : goal.returns-in-None
returns-in-None c = sym (no_property c.args.negated (chars c.args.text.now) c.in-None.ensures)
