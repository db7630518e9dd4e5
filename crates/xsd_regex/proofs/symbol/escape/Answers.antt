use Rattle.std.proofs.Common.{sym, ◌∙◌}
use Rattle.std.specs.Str.{chars}
use Rattle.xsd_regex.proofs.SymbolSteps.{escape_property, escape_complement, escape_short, no_escape}
use Rattle.xsd_regex.proofs.symbol.escape.Goals as goal

pub returns-in-Some-p-default : goal.returns-in-Some-p-default
returns-in-Some-p-default c =
    c.property.ensures ∙ sym (escape_property (chars c.args.text.now) _ _ c.in-Some-p-default.ensures c.in-Some-p-default.field-0-0-test)

pub returns-in-Some-P-default : goal.returns-in-Some-P-default
returns-in-Some-P-default c =
    c.property-in-Some-P-default.ensures
    ∙ sym (escape_complement (chars c.args.text.now) _ _ c.in-Some-P-default.ensures c.in-Some-P-default.field-0-0-test)

pub returns-in-Some-short_escape : goal.returns-in-Some-short_escape
returns-in-Some-short_escape c =
    sym (escape_short (chars c.args.text.now) _ _ _ c.in-Some.ensures c.in-Some.c-test.0.1 c.in-Some.c-test.1 c.in-Some-short_escape.ensures)

pub returns-in-None-short_escape : goal.returns-in-None-short_escape
returns-in-None-short_escape c =
    sym (escape_short (chars c.args.text.now) _ _ _ c.in-Some.ensures c.in-Some.c-test.0.1 c.in-Some.c-test.1 c.in-None-short_escape.ensures)

pub returns-in-None : goal.returns-in-None
returns-in-None c = sym (no_escape (chars c.args.text.now) c.in-None.ensures)
