use Rattle.std.proofs.Common.{sym, ◌∙◌}
use Rattle.std.specs.Str.{chars}
use Rattle.xsd_regex.proofs.SymbolSteps.{symbol_escape, symbol_char, no_symbol}
use Rattle.xsd_regex.proofs.symbol.next_symbol.Goals as goal

pub returns-in-Some-eq92-default : goal.returns-in-Some-eq92-default
returns-in-Some-eq92-default c =
    c.escape.ensures ∙ sym (symbol_escape (chars c.args.text.now) _ _ c.in-Some-eq92-default.ensures c.in-Some-eq92-default.field-0-0-test)

pub returns-in-Some : goal.returns-in-Some
returns-in-Some c = sym (symbol_char (chars c.args.text.now) _ _ c.in-Some.ensures c.in-Some.c-test.1)

pub returns-in-None : goal.returns-in-None
returns-in-None c = sym (no_symbol (chars c.args.text.now) c.in-None.ensures)
