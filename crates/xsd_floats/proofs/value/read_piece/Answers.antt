use Rattle.std.proofs.Common.{Some, None, sym, ap, ◌∙◌}
use Rattle.std.specs.Option.{option_map}
use Rattle.xsd_floats.specs.views.Values.{format_of, number_of}
use Rattle.xsd_floats.proofs.WrittenNumbers.{read_number, read_none, read_infinity, read_minus_infinity, read_nan}
use Rattle.xsd_floats.proofs.value.read_piece.Goals as goal

pub returns-in-INF : goal.returns-in-INF
returns-in-INF c = read_infinity (format_of c.args.kind) c.args.text.now c.in-INF.is

pub returns-in-text : goal.returns-in-text
returns-in-text c = read_minus_infinity (format_of c.args.kind) c.args.text.now c.in-text.is

pub returns-in-NaN : goal.returns-in-NaN
returns-in-NaN c = read_nan (format_of c.args.kind) c.args.text.now c.in-NaN.is

pub returns-in_default-2 : goal.returns-in_default-2
returns-in_default-2 c =
    read_none (format_of c.args.kind) c.args.text.now c.in_default.not-INF c.in_default.not-text c.in_default.not-NaN (sym c.if-begins_number.ensures)

pub returns-in_err-number-in_default : goal.returns-in_err-number-in_default
returns-in_err-number-in_default c =
    ap (option_map number_of) c.from_residual.ensures
    ∙ read_number (format_of c.args.kind) c.args.text.now None (sym c.if-begins_number.ensures) c.in_err-number-in_default.ensures.value
    c.in_err-number-in_default.ensures.some

pub returns-in_ok-number-in_default : goal.returns-in_ok-number-in_default
returns-in_ok-number-in_default c =
    read_number (format_of c.args.kind) c.args.text.now (Some c.in_ok-number-in_default.number) (sym c.if-begins_number.ensures)
    c.in_ok-number-in_default.ensures.value c.in_ok-number-in_default.ensures.some
