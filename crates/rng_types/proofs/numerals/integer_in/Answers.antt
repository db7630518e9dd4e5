use Rattle.std.proofs.Common.{◌∙◌, sym, ap}
use Rattle.std.specs.Str.Parse.{without_leading_sign}
use Rattle.rng_model.specs.datatypes.Facets.{is_decimal, most_digits}
use Rattle.rng_types.proofs.Decimals.{integer-parsed}
use Rattle.rng_types.proofs.numerals.integer_in.Goals as goal

pub returns-then-is_decimal : goal.returns-then-is_decimal
returns-then-is_decimal c = c.ok.ensures.value
    ∙ integer-parsed c.args.numeral.now c.parse.result c.parse.ensures.value.0
    (ap (is_decimal most_digits) (sym (c.without_sign.ensures ∙ ap without_leading_sign c.as_bytes.ensures.value)) ∙ sym c.if-is_decimal.ensures)
