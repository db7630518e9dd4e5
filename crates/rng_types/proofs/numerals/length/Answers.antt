use Rattle.std.proofs.Common.{◌∙◌, sym, ap}
use Rattle.rng_model.specs.datatypes.Facets.{is_decimal, most_length_digits}
use Rattle.rng_types.proofs.Decimals.{length-parsed}
use Rattle.rng_types.proofs.numerals.length.Goals as goal

pub returns-then-is_decimal : goal.returns-then-is_decimal
returns-then-is_decimal c = c.ok.ensures.value
    ∙ length-parsed c.args.numeral.now c.parse.result c.parse.ensures.value.0
    (ap (is_decimal most_length_digits) (sym c.as_bytes.ensures.value) ∙ sym c.if-is_decimal.ensures)
