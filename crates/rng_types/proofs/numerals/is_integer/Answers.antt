use Rattle.std.proofs.Common.{ap, sym, ◌∙◌}
use Rattle.std.specs.Str.Parse.{without_leading_sign}
use Rattle.rng_model.specs.datatypes.Texts.{collapse}
use Rattle.rng_model.specs.datatypes.Facets.{is_decimal, most_digits}
use Rattle.rng_types.specs.plain.Runs.{past_blanks, from_run}
use Rattle.rng_types.proofs.CollapsedBytes.{collapse-past, unsigned-run, some-integer}
use Rattle.rng_types.proofs.numerals.is_integer.Goals as goal

pub returns : goal.returns
returns c =
    let s = c.args.text.now in
    let numeral = c.without_sign.ensures ∙ ap without_leading_sign (c.past_blanks.ensures.past ∙ ap past_blanks c.as_bytes.ensures.value) in
    c.is_numeral.ensures
    ∙ ap (is_decimal most_digits) (ap from_run numeral ∙ unsigned-run (past_blanks s) ∙ ap without_leading_sign (sym (collapse-past s)))
    ∙ sym (some-integer (collapse s))
