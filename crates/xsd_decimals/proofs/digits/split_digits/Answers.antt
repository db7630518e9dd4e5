use Rattle.std.proofs.Common.{◌≤◌, length, take, drop, ap, ◌∙◌, sym, subst}
use Rattle.std.specs.Char.{is_ascii_digit}
use Rattle.std.specs.List.{list_all}
use Rattle.std.proofs.lemmas.List.Sums.{prefix_len-le-length}
use Rattle.rng_model.proofs.TestedRuns.{run_passes}
use Rattle.xsd_decimals.specs.plain.Parts.{starts_with_digit}
use Rattle.xsd_decimals.proofs.PartsOfTexts.{ends_digits}
use Rattle.xsd_decimals.proofs.digits.split_digits.Goals as goal

pub split_at-requires : goal.split_at-requires
split_at-requires c = subst (λ n. n ≤ length c.args.bytes.now) (sym c.digits_len.ensures) (prefix_len-le-length is_ascii_digit c.args.bytes.now)

pub returns-clause-digits : goal.returns-clause-digits
returns-clause-digits c =
    let s = c.args.bytes.now in
    ap (list_all is_ascii_digit) (c.split_at.ensures.front ∙ ap (λ n. take n s) c.digits_len.ensures) ∙ run_passes is_ascii_digit s

pub returns-clause-behind : goal.returns-clause-behind
returns-clause-behind c =
    let s = c.args.bytes.now in
    ap starts_with_digit (c.split_at.ensures.back ∙ ap (λ n. drop n s) c.digits_len.ensures) ∙ ends_digits s
