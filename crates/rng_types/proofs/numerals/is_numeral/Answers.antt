use Rattle.std.proofs.Common.{◌≡◌, ◌≤◌, ◌&&◌, length, drop, ap, sym, ◌∙◌, false, true, nat_lt, nat_le, subst}
use Rattle.std.specs.Char.{is_ascii_digit}
use Rattle.std.proofs.lemmas.List.Sums.{prefix_len-le-length}
use Rattle.std.proofs.lemmas.Bool.{and_left}
use Rattle.rng_model.specs.datatypes.Texts.{is_blank}
use Rattle.rng_model.specs.datatypes.Facets.{most_digits}
use Rattle.rng_types.proofs.CollapsedBytes.{decimal-run}
use Rattle.rng_types.proofs.numerals.is_numeral.Goals as goal

pub split_at-requires : goal.split_at-requires
split_at-requires c = subst (λ n. n ≤ length c.args.bytes.now) (sym c.digits_len-count.ensures) (prefix_len-le-length is_ascii_digit c.args.bytes.now)

pub returns-then-is_digit_count : goal.returns-then-is_digit_count
returns-then-is_digit_count c =
    let n = c.digits_len-count.result in
    let blank : c.is_blank.result ≡ is_blank (drop n c.args.bytes.now) = c.is_blank.ensures ∙ ap is_blank c.split_at.ensures.back in
    let few : (nat_lt 0 n && nat_le n most_digits) ≡ true = sym c.is_digit_count.ensures ∙ c.if-is_digit_count.true in
    blank ∙ ap (λ t. t && is_blank (drop n c.args.bytes.now)) (sym few) ∙ decimal-run most_digits c.args.bytes.now n c.digits_len-count.ensures

pub returns-else-is_digit_count : goal.returns-else-is_digit_count
returns-else-is_digit_count c =
    let n = c.digits_len-count.result in
    let many : (nat_lt 0 n && nat_le n most_digits) ≡ false = sym c.is_digit_count.ensures ∙ c.if-is_digit_count.false in
    c.if-is_digit_count.false ∙ sym (and_left (nat_lt 0 n && nat_le n most_digits) (is_blank (drop n c.args.bytes.now)) many)
    ∙ decimal-run most_digits c.args.bytes.now n c.digits_len-count.ensures
