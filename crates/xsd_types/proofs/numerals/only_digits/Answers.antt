use Rattle.std.proofs.Common.{◌≡◌, ◌≤◌, length, take, drop, ap, ◌∙◌, sym, subst, rules}
use Rattle.std.specs.Char.{is_ascii_digit}
use Rattle.std.specs.List.{prefix_len}
use Rattle.std.proofs.lemmas.List.Sums.{prefix_len-le-length}
use Rattle.xsd_types.proofs.NumeralRuns.{front_is, front_digits, no_digits, more_behind}
use Rattle.xsd_types.proofs.numerals.only_digits.Goals as goal
use Rattle.xsd_types.proofs.numerals.only_digits.Goals.{then-is_empty-via-then-is_empty, then-is_empty-via-else-is_empty+then-not-is_blank}

pub split_at-requires : goal.split_at-requires
split_at-requires c = subst (λ n. n ≤ length c.args.bytes.now) (sym c.digits_len.ensures) (prefix_len-le-length is_ascii_digit c.args.bytes.now)

pub returns-then-is_empty : goal.returns-then-is_empty
returns-then-is_empty c =
    let s = c.args.bytes.now in
    let front : c.split_at.result.0.now ≡ take (prefix_len is_ascii_digit s) s = c.split_at.ensures.front ∙ ap (λ n. take n s) c.digits_len.ensures in
    let back : c.split_at.result.1.now ≡ drop (prefix_len is_ascii_digit s) s = c.split_at.ensures.back ∙ ap (λ n. drop n s) c.digits_len.ensures in
    elim c.then-is_empty.branch [
      | then-is_empty-via-then-is_empty v ↦ no_digits s _ _ front back (sym c.is_empty.ensures ∙ v.if-is_empty.true)
      | then-is_empty-via-else-is_empty+then-not-is_blank v ↦ more_behind s _ back (sym v.is_blank.ensures ∙ v.if-not-is_blank.true)
    ]

pub returns : goal.returns
returns c =
    let s = c.args.bytes.now in
    let front : c.split_at.result.0.now ≡ take (prefix_len is_ascii_digit s) s = c.split_at.ensures.front ∙ ap (λ n. take n s) c.digits_len.ensures in
    let back : c.split_at.result.1.now ≡ drop (prefix_len is_ascii_digit s) s = c.split_at.ensures.back ∙ ap (λ n. drop n s) c.digits_len.ensures in
    (front_digits s _ front (search rules), front_is s _ _ front back (sym c.is_blank.ensures ∙ c.if-not-is_blank.false))
