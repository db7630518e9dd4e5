use Rattle.std.proofs.Common.{◌≡◌, ◌≤◌, length, take, drop, ap, ◌∙◌, sym, subst}
use Rattle.std.specs.Char.{is_ascii_digit}
use Rattle.std.specs.List.{list_all}
use Rattle.std.proofs.lemmas.List.Sums.{prefix_len-le-length}
use Rattle.rng_types.specs.plain.Runs.{from_run}
use Rattle.rng_model.specs.xsd.primitives.Fronts.{first_digits, past_digits}
use Rattle.xsd_durations.proofs.FrontRuns.{first_digits-run, past_digits-run, first_digits-all}
use Rattle.xsd_durations.proofs.fronts.split_digits.Goals as goal

pub split_at-requires : goal.split_at-requires
split_at-requires c = subst (λ n. n ≤ length c.args.text.now) (sym c.digits_len.ensures) (prefix_len-le-length is_ascii_digit c.args.text.now)

pub returns-clause-digits : goal.returns-clause-digits
returns-clause-digits c =
    let s = c.args.text.now in
    let front : c.split_at.result.0.now ≡ first_digits s = c.split_at.ensures.front ∙ ap (λ n. take n s) c.digits_len.ensures in
    front ∙ sym (first_digits-run s)

pub returns-clause-rest : goal.returns-clause-rest
returns-clause-rest c =
    let s = c.args.text.now in
    let back : c.split_at.result.1.now ≡ past_digits s = c.split_at.ensures.back ∙ ap (λ n. drop n s) c.digits_len.ensures in
    ap from_run back ∙ sym (past_digits-run s)

pub returns-clause-all : goal.returns-clause-all
returns-clause-all c =
    let s = c.args.text.now in
    let front : c.split_at.result.0.now ≡ first_digits s = c.split_at.ensures.front ∙ ap (λ n. take n s) c.digits_len.ensures in
    ap (list_all is_ascii_digit) front ∙ first_digits-all s
