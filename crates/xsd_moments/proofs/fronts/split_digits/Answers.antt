use Rattle.std.proofs.Common.{◌≤◌, length, take, drop, ap, ◌∙◌, sym, subst}
use Rattle.std.specs.Char.{is_ascii_digit}
use Rattle.std.specs.List.{list_all}
use Rattle.std.proofs.lemmas.List.Sums.{prefix_len-le-length}
use Rattle.rng_types.specs.plain.Runs.{from_run}
use Rattle.xsd_moments.proofs.FrontRuns.{first_digits-run, past_digits-run, first_digits-all}
use Rattle.xsd_moments.proofs.fronts.split_digits.Goals as goal

pub split_at-requires : goal.split_at-requires
split_at-requires c = subst (λ n. n ≤ length c.args.bytes.now) (sym c.digits_len.ensures) (prefix_len-le-length is_ascii_digit c.args.bytes.now)

pub returns-clause-digits : goal.returns-clause-digits
returns-clause-digits c =
    c.split_at.ensures.front ∙ (ap (λ n. take n c.args.bytes.now) c.digits_len.ensures ∙ sym (first_digits-run c.args.bytes.now))

pub returns-clause-rest : goal.returns-clause-rest
returns-clause-rest c =
    ap from_run (c.split_at.ensures.back ∙ ap (λ n. drop n c.args.bytes.now) c.digits_len.ensures) ∙ sym (past_digits-run c.args.bytes.now)

pub returns-clause-all : goal.returns-clause-all
returns-clause-all c =
    ap (list_all is_ascii_digit) (c.split_at.ensures.front ∙ ap (λ n. take n c.args.bytes.now) c.digits_len.ensures) ∙ first_digits-all c.args.bytes.now
