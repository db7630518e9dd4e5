use Rattle.std.proofs.Common.{◌≡◌, ◌==◌, length, sym, ◌∙◌, ap, true, false, refl, rules}
use Rattle.rng_types.specs.plain.Runs.{from_run}
use Rattle.rng_types.proofs.CollapsedBytes.{blank-past, collapse-past}
use Rattle.rng_types.proofs.runs.next_run.Goals as goal

pub returns-then-is_empty : goal.returns-then-is_empty
returns-then-is_empty c =
    let none : (length c.past_blanks-rest.result.now == 0) ≡ true = search rules in
    sym (blank-past c.args.bytes.now) ∙ ap (λ t. length t == 0) (sym c.past_blanks-rest.ensures.past) ∙ none

pub returns-else-is_empty : goal.returns-else-is_empty
returns-else-is_empty c =
    let some : (length c.past_blanks-rest.result.now == 0) ≡ false = search rules in (
      sym (blank-past c.args.bytes.now) ∙ ap (λ t. length t == 0) (sym c.past_blanks-rest.ensures.past) ∙ some,
      refl,
      ap from_run c.past_blanks-rest.ensures.past ∙ sym (collapse-past c.args.bytes.now),
      c.past_blanks-rest.ensures.within,
    )
