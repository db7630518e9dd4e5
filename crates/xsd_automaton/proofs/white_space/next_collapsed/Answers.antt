use Rattle.std.proofs.Common.{◌≡◌, ◌∙◌, ◌<◌, ◌==◌, ◌∷◌, true, false, length, sym, ap, subst, rules}
use Rattle.rng_types.specs.plain.Runs.{from_run}
use Rattle.rng_types.proofs.CollapsedBytes.{run_then}
use Rattle.xsd_automaton.proofs.TreatedParts.{shorter, no_run, collapsed_none, collapsed_space, is_utf8_space}
use Rattle.xsd_automaton.proofs.white_space.next_collapsed.Goals as goal

pub returns-then-not-is_empty : goal.returns-then-not-is_empty
returns-then-not-is_empty c =
    let some : (length c.split_run.result.0.now == 0) ≡ false = search rules in (
      ap from_run c.split_run.ensures.parts ∙ run_then c.split_run.result.0.now c.split_run.result.1.now c.split_run.ensures.run,
      shorter c.args.rest.now c.split_run.result.0.now c.split_run.result.1.now c.split_run.ensures.parts some,
      c.split_run.ensures.texts.0,
      c.split_run.ensures.texts.1,
    )

pub returns-then-is_empty : goal.returns-then-is_empty
returns-then-is_empty c =
    let none : (length c.split_run.result.0.now == 0) ≡ true = search rules in
    let same = no_run c.args.rest.now c.split_run.result.0.now c.split_run.result.1.now c.split_run.ensures.parts none in
    let empty : (length c.behind_blanks-behind.result.now == 0) ≡ true = search rules in
    ap from_run same ∙ collapsed_none c.split_run.result.1.now c.split_run.ensures.ends
    (subst (λ t. (length t == 0) ≡ true) c.behind_blanks-behind.ensures empty)

pub returns : goal.returns
returns c =
    let none : (length c.split_run.result.0.now == 0) ≡ true = search rules in
    let same = no_run c.args.rest.now c.split_run.result.0.now c.split_run.result.1.now c.split_run.ensures.parts none in
    let some : (length c.behind_blanks-behind.result.now == 0) ≡ false = search rules in
    let space = collapsed_space c.split_run.result.1.now c.split_run.ensures.ends
    (subst (λ t. (length t == 0) ≡ false) c.behind_blanks-behind.ensures some) in (
      ap from_run same ∙ space.0 ∙ ap (λ t. 32 ∷ from_run t) (sym c.behind_blanks-behind.ensures),
      subst (λ t. length c.behind_blanks-behind.result.now < length t) (sym same)
          (subst (λ t. length t < length c.split_run.result.1.now) (sym c.behind_blanks-behind.ensures) space.1),
      is_utf8_space,
      c.behind_blanks-behind.utf8,
    )
