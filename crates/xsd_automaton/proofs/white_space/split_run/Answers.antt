use Rattle.std.proofs.Common.{◌≡◌, ◌∙◌, take, drop, true, sym, ap, subst}
use Rattle.std.specs.List.{list_all}
use Rattle.std.specs.Str.{IsUtf8}
use Rattle.std.proofs.lemmas.Str.{IsUtf8-take, IsUtf8-drop}
use Rattle.rng_model.specs.plain.BlankRuns.{is_run_byte, ends_run}
use Rattle.rng_model.proofs.TestedRuns.{run_passes}
use Rattle.xsd_automaton.proofs.TreatedParts.{rest_ends}
use Rattle.xsd_automaton.proofs.white_space.split_run.Goals as goal

pub returns-clause-run : goal.returns-clause-run
returns-clause-run c =
    subst (λ t. list_all is_run_byte t ≡ true) (sym (c.split_at.ensures.front ∙ ap (λ k. take k c.args.text.now) c.run_len.ensures.len))
    (run_passes is_run_byte c.args.text.now)

pub returns-clause-ends : goal.returns-clause-ends
returns-clause-ends c =
    subst (λ t. ends_run t ≡ true) (sym (c.split_at.ensures.back ∙ ap (λ k. drop k c.args.text.now) c.run_len.ensures.len))
    (rest_ends c.args.text.now)

pub returns-clause-texts : goal.returns-clause-texts
returns-clause-texts c = (
  subst IsUtf8 (sym c.split_at.ensures.front) (IsUtf8-take c.args.text.now c.run_len.result c.utf8.text c.run_len.ensures.boundary),
  subst IsUtf8 (sym c.split_at.ensures.back) (IsUtf8-drop c.args.text.now c.run_len.result c.utf8.text c.run_len.ensures.boundary),
)
