use Rattle.std.proofs.Common.{◌≡◌, ◌∙◌, sym, ap, subst}
use Rattle.rng_types.specs.plain.Runs.{from_run}
use Rattle.rng_types.proofs.CollapsedBytes.{collapse-past}
use Rattle.xsd_automaton.specs.views.WhiteSpace.{left_by, treated}
use Rattle.xsd_automaton.proofs.white_space.begun.Goals as goal

pub returns-in-Collapse : goal.returns-in-Collapse
returns-in-Collapse c =
    subst (λ w. left_by w c.behind_blanks.result.now ≡ treated w c.args.text.now) (sym c.in-Collapse.is)
    (ap from_run c.behind_blanks.ensures ∙ sym (collapse-past c.args.text.now))
