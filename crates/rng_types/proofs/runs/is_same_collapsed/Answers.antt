use Rattle.std.proofs.Common.{sym, ◌∙◌, ap, ap₂}
use Rattle.std.specs.Str.{bytes_eq}
use Rattle.rng_types.specs.plain.Runs.{past_blanks, from_run}
use Rattle.rng_types.proofs.CollapsedBytes.{collapse-past}
use Rattle.rng_types.proofs.runs.is_same_collapsed.Goals as goal

pub returns : goal.returns
returns c =
    c.is_same_run.ensures
    ∙ ap₂ bytes_eq
    (ap from_run (c.past_blanks.ensures.past ∙ ap past_blanks c.as_bytes.ensures.value) ∙ sym (collapse-past c.args.a.now))
    (ap from_run (c.past_blanks-2.ensures.past ∙ ap past_blanks c.as_bytes-2.ensures.value) ∙ sym (collapse-past c.args.b.now))
