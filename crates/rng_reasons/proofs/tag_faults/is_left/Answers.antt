use Rattle.std.proofs.Common.{◌∙◌, sym}
use Rattle.std.proofs.lemmas.Bool.{not-true}
use Rattle.rng_reasons.proofs.Allowed.{allowed_there}
use Rattle.rng_reasons.proofs.tag_faults.is_left.Goals as goal

pub returns-clause-left : goal.returns-clause-left
returns-clause-left c = λ e t.
    allowed_there t c.args.table.now c.pattern-pattern.ensures.table c.args.number.0 c.requires (sym (c.is_not_allowed.ensures t) ∙ not-true c.is_not_allowed.result e)
