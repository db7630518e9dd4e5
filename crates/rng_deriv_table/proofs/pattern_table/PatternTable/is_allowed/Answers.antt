use Rattle.std.proofs.Common.{ap, ◌∙◌, Some}
use Rattle.rng_deriv_table.specs.views.Node.{node_of}
use Rattle.rng_deriv_table.proofs.PatternKinds.{allowed_there}
use Rattle.rng_deriv_table.proofs.Trees.{tree_of-over_parts}
use Rattle.rng_deriv_table.proofs.pattern_table.PatternTable.is_allowed.Goals as goal

pub returns-in-NotAllowed : goal.returns-in-NotAllowed
returns-in-NotAllowed c = λ t.
    let found = c.pattern.ensures.found ∙ ap (λ p. Some (node_of p)) c.in-NotAllowed.is in
    tree_of-over_parts t c.args.self.now c.args.number.0 _ (c.pattern.ensures.table.falls c.args.number.0 _ found) found

pub returns-in_default : goal.returns-in_default
returns-in_default c = λ t.
    allowed_there t c.args.self.now c.args.number.0 c.pattern.result.now c.pattern.ensures.table c.pattern.ensures.found c.in_default.not-NotAllowed
