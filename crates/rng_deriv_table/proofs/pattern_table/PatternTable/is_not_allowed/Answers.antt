use Rattle.std.proofs.Common.{◌∙◌, ap, sym}
use Rattle.rng_deriv_table.specs.views.Node.{node_of}
use Rattle.rng_deriv_table.proofs.PatternKinds.{is_not_allowed_node, not_allowed_shows, not_not_allowed}
use Rattle.rng_deriv_table.proofs.pattern_table.PatternTable.is_not_allowed.Goals as goal

pub returns-in-NotAllowed : goal.returns-in-NotAllowed
returns-in-NotAllowed c = λ t.
    ap (λ p. is_not_allowed_node (node_of p)) (sym c.in-NotAllowed.is)
    ∙ sym (not_allowed_shows t c.args.self.now c.args.number.0 (node_of c.pattern.result.now) c.pattern.ensures.table c.pattern.ensures.found)

pub returns-in_default : goal.returns-in_default
returns-in_default c = λ t.
    not_not_allowed c.pattern.result.now c.in_default.not-NotAllowed
    ∙ sym (not_allowed_shows t c.args.self.now c.args.number.0 (node_of c.pattern.result.now) c.pattern.ensures.table c.pattern.ensures.found)
