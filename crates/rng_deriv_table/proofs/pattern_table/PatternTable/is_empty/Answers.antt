use Rattle.std.proofs.Common.{◌∙◌, ap, sym}
use Rattle.rng_deriv_table.specs.views.Node.{node_of}
use Rattle.rng_deriv_table.proofs.PatternKinds.{empty_shows, is_empty_node, not_empty}
use Rattle.rng_deriv_table.proofs.pattern_table.PatternTable.is_empty.Goals as goal

pub returns-in-Empty : goal.returns-in-Empty
returns-in-Empty c = λ t.
    ap (λ p. is_empty_node (node_of p)) (sym c.in-Empty.is)
    ∙ sym (empty_shows t c.args.self.now c.args.number.0 (node_of c.pattern.result.now) c.pattern.ensures.table c.pattern.ensures.found)

pub returns-in_default : goal.returns-in_default
returns-in_default c = λ t.
    not_empty c.pattern.result.now c.in_default.not-Empty
    ∙ sym (empty_shows t c.args.self.now c.args.number.0 (node_of c.pattern.result.now) c.pattern.ensures.table c.pattern.ensures.found)
