use Rattle.std.proofs.Common.{◌∙◌, ap, Some}
use Rattle.rng_deriv_table.specs.views.Node.{node_of}
use Rattle.rng_deriv_table.proofs.WiderParts.{empty_covered}
use Rattle.rng_deriv_table.proofs.pattern_table.PatternTable.is_covered.Goals as goal

pub returns-in-Empty : goal.returns-in-Empty
returns-in-Empty c = λ yes.
    empty_covered c.args.self.now c.pattern.ensures.table c.args.outer c.args.inner (c.pattern.ensures.found ∙ ap (λ p. Some (node_of p)) c.in-Empty.is)
    (λ t g. (c.facts.ensures.nullable t g).0 yes)
