use Rattle.std.proofs.Common.{sym, ◌∙◌}
use Rattle.rng_deriv_table.specs.views.Trees.{tree_of}
use Rattle.rng_deriv_laws.proofs.SamePatterns.{empty_repeated}
use Rattle.rng_deriv_table.proofs.pattern_table.PatternTable.one_or_more.Goals as goal

pub returns-then-is_empty-clause-matches : goal.returns-then-is_empty-clause-matches
returns-then-is_empty-clause-matches c = λ t g.
    empty_repeated g (tree_of t c.args.self.now c.args.pattern.0) (sym (c.is_empty.ensures t) ∙ c.if-is_empty.true)
