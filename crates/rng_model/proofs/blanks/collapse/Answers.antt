use Rattle.std.proofs.Common.{rules, sym, ◌∙◌}
use Rattle.rng_model.proofs.BlankRuns.{collapse-none, collapse-onto}
use Rattle.rng_model.proofs.blanks.collapse.Goals as goal

pub returns-in_default : goal.returns-in_default
returns-in_default c = c.new.ensures.bytes ∙ sym (collapse-none c.args.text.now (sym c.new-pieces.ensures ∙ c.in_default.ensures.steps.0))

pub loop-piece-init : goal.loop-piece-init
loop-piece-init c =
    let all = collapse-onto c.args.text.now _ _ (sym c.new-pieces.ensures ∙ c.in-Some.ensures.steps) in
    search rules
