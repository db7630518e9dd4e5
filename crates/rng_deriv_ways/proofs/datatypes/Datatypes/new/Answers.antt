use Rattle.std.proofs.Common.{◌∙◌, ap, sym}
use Rattle.rng_deriv_ways.specs.views.Datatypes.{meaning_named_by}
use Rattle.rng_deriv_ways.proofs.KnownDatatypes.{all_kept, one_more_kept}
use Rattle.rng_deriv_ways.proofs.datatypes.Datatypes.new.Goals as goal

pub patterns-preserved : goal.patterns-preserved
patterns-preserved c =
    one_more_kept c.args.grammar.now c.patterns.datatypes c.add.new.self c.patterns.position c.in-Some.pattern.now (sym c.in-Some.ensures.value)
    c.in_ok-add.ensures.count (c.in_ok-add.ensures.own ∙ ap (λ types. meaning_named_by types c.in-Some.pattern.now) c.types.ensures)
    c.in_ok-add.ensures.others c.patterns.invariant

pub returns-in_default : goal.returns-in_default
returns-in_default c = all_kept c.args.grammar.now c.patterns.datatypes c.patterns.position (sym c.in_default.ensures.value) c.patterns.invariant
