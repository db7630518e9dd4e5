use Rattle.std.proofs.Common.{◌∙◌, ap}
use Rattle.xsd_automaton.specs.plain.Closures.{nexts}
use Rattle.xsd_positions.specs.views.Positions.{positions_of}
use Rattle.xsd_automaton.proofs.ReadTexts.{nexts_within, step_is}
use Rattle.xsd_automaton.proofs.steps.step.Goals as goal

pub enter-requires-clause-known : goal.enter-requires-clause-known
enter-requires-clause-known c =
    nexts_within (positions_of c.args.positions.now) c.args.c c.args.reached.now c.as_slice.result.now c.requires.within
    (c.as_slice.ensures.value ∙ c.find_nexts.ensures ∙ ap (nexts (positions_of c.args.positions.now) c.args.c) c.numbers.ensures.value)

pub returns-clause-steps : goal.returns-clause-steps
returns-clause-steps c =
    step_is (positions_of c.args.positions.now) c.args.c c.args.reached.now c.as_slice.result.now c.enter.new.reached c.requires.closed
    (c.as_slice.ensures.value ∙ c.find_nexts.ensures ∙ ap (nexts (positions_of c.args.positions.now) c.args.c) c.numbers.ensures.value)
    c.enter.ensures.same
