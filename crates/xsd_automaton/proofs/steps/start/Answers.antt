use Rattle.std.proofs.Common.{◌∙◌, ap}
use Rattle.xsd_automaton.specs.plain.Closures.{with_new}
use Rattle.xsd_positions.specs.views.Positions.{positions_of}
use Rattle.xsd_automaton.proofs.ReadTexts.{start_leads}
use Rattle.xsd_automaton.proofs.steps.start.Goals as goal

pub returns-clause-leads : goal.returns-clause-leads
returns-clause-leads c =
    start_leads (positions_of c.args.positions.now) c.args.positions.now.first c.add.new.self c.close.new.reached
    (c.add.ensures ∙ ap (λ l. with_new l c.args.positions.now.first) c.requires.empty) c.close.ensures.more c.close.ensures.no_more
