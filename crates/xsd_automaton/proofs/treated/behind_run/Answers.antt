use Rattle.std.proofs.lemmas.Str.{IsUtf8-take}
use Rattle.xsd_automaton.specs.views.Sets.{LeadsToSet}
use Rattle.xsd_automaton.proofs.TreatedRuns.{past_run}
use Rattle.xsd_automaton.proofs.treated.behind_run.Goals as goal

pub returns-clause-leads : goal.returns-clause-leads
returns-clause-leads c ps begin table kind whole =
    past_run (LeadsToSet ps begin c.args.rows.now table c.args.first) (LeadsToSet ps begin c.args.rows.now table c.in-Some.set) kind whole
    c.args.text.now c.split_at.result.1.now c.in-Some.len c.in-Some.ensures.run
    (IsUtf8-take c.args.text.now c.in-Some.len c.utf8.text c.in-Some.ensures.boundary) c.split_at.ensures.back
    (c.in-Some.ensures.leads ps begin table)
