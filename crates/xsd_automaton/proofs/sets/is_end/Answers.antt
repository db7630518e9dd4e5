use Rattle.std.proofs.Common.{◌∙◌, ap, slice_get}
use Rattle.xsd_automaton.proofs.SetTables.{judged_end}
use Rattle.xsd_automaton.proofs.sets.is_end.Goals as goal

pub returns : goal.returns
returns c ps first r tables read of leads =
    judged_end ps first c.args.sets.now.rows.items c.args.sets.now.ends.items tables r c.args.set read of leads c.end_of.result
    (c.end_of.ensures ∙ ap (λ l. slice_get l c.args.set) c.as_slice.ensures.value)
