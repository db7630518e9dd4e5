use Rattle.std.proofs.Common.{◌∙◌, sym, ap}
use Rattle.std.specs.List.{list_all}
use Rattle.xsd_automaton.specs.plain.PastAscii.{is_class_of_ascii}
use Rattle.xsd_automaton.proofs.PastAscii.{alike_past}
use Rattle.xsd_automaton.proofs.past_ascii.are_alike_past.Goals as goal

pub returns : goal.returns
returns c e =
    alike_past c.args.positions.now.classes.items c.args.positions.now.positions.items
    (sym (ap (list_all is_class_of_ascii) c.as_slice.ensures.value) ∙ sym c.all_of_ascii.ensures ∙ e)
