use Rattle.std.proofs.Common.{Err, ap}
use Rattle.rncv_c_values.specs.views.Attributes.{AreTexts, name_of, start_of}
use Rattle.element_events.specs.views.Told.{call}
use Rattle.rncv_c_handles.proofs.RefusedStarts.{refused_answer}
use Rattle.rncv_c_handles.proofs.events.tell_start.Goals as goal

pub returns-in-Err-text_attributes : goal.returns-in-Err-text_attributes
returns-in-Err-text_attributes c =
    let answer = c.refuse-in-Err-text_attributes.ensures in
    refused_answer (AreTexts (name_of c.args.name) c.args.attributes.now) (call c.args.place (start_of (name_of c.args.name) c.args.attributes.now))
    c.args.document.now c.refuse-in-Err-text_attributes.new.self c.in-Err-text_attributes.fault (λ e texts. c.in-Err-text_attributes.ensures.fault (ap Err e) texts.1)
    c.refuse-in-Err-text_attributes.result answer.grammar answer.fault answer.kept answer.sticky answer.stuck answer.since answer.mode
