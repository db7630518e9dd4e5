use Rattle.std.proofs.Common.{◌∙◌, sym}
use Rattle.rncv_events.proofs.SettledCalls.{passed_told}
use Rattle.rncv_events.proofs.telling.tell_passed.Goals as goal

pub returns-in-Some : goal.returns-in-Some
returns-in-Some c = passed_told c.args.matcher.now c.take_any_text.new.self c.args.place c.in-Some.blank c.args.calls.now.passed c.take_any_text.result
    (sym c.passed.ensures ∙ c.in-Some.is) c.take_any_text.ensures.stands
