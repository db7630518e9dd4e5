use Rattle.std.proofs.Common.{ap, ◌∙◌, sym, Some}
use Rattle.xsd_durations.specs.Views.{seen, time_of}
use Rattle.xsd_durations.proofs.Steps.{fields_blank, fields_whole}
use Rattle.xsd_durations.proofs.reading.duration_fields.Goals as goal

pub returns-then-is_blank : goal.returns-then-is_blank
returns-then-is_blank c = fields_blank c.args.minus c.args.text.now (sym c.is_blank.ensures ∙ c.if-is_blank.true)

pub returns : goal.returns
returns c =
    ap Some c.duration_with.ensures
    ∙ fields_whole c.args.minus c.args.text.now (seen c.number_before-years.result) (seen c.number_before-months.result) (seen c.number_before-days.result)
    (time_of c.in_ok-time.time) c.number_before-years.ensures c.number_before-months.ensures c.number_before-days.ensures
    (sym c.is_blank.ensures ∙ c.if-is_blank.false) c.in_ok-time.ensures
