use Rattle.std.proofs.Common.{◌∙◌, sym, refl}
use Rattle.xsd_durations.specs.Views.{seen}
use Rattle.xsd_durations.proofs.Steps.{time_whole, time_blank, time_more}
use Rattle.xsd_durations.proofs.reading.time_fields.Goals as goal
use Rattle.xsd_durations.proofs.reading.time_fields.Goals.{then-is_blank-via-then-is_blank, then-is_blank-via-else-is_blank+then-not-is_blank}

pub returns-then-is_blank : goal.returns-then-is_blank
returns-then-is_blank c =
    elim c.then-is_blank.branch [
      | then-is_blank-via-then-is_blank w ↦ time_blank c.args.text.now (sym c.is_blank.ensures ∙ w.if-is_blank.true)
      | then-is_blank-via-else-is_blank+then-not-is_blank w ↦ time_more c.args.text.now c.seconds_at-seconds.result.1.now (seen c.number_before-hours.result)
          (seen c.number_before-minutes.result) (seen c.seconds_at-seconds.result) c.number_before-hours.ensures c.number_before-minutes.ensures
          c.seconds_at-seconds.ensures refl (sym w.is_blank-else-is_blank.ensures ∙ w.if-not-is_blank.true)
    ]

pub returns : goal.returns
returns c =
    time_whole c.args.text.now c.seconds_at-seconds.result.1.now (seen c.number_before-hours.result) (seen c.number_before-minutes.result)
    (seen c.seconds_at-seconds.result) c.number_before-hours.ensures c.number_before-minutes.ensures c.seconds_at-seconds.ensures refl
    (sym c.is_blank.ensures ∙ c.if-is_blank.false) (sym c.is_blank-else-is_blank.ensures ∙ c.if-not-is_blank.false)
