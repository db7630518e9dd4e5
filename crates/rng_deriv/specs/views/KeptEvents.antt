-- The event after which no continuation is valid, as it is kept.
use Rattle.std.specs.Prelude.{◌≡◌, Bool}
use Rattle.rng_deriv_events.specs.views.FailedEvents.{IsCopyOf}
use Rattle.rng_deriv_events.specs.declared.failed_event.FailedEvent.{FailedEvent}
use Rattle.rng_deriv_events.specs.declared.progress.Progress.{Progress}
use Rattle.rng_deriv_events.specs.declared.progress.Progress.TheVariants as progress

-- this is the event, and whether the end tag could have come in its place
abbrev pub KeepsFailed : FailedEvent → Bool → Progress → Type 0
KeepsFailed event may_end (progress.Going p line) = ⊥
KeepsFailed event may_end (progress.Failed line left) = IsCopyOf left.value.event event × (left.value.may_end ≡ may_end)
KeepsFailed event may_end progress.Lost = ⊥
