use Rattle.std.proofs.Common.{ap₂, ◌∙◌}
use Rattle.rng_model.specs.xsd.primitives.Durations.{durations}
use Rattle.xsd_types.proofs.durations.DurationBoundBound.is_at_most.Goals as goal

pub returns : goal.returns
returns c = c.is_at_most.ensures ∙ ap₂ (durations.is_at_most) c.self.view_is c.other.view_is
