use Rattle.std.proofs.Common.{ap₂, ◌∙◌}
use Rattle.rng_model.specs.xsd.primitives.Durations.{is_less}
use Rattle.xsd_types.proofs.durations.DurationBoundBound.is_less.Goals as goal

pub returns : goal.returns
returns c = c.is_less.ensures ∙ ap₂ (is_less) c.self.view_is c.other.view_is
