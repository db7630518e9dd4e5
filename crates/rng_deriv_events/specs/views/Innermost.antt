-- What is left of the innermost open element, as far as it is known.
use Rattle.std.specs.Prelude.{Option, Some, None}
use Rattle.rng_deriv_events.specs.views.LevelsLeft.{LevelLeft, left_of, level_in}
use Rattle.rng_deriv_events.specs.declared.progress.Progress.{Progress}
use Rattle.rng_deriv_events.specs.declared.progress.Progress.TheVariants as progress

-- what is left, or was left before the event after which nothing is left
abbrev pub innermost_of : Progress → Option LevelLeft
innermost_of (progress.Going p line) = Some (level_in p.value)
innermost_of (progress.Failed line left) = Some (left_of left.value)
innermost_of progress.Lost = None
