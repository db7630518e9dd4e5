-- The states of the code, without their place in memory.
use Rattle.std.specs.Prelude.{string_bytes}
use Rattle.rng_deriv_laws.specs.plain.States as states
use Rattle.rng_deriv_laws.specs.plain.Events as events
use Rattle.rng_plain_matcher.specs.declared.state.State.{State, fold-State}
use Rattle.rng_plain_matcher.specs.declared.state.State.TheOpen.{State-F}
use Rattle.rng_plain_matcher.specs.declared.position.Position.{Position}
use Rattle.rng_plain_matcher.specs.views.Trees.{tree_of}

-- one level of a state, with each state inside already as its view
abbrev pub state_step : State-F states.State → states.State
state_step State-F.Never = states.never
state_step State-F.Finished = states.finished
state_step (State-F.After tree outer) = states.after (tree_of tree) outer.value
state_step (State-F.Either first second) = states.either first.value second.value

abbrev pub state_of : State → states.State
state_of = fold-State states.State state_step

abbrev pub position_of : Position → events.Matcher
position_of p = record { state = state_of p.state; has_begun = p.has_begun; held = string_bytes p.held }
