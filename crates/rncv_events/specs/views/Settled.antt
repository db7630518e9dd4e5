-- What is kept after a call.
use Rattle.std.specs.Prelude.{◌≡◌, Option, Some, None, Result, Ok, Err}
use Rattle.element_events.specs.declared.fault.EventFault.{EventFault}
use Rattle.element_events.specs.declared.fault.EventFault.TheVariants as faults
use Rattle.rng_deriv.specs.views.Matchers.{IsStateBy, Matching, matching_in}
use Rattle.rng_deriv.specs.declared.matcher_state.MatcherState.{MatcherState}

-- what this matcher keeps is in its place
pub record IsPutBack (m : Matching) (place : Option MatcherState) : Type 0 where
  pub kept : MatcherState
  pub is : place ≡ Some kept
  pub state : IsStateBy m.grammar kept
  pub same : matching_in m.grammar kept ≡ m

-- what is kept after a call with this result, behind which this matcher was: its state, unless the call ran out of
-- memory, and the fault of the call
abbrev pub IsSettled : Result Unit EventFault → Matching → Option EventFault → Option MatcherState → Option EventFault → Type 0
IsSettled (Ok x) m earlier place fault = IsPutBack m place × (fault ≡ earlier)
IsSettled (Err faults.NotWellFormed) m earlier place fault = IsPutBack m place × (fault ≡ Some faults.NotWellFormed)
IsSettled (Err faults.Memory) m earlier place fault = (place ≡ None) × (fault ≡ Some faults.Memory)
