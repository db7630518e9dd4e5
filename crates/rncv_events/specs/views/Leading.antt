-- What a call that is told to the matcher does to what is kept of calls and of the document.
use Rattle.std.specs.Prelude.{◌≡◌, ⊤, ℕ, List, [], ◌∷◌, ◌++◌, Bool, false, Option, Some, None, IfSome}
use Rattle.rng_model.specs.documents.PyxTrees.{Event}
use Rattle.element_events.specs.views.Kept.{Kept, Stands}
use Rattle.element_events.specs.declared.fault.EventFault.{EventFault}
use Rattle.rng_deriv_events.specs.views.Inputs.{tests_strings}
use Rattle.rng_deriv_events.specs.declared.progress.Progress.{Progress}
use Rattle.rng_deriv.specs.views.Matchers.{HasGoneOn, Matching}
use Rattle.rng_deriv.specs.declared.matcher_state.MatcherState.{MatcherState}

-- a string was passed over only where no alternative that is left tests what it says
abbrev pub MayPass : Option Bool → Progress → Type 0
MayPass passed p = IfSome passed (λ _. tests_strings p ≡ false)

-- the same of what a document keeps, as long as it has no fault
abbrev pub HasPassedRightly : Option Bool → Option MatcherState → Option EventFault → Type 0
HasPassedRightly passed o None = IfSome o (λ s. MayPass passed s.progress)
HasPassedRightly passed o (Some f) = ⊤

-- a text is held only where an alternative that is left tests what it says
abbrev pub HoldsRightly : List ℕ → Option MatcherState → Option EventFault → Type 0
HoldsRightly text o None = IfSome o (λ s. tests_strings s.progress ≡ false → text ≡ [])
HoldsRightly text o (Some f) = ⊤

-- For all calls and events that what was kept of calls stood for, it now stands for them with this call, and with events by
-- which the matcher has gone on. Whatever the calls are, it has gone on by some.
pub record LeadsOn (old new : Matching) (j k : Kept) (c : Event) : Type 0 where
  pub some : List Event
  pub gone : HasGoneOn old new some
  pub each : (calls sent : List Event) → Stands j calls sent → (es : List Event) × HasGoneOn old new es × Stands k (calls ++ c ∷ []) (sent ++ es)
