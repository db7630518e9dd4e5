-- What a document keeps of the calls that told it. Calls hand it on.
use Rattle.std.specs.Prelude.{⊤, ◌≡◌, List, [], ◌∷◌, ◌++◌, Option, Some, None, Result, Ok, Err}
use Rattle.rng_model.specs.simple.Table.{Table}
use Rattle.rng_model.specs.documents.PyxTrees.{Event}
use Rattle.rng_model.specs.declared.fault.OutOfMemory.{OutOfMemory}
use Rattle.rng_model.specs.declared.outcome.Outcome.{Outcome}
use Rattle.element_events.specs.views.Kept.{Kept, Stands}
use Rattle.element_events.specs.declared.fault.EventFault.{EventFault}
use Rattle.element_events.specs.declared.fault.EventFault.TheVariants as faults
use Rattle.rng_deriv.specs.views.Matchers.{Knows, Matching}
use Rattle.rng_deriv.specs.declared.matcher_state.MatcherState.{MatcherState}

-- a grammar, the calls that were taken, what the grammar says of their events, and the fault that every call returns
pub record Judging : Type 0 where
  pub grammar : Table
  pub calls : Kept
  pub matching : Matching
  pub fault : Option EventFault

-- These calls were taken: they are what is kept of calls, and what is known is known of their events. After
-- `NotWellFormed` the last of the calls is the one that was refused, or comes after it.
pub record HasTaken (d : Judging) (calls : List Event) : Type 0 where
  pub by_grammar : d.matching.grammar ≡ d.grammar
  pub events : List Event
  pub stands : Stands d.calls calls events
  pub knows : Knows d.matching events

-- for all calls that were taken, this call was now taken behind them
abbrev pub Takes : Judging → Judging → Event → Type 0
Takes old new c = (calls : List Event) → HasTaken old calls → HasTaken new (calls ++ c ∷ [])

-- what was known of calls still is
pub record StillKnows (old new : Judging) : Type 0 where
  pub grammar : new.grammar ≡ old.grammar
  pub calls : new.calls ≡ old.calls
  pub by_grammar : new.matching.grammar ≡ new.grammar
  pub knows : (es : List Event) → Knows old.matching es → Knows new.matching es

-- what is kept of a fault: that of the calls, if they have one, or out of memory; and always out of memory if no state is
-- kept
abbrev pub IsFaultOfCalls : Kept → Option EventFault → Type 0
IsFaultOfCalls k None = k.fault ≡ None
IsFaultOfCalls k (Some faults.Memory) = ⊤
IsFaultOfCalls k (Some faults.NotWellFormed) = k.fault ≡ Some faults.NotWellFormed

abbrev pub IsKeptFault : Kept → Option MatcherState → Option EventFault → Type 0
IsKeptFault k None f = f ≡ Some faults.Memory
IsKeptFault k (Some s) f = IsFaultOfCalls k f

-- the answer at the end, given how the calls ended and the outcome of the matcher
abbrev pub answer_by : {A : Type 0} → Result A EventFault → Result Outcome OutOfMemory → Result Outcome EventFault
answer_by (Ok x) (Ok o) = Ok o
answer_by (Ok x) (Err e) = Err faults.Memory
answer_by (Err f) o = Err f
