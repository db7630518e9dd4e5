-- What a document keeps of what was fed. Calls hand it on.
use Rattle.std.specs.Prelude.{◌≡◌, ℕ, List, [], false, Option, Some, None, Result, Ok, Err}
use Rattle.rng_model.specs.simple.Table.{Table}
use Rattle.rng_model.specs.documents.PyxTrees.{Event}
use Rattle.rng_model.specs.declared.fault.OutOfMemory.{OutOfMemory}
use Rattle.rng_model.specs.declared.outcome.Outcome.{Outcome}
use Rattle.rng_model.specs.declared.outcome.Outcome.TheVariants as outcome
use Rattle.rng_model.specs.declared.pyx_fault.PyxFault.{PyxFault}
use Rattle.rng_model.specs.declared.pyx_fault.PyxFault.TheVariants as pyx
use Rattle.pyx.specs.views.ReaderAfterPiece.{Kept, Stands}
use Rattle.rng_deriv.specs.views.Matchers.{HasRunOut, IsStateBy, Knows, Matching, matching_in}
use Rattle.rng_deriv.specs.declared.matcher_state.MatcherState.{MatcherState}
use Rattle.rng_deriv_events.specs.views.Positions.{KeepsTag, failed_line}
use Rattle.rng_deriv_events.specs.declared.progress.Progress.TheVariants as progress
use Rattle.rncv_model.specs.declared.verdict.Verdict.{Verdict}
use Rattle.rncv_model.specs.declared.verdict.Verdict.TheVariants.{Valid, Malformed, Invalid}
use Rattle.rncv_validator.specs.declared.fault.DocumentFault.{DocumentFault}
use Rattle.rncv_validator.specs.declared.fault.DocumentFault.TheVariants as faults

-- a grammar, what is read, what the grammar says of it, and the fault that every call of `feed` returns
pub record Judging : Type 0 where
  pub grammar : Table
  pub reader : Kept
  pub matching : Matching
  pub fault : Option DocumentFault

-- what is known by a state; without a state nothing is known
abbrev pub matching_of : Table → Option MatcherState → Matching
matching_of t None = record { grammar = t; patterns = []; progress = progress.Lost }
matching_of t (Some s) = matching_in t s

-- these bytes were fed: they are what is read, and what is known is known of their events
pub record HasBeenFed (d : Judging) (bytes : List ℕ) : Type 0 where
  pub by_grammar : d.matching.grammar ≡ d.grammar
  pub events : List Event
  pub reads : Stands d.reader bytes events
  pub knows : Knows d.matching events

-- the state is that of a matcher by this grammar that has had no event yet, and that keeps no start
pub record IsFresh (t : Table) (s : MatcherState) : Type 0 where
  pub state : IsStateBy t s
  pub knows : Knows (matching_in t s) []
  pub mode : KeepsTag false s.progress
  pub kept : ¬ (HasRunOut (matching_in t s))

-- the fault is the reader's, or out of memory
abbrev pub IsFaultOfReader : Kept → DocumentFault → Type 0
IsFaultOfReader k faults.Memory = Unit {0}
IsFaultOfReader k (faults.Malformed clause line) = k.fault ≡ Some (pyx.At clause line)

-- what is kept of a fault: the reader's, if it has one, or out of memory; and always out of memory if no state is kept
abbrev pub IsReaderFault : Kept → Option DocumentFault → Type 0
IsReaderFault k None = k.fault ≡ None
IsReaderFault k (Some f) = IsFaultOfReader k f

abbrev pub IsKeptFault : Kept → Option MatcherState → Option DocumentFault → Type 0
IsKeptFault k None f = f ≡ Some faults.Memory
IsKeptFault k (Some s) f = IsReaderFault k f

-- the state is not that of a matcher that has run out of memory
abbrev pub HasNotRunOut : Table → MatcherState → Type 0
HasNotRunOut t s = ¬ (HasRunOut (matching_in t s))

-- nothing is kept of an event after which no continuation is valid
abbrev pub KeepsNoEvent : MatcherState → Type 0
KeepsNoEvent s = failed_line s.progress ≡ None

-- the verdict on a document, given how reading ended and the outcome of the matcher
abbrev pub verdict_by : {A : Type 0} → Result A PyxFault → Result Outcome OutOfMemory → Result Verdict OutOfMemory
verdict_by (Ok x) (Ok outcome.Valid) = Ok Valid
verdict_by (Ok x) (Ok (outcome.Invalid line)) = Ok (Invalid line)
verdict_by (Ok x) (Err e) = Err e
verdict_by (Err (pyx.At clause line)) o = Ok (Malformed clause line)
verdict_by (Err pyx.Memory) o = Err (record {})
