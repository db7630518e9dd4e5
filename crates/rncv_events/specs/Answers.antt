-- Which answers are right for calls that tell a document, given which documents are valid and which names no element may
-- have. (RELAX NG Specification, sections 2, 6.2 and 6.3)
use Rattle.std.specs.Prelude.{⊤, ◌≡◌, ℕ, List, ◌∷◌, ◌++◌, All, Result, Ok, Err}
use Rattle.rng_model.specs.names.Names.{Name}
use Rattle.rng_model.specs.matching.Document.{Item}
use Rattle.rng_model.specs.documents.PyxTrees.{Event, EventKind, Placed, item_of}
use Rattle.rng_model.specs.documents.Telling.{NoneBegins, TellsDocument}
use Rattle.rng_model.specs.declared.outcome.Outcome.{Outcome}
use Rattle.rng_model.specs.declared.outcome.Outcome.TheVariants as outcome
use Rattle.rncv_model.specs.answers.Verdict.{StartsUnknown}
use Rattle.element_events.specs.declared.fault.EventFault.{EventFault}
use Rattle.element_events.specs.declared.fault.EventFault.TheVariants as faults

-- a document begins with the calls
abbrev pub SomeBegins : List Event → Type 0
SomeBegins calls = (more : List Event) × (tree : Placed) × TellsDocument (calls ++ more) tree

-- the result of the last of these calls: `Ok` if a document begins with them, and `NotWellFormed` if none does; out of
-- memory claims nothing
abbrev pub IsResult : Result Unit EventFault → List Event → Type 0
IsResult (Ok x) calls = SomeBegins calls
IsResult (Err faults.NotWellFormed) calls = NoneBegins calls
IsResult (Err faults.Memory) calls = ⊤

-- the calls tell a document that is valid
abbrev pub TellValid : (Item → Type 0) → List Event → Type 0
TellValid IsValid calls = (tree : Placed) × TellsDocument calls tree × IsValid (item_of tree)

-- none of the calls starts an element with a name that no element may have
abbrev pub HaveKnownStarts : (Name → Type 0) → List Event → Type 0
HaveKnownStarts IsUnknown calls = All (λ c. ¬ (StartsUnknown IsUnknown c.kind)) calls

-- One of the calls has this place. No document that begins with the calls up to that one is valid. Before it no element
-- starts with a name that no element may have.
pub record AreHopelessFrom (IsValid : Item → Type 0) (IsUnknown : Name → Type 0) (calls : List Event) (place : ℕ) : Type 0 where
  pub before : List Event
  pub kind : EventKind
  pub behind : List Event
  pub parts : calls ≡ before ++ record { line = place; kind = kind } ∷ behind
  pub cannot : (more : List Event) → ¬ (TellValid IsValid (before ++ record { line = place; kind = kind } ∷ more))
  pub known : HaveKnownStarts IsUnknown before

-- The answer at the end of the calls. `Valid`: they tell a document, and it is valid. `Invalid`: they tell a document, and
-- it is invalid from this place on. `NotWellFormed`: they tell no document. Out of memory claims nothing.
abbrev pub IsAnswerOn : (Item → Type 0) → (Name → Type 0) → List Event → Result Outcome EventFault → Type 0
IsAnswerOn IsValid IsUnknown calls (Ok outcome.Valid) = TellValid IsValid calls
IsAnswerOn IsValid IsUnknown calls (Ok (outcome.Invalid place)) = ((tree : Placed) × TellsDocument calls tree) × AreHopelessFrom IsValid IsUnknown calls place
IsAnswerOn IsValid IsUnknown calls (Err faults.NotWellFormed) = (tree : Placed) → ¬ (TellsDocument calls tree)
IsAnswerOn IsValid IsUnknown calls (Err faults.Memory) = ⊤
