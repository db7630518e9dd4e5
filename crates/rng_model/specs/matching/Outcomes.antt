-- The outcome of a document, and its line, whatever the document is read from (RELAX NG Specification, sections 6.2 and
-- 6.3).
use Rattle.std.specs.Prelude.{◌≡◌, ⊤, ℕ, List, [], ◌∷◌, ◌++◌, All}
use Rattle.rng_model.specs.names.Names.{NameClass, In}
use Rattle.rng_model.specs.matching.GrammarMatching.{IsValidBy, Reading}
use Rattle.rng_model.specs.simple.Grammar.{Grammar}
use Rattle.rng_model.specs.restrictions.Restrictions.{ClassIn}
use Rattle.rng_model.specs.datatypes.Texts.{texts_of}
use Rattle.rng_model.specs.documents.ElementTrees.{IsElementTree}
use Rattle.rng_model.specs.documents.PyxTrees.{Event, EventKind, a_start, a_string, an_end, Placed, item_of, events_of}
use Rattle.rng_model.specs.declared.outcome.Outcome.{Outcome}
use Rattle.rng_model.specs.declared.outcome.Outcome.TheVariants as outcome

-- the event is not a start, or it has a name that some element of the grammar may have
abbrev pub KnowsName : Grammar → EventKind → Type 0
KnowsName g (a_start q xs) = ¬ ((k : ℕ) (c : NameClass) → ClassIn g k c → ¬ (In c q))
KnowsName g (a_string s) = ⊤
KnowsName g an_end = ⊤

abbrev pub IsValidByReading : Reading → Placed → Type 0
IsValidByReading g d = IsValidBy g.grammar (texts_of g.tests) (item_of d)

-- no document that begins with these events is valid
abbrev pub NoneIsValidAfter : Reading → List Event → Type 0
NoneIsValidAfter g es = (more : List Event) (d : Placed) → IsElementTree d → events_of d ≡ es ++ more → ¬ (IsValidByReading g d)

-- No continuation after one of the events, at this line, is valid. Before it, each start of an element has a name that
-- the grammar has.
pub record FailsAt (g : Reading) (es : List Event) (line : ℕ) : Type 0 where
  pub before : List Event
  pub kind : EventKind
  pub behind : List Event
  pub parts : es ≡ before ++ record { line = line; kind = kind } ∷ behind
  pub cannot : NoneIsValidAfter g (before ++ record { line = line; kind = kind } ∷ [])
  pub known : All (λ e. KnowsName g.grammar e.kind) before

-- this is the outcome of the document
abbrev pub IsOutcome : Reading → Placed → Outcome → Type 0
IsOutcome g d outcome.Valid = IsValidByReading g d
IsOutcome g d (outcome.Invalid line) = ¬ (IsValidByReading g d) × FailsAt g (events_of d) line
