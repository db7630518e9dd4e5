-- What the bytes of a document are, and which events are reported of bytes that are no document.
use Rattle.std.specs.Prelude.{◌≡◌, ◌≤◌, ℕ, List, ◌++◌, All, length}
use Rattle.rng_model.specs.documents.Lines.{Line, lines, Fault}
use Rattle.rng_model.specs.documents.PyxTrees.{Placed, Event, events_of, IsPyxDocument}
use Rattle.rng_model.specs.documents.PyxClauses.{IsFirstFault, Breaks}

-- the lines break no clause except P13, so more lines may make them a document
abbrev pub IsFront : List Line → Type 0
IsFront ls = (f : Fault) → Breaks ls f → f.clause ≡ 13

-- the longest front of all lines that breaks no clause except P13
pub record HasLongestFront (all front : List Line) : Type 0 where
  pub rest : List Line
  pub parts : all ≡ front ++ rest
  pub is_front : IsFront front
  pub longest : (more others : List Line) → all ≡ more ++ others → IsFront more → length more ≤ length front

-- there is a document that begins with these lines, and its events begin with these events
pub record BeginsDocument (front : List Line) (sent : List Event) : Type 0 where
  pub bytes : List ℕ
  pub behind : List Line
  pub parts : lines bytes ≡ front ++ behind
  pub tree : Placed
  pub document : IsPyxDocument bytes tree
  pub more : List Event
  pub events : events_of tree ≡ sent ++ more

-- The events that are reported of lines that break a clause, with a fault at this line. They are at that line or before
-- it. They begin the events of a document that begins with the longest front of the lines that breaks only P13 or
-- nothing.
pub record AreEventsBefore (all : List Line) (line : ℕ) (sent : List Event) : Type 0 where
  pub in_time : All (λ e. e.line ≤ line) sent
  pub front : List Line
  pub longest : HasLongestFront all front
  pub begins : BeginsDocument front sent

-- the bytes are a document, and these are its events
pub record IsTheDocument (bytes : List ℕ) (events : List Event) : Type 0 where
  pub tree : Placed
  pub document : IsPyxDocument bytes tree
  pub events_are : events_of tree ≡ events
  pub only : (other : Placed) → IsPyxDocument bytes other → events_of other ≡ events

-- the bytes are no document: this is the broken clause of the least line, and of the least number there, and these
-- events were reported
pub record IsTheFault (bytes : List ℕ) (f : Fault) (sent : List Event) : Type 0 where
  pub first : IsFirstFault (lines bytes) f
  pub no_document : (tree : Placed) → ¬ (IsPyxDocument bytes tree)
  pub events : AreEventsBefore (lines bytes) f.line sent
