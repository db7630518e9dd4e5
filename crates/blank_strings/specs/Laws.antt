-- The theorems of this crate.
use Rattle.std.specs.Prelude.{◌↔◌, ℕ, List, Result, false}
use Rattle.rng_model.specs.simple.Grammar.{Grammar}
use Rattle.rng_model.specs.simple.Table.{Table}
use Rattle.rng_model.specs.schema.Schema.{Schema}
use Rattle.rng_model.specs.matching.Document.{Item}
use Rattle.rng_model.specs.matching.GrammarMatching.{IsValidBy}
use Rattle.rng_model.specs.plain.WellFormed.{IsWellFormed}
use Rattle.rng_model.specs.datatypes.Texts.{TextTests, texts_of}
use Rattle.rng_model.specs.restrictions.RestrictionFaults.{BreaksNone}
use Rattle.rng_model.specs.xsd.SchemasWith.{BreaksNoClauseWith, IsValidBySchemaWith}
use Rattle.rng_model.specs.documents.PyxTrees.{Event, Placed, item_of}
use Rattle.rng_model.specs.documents.Telling.{TellsDocument}
use Rattle.rng_model.specs.declared.outcome.Outcome.{Outcome}
use Rattle.rng_model.specs.declared.type_set.TypeSet.{TypeSet}
use Rattle.rncv_model.specs.answers.Verdict.{IsUnknownIn}
use Rattle.element_events.specs.declared.fault.EventFault.{EventFault}
use Rattle.rncv_validator.specs.views.Validators.{JudgesWith}
use Rattle.rncv_events.specs.Answers.{AreHopelessFrom, IsAnswerOn}
use Rattle.blank_strings.specs.LeftOut.{LeavesOutBlanks}
use Rattle.blank_strings.specs.LeftOutCalls.{LeaveOutTexts}

-- ---- documents

-- without these blank strings a well-formed document is well-formed
abbrev pub StaysWellFormed : Type 0
StaysWellFormed = (d e : Item) → LeavesOutBlanks d e → IsWellFormed d → IsWellFormed e

-- and it is valid by a simple grammar exactly if it was valid with them (sections 6.2.7 and 6.3)
abbrev pub StaysValid : Type 0
StaysValid = (g : Grammar) → BreaksNone g → (tests : TextTests) (d e : Item) → LeavesOutBlanks d e → IsWellFormed d
    → IsValidBy g (texts_of tests) d ↔ IsValidBy g (texts_of tests) e

-- the same for a schema as it is written, that breaks no clause
abbrev pub StaysValidBySchema : Type 0
StaysValidBySchema = (types : TypeSet) (s : Schema) (g : Table) → JudgesWith types g s → BreaksNoClauseWith types s → (d e : Item) → LeavesOutBlanks d e
    → IsWellFormed d → IsValidBySchemaWith types s d ↔ IsValidBySchemaWith types s e

-- ---- calls that tell a document

-- without the texts of such strings, calls that tell a document tell the document without these strings
abbrev pub StaysTold : Type 0
StaysTold = (calls rest : List Event) → LeaveOutTexts false calls rest → (d : Placed) → TellsDocument calls d
    → (e : Placed) × TellsDocument rest e × LeavesOutBlanks (item_of d) (item_of e)

-- a place from which the calls without them are invalid is one from which the calls are
abbrev pub StaysHopeless : Type 0
StaysHopeless = (types : TypeSet) (s : Schema) (g : Table) → JudgesWith types g s → BreaksNoClauseWith types s → (calls rest : List Event)
    → LeaveOutTexts false calls rest → (place : ℕ) → AreHopelessFrom (IsValidBySchemaWith types s) (IsUnknownIn s) rest place
    → AreHopelessFrom (IsValidBySchemaWith types s) (IsUnknownIn s) calls place

-- each answer that is right for the calls without them is right for the calls, if these tell a document
abbrev pub StaysAnswered : Type 0
StaysAnswered = (types : TypeSet) (s : Schema) (g : Table) → JudgesWith types g s → BreaksNoClauseWith types s → (calls rest : List Event)
    → LeaveOutTexts false calls rest → (d : Placed) → TellsDocument calls d → (answer : Result Outcome EventFault)
    → IsAnswerOn (IsValidBySchemaWith types s) (IsUnknownIn s) rest answer → IsAnswerOn (IsValidBySchemaWith types s) (IsUnknownIn s) calls answer
