-- The views of the values of the code, and the results of calls that may run out of memory.
use Rattle.std.specs.Prelude.{◌≡◌, ℕ, List, [], map, if◌then◌else◌}
use Rattle.std.specs.Prelude.{Result, Ok, Err, Option, Some, None, string_bytes}
use Rattle.rng_model.specs.documents.Lines as lines
use Rattle.rng_model.specs.documents.Lines.{Fault}
use Rattle.rng_model.specs.documents.PyxTrees.{Event}
use Rattle.pyx.specs.declared.line.Line.{Line}
use Rattle.pyx.specs.plain.WrittenNames.{written_of}
use Rattle.rng_model.specs.declared.pyx_fault.PyxFault.{PyxFault}
use Rattle.rng_model.specs.declared.pyx_fault.PyxFault.TheVariants as faults_at
use Rattle.pyx.specs.declared.pieces.Pieces.{Pieces}
use Rattle.pyx.specs.declared.state.State.{State}
use Rattle.pyx.specs.declared.state.Tag.{Tag}
use Rattle.pyx.specs.plain.DocumentReader as reader
use Rattle.pyx.specs.plain.DocumentReader.{Turn}
use Rattle.pyx.specs.views.WrittenAttributes.{written_attribute}
use Rattle.pyx.specs.plain.Pieces.{Progress}

abbrev pub line_of : Line → lines.Line
line_of l = record { bytes = l.bytes.now; ended = l.ended }

abbrev pub tag_of : List ℕ → Tag → reader.Tag
tag_of name t = record {
  name = written_of name;
  declared = map written_attribute t.declarations.items;
  others = map written_attribute t.others.items;
  bytes = t.bytes;
}

abbrev pub state_of : State → reader.State
state_of s = record {
  tag = if s.in_tag then Some (tag_of s.elements.begun s.tag) else None;
  opened = s.elements.opened;
  joined = string_bytes s.joined;
  root = s.root;
  count = s.lines;
}

-- this text, or the joined one
abbrev pub text_or : Option (List ℕ) → List ℕ → List ℕ
text_or None joined = joined
text_or (Some text) joined = text

-- the state with this text in place of the joined one
abbrev pub state_with : Option (List ℕ) → State → reader.State
state_with text s = record (state_of s) { joined = text_or text (string_bytes s.joined) }

-- The call returned what this turn gives, unless memory ran out.
abbrev pub Takes : {A S : Type 0} → Result A PyxFault → S → (List Event → Type 0) → Turn S → Type 0
Takes (Ok x) new handed turn = (turn.0 ≡ Ok new) × handed turn.1
Takes (Err faults_at.Memory) new handed turn = Unit {0}
Takes (Err (faults_at.At clause line)) new handed turn = (turn.0 ≡ Err (record { clause = clause; line = line })) × handed turn.1

-- The same for a call that hands out nothing.
abbrev pub Adds : {A S : Type 0} → Result A PyxFault → S → Turn S → Type 0
Adds result new turn = Takes result new (λ es. es ≡ []) turn

-- The call returned this fault, or none, unless memory ran out.
abbrev pub IsFault : PyxFault → Option Fault → Type 0
IsFault faults_at.Memory fault = Unit {0}
IsFault (faults_at.At clause line) fault = fault ≡ Some (record { clause = clause; line = line })

abbrev pub EndsBy : {A : Type 0} → Result A PyxFault → Option Fault → Type 0
EndsBy (Ok x) fault = fault ≡ None
EndsBy (Err e) fault = IsFault e fault

abbrev pub progress_of : Pieces → Progress
progress_of p = record { begun = p.begun.items; state = state_of p.state }

-- The call that ends a document returned what this turn gives, unless memory ran out.
abbrev pub Concludes : {A S : Type 0} → Result A PyxFault → (List Event → Type 0) → Turn S → Type 0
Concludes (Ok x) handed turn = ((s : _) × (turn.0 ≡ Ok s)) × handed turn.1
Concludes (Err faults_at.Memory) handed turn = Unit {0}
Concludes (Err (faults_at.At clause line)) handed turn = (turn.0 ≡ Err (record { clause = clause; line = line })) × handed turn.1
