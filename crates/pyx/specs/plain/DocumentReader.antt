-- A document line by line: the state after a line or its fault, and the events that are handed out at it.
use Rattle.std.specs.Prelude.{ℕ, ◌+◌, ◌==◌, nat_le, Bool, true, false, ◌&&◌, List, [], ◌∷◌, ◌++◌, length, map, Option, Some, None, Result, Ok, Err}
use Rattle.std.specs.Prelude.{if◌then◌else◌, is_some}
use Rattle.rng_model.specs.documents.Lines.{Line, attribute_limit, open_limit, text_limit, Fault}
use Rattle.rng_model.specs.documents.PyxLines as lines
use Rattle.rng_model.specs.documents.PyxLines.{Said, QName}
use Rattle.rng_model.specs.documents.PyxNamespaces.{WrittenAttribute}
use Rattle.rng_model.specs.documents.PyxTrees.{Event, a_start, a_string, an_end}
use Rattle.pyx.specs.plain.Cuts.{behind}
use Rattle.pyx.specs.plain.LineReader.{said_of}
use Rattle.pyx.specs.plain.Declarations.{Declared, declared_by, same_written}
use Rattle.pyx.specs.plain.TagReader.{Element, tag_read}

-- a tag: its name, its `A` lines (declarations, and others), each in order, and the number of bytes in its lines
pub record Tag : Type 0 where
  pub name : QName
  pub declared : List WrittenAttribute
  pub others : List WrittenAttribute
  pub bytes : ℕ

-- an element whose end has not been read
pub record Open : Type 0 where
  pub name : QName
  pub declared : List WrittenAttribute

pub record State : Type 0 where
  -- the tag that the last line belongs to
  pub tag : Option Tag
  -- the innermost is first; without the element of the tag
  pub opened : List Open
  pub joined : List ℕ
  pub root : Bool
  pub count : ℕ

abbrev pub declared_in : List Open → Declared
declared_in opened = map (λ o. o.declared) opened

abbrev pub tag_bytes : Option Tag → ℕ
tag_bytes None = 0
tag_bytes (Some t) = t.bytes

-- ---- turns

-- the result of reading, and the events that were handed out
abbrev pub Turn : Type 0 → Type 0
Turn A = Result A Fault × List Event

abbrev pub fault : {A : Type 0} → ℕ → ℕ → Turn A
fault clause line = (Err (record { clause = clause; line = line }), [])

abbrev pub silent : {A : Type 0} → A → Turn A
silent a = (Ok a, [])

abbrev pub after_events : {A : Type 0} → List Event → Turn A → Turn A
after_events es turn = (turn.0, es ++ turn.1)

abbrev pub go_on : {A B : Type 0} → Result A Fault → List Event → (A → Turn B) → Turn B
go_on (Ok a) es f = after_events es (f a)
go_on (Err e) es f = (Err e, es)

-- a turn, followed by another
abbrev pub followed : {A B : Type 0} → Turn A → (A → Turn B) → Turn B
followed turn f = go_on turn.0 turn.1 f

-- ---- what ends at a line

-- the element of the tag is open
abbrev pub opened_by : Tag → State → State
opened_by t s = record s { tag = None; opened = record { name = t.name; declared = t.declared } ∷ s.opened }

abbrev pub tag_closed : Result Element ℕ → Tag → State → Turn State
tag_closed (Err clause) t s = fault clause s.count
tag_closed (Ok e) t s = (
  Ok (opened_by t s),
  record { line = s.count + 1; kind = a_start e.name e.attrs } ∷ [],
)

abbrev pub close_tag : Option Tag → State → Turn State
close_tag None s = silent s
close_tag (Some t) s = tag_closed (tag_read (declared_in s.opened) t.name t.declared t.others) t s

-- a line with these bytes comes next: unless it belongs to the tag, the tag is complete
unfoldable pub tag_ended : List ℕ → State → Turn State
tag_ended bytes s = if is_some (behind 65 bytes) then silent s else close_tag s.tag s

-- the joined text is complete
unfoldable pub text_ended : State → Turn State
text_ended s = if length s.joined == 0 then silent s else (Ok (record s { joined = [] }), record { line = s.count; kind = a_string s.joined } ∷ [])

-- ---- the content of a line

abbrev pub begin_tag : ℕ → QName → State → State
begin_tag bytes name s = record s { tag = Some (record { name = name; declared = []; others = []; bytes = bytes }); root = true }

-- no element is open
abbrev pub is_outside : State → Bool
is_outside s = length s.opened == 0

unfoldable pub started : ℕ → QName → State → Turn State
started bytes name s = if s.root && is_outside s then fault 9 s.count else
    (if nat_le open_limit (length s.opened) then fault 10 s.count else followed (text_ended s) (λ s. silent (begin_tag bytes name s)))

abbrev pub with_attribute : ℕ → WrittenAttribute → Tag → Tag
with_attribute bytes a t = if is_some (declared_by a.name) then record t { declared = t.declared ++ a ∷ []; bytes = t.bytes + bytes }
    else record t { others = t.others ++ a ∷ []; bytes = t.bytes + bytes }

abbrev pub add_attribute : Option Tag → ℕ → WrittenAttribute → State → Turn State
add_attribute None bytes a s = fault 7 s.count
add_attribute (Some t) bytes a s = if nat_le attribute_limit (length t.declared + length t.others) then fault 10 s.count
    else silent (record s { tag = Some (with_attribute bytes a t) })

unfoldable pub attributed : ℕ → WrittenAttribute → State → Turn State
attributed bytes a s = add_attribute s.tag bytes a s

unfoldable pub joined_by : List ℕ → State → Turn State
joined_by value s = if is_outside s then fault 9 s.count else
    (if nat_le (length s.joined + length value) text_limit then silent (record s { joined = s.joined ++ value }) else fault 10 s.count)

-- the elements around the innermost one
abbrev pub around : List Open → List Open
around [] = []
around (o ∷ outer) = outer

abbrev pub end_in : List Open → QName → State → Turn State
end_in [] name s = fault 8 s.count
end_in (o ∷ outer) name s = if same_written o.name name
    then followed (text_ended s) (λ s. (Ok (record s { opened = around s.opened }), record { line = s.count; kind = an_end } ∷ []))
    else fault 8 s.count

unfoldable pub ended : QName → State → Turn State
ended name s = end_in s.opened name s

-- a line of this many bytes with this content
unfoldable pub said_read : ℕ → Said → State → Turn State
said_read bytes (lines.start name) s = started bytes name s
said_read bytes (lines.attribute name value) s = attributed bytes (record { name = name; content = value }) s
said_read bytes (lines.text value) s = joined_by value s
said_read bytes (lines.end name) s = ended name s
said_read bytes lines.instruction s = silent s

abbrev pub judged : ℕ → Result Said ℕ → State → Turn State
judged bytes (Ok said) s = said_read bytes said s
judged bytes (Err clause) s = fault clause s.count

-- the next line
unfoldable pub line_read : Line → State → Turn State
line_read l s = followed (tag_ended l.bytes s) (λ s. judged (length l.bytes) (said_of l) (record s { count = s.count + 1 }))

unfoldable pub all_read : List Line → State → Turn State
all_read [] s = silent s
all_read (l ∷ ls) s = followed (line_read l s) (all_read ls)

abbrev pub nothing_read : State
nothing_read = record { tag = None; opened = []; joined = []; root = false; count = 0 }

-- ---- the end

abbrev pub unfinished : ℕ → Result Element ℕ → Option Fault
unfinished count (Err clause) = Some (record { clause = clause; line = count })
unfinished count (Ok e) = Some (record { clause = 13; line = count })

abbrev pub fault_at_end : Option Tag → State → Option Fault
fault_at_end (Some t) s = unfinished s.count (tag_read (declared_in s.opened) t.name t.declared t.others)
fault_at_end None s = if s.root && is_outside s then None else Some (record { clause = 13; line = s.count })

-- the document ends after these lines
unfoldable pub at_end : State → Option Fault
at_end s = fault_at_end s.tag s

abbrev pub at_last : Option Fault → State → Turn State
at_last None s = silent s
at_last (Some f) s = (Err f, [])

unfoldable pub all_ended : State → Turn State
all_ended s = at_last (at_end s) s

-- a document
unfoldable pub document_read : List Line → Turn State
document_read ls = followed (all_read ls nothing_read) all_ended
