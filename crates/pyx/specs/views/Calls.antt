-- The view of a reader after its calls, and the bytes and events that it represents.
use Rattle.std.specs.Prelude.{⊤, ℕ, List, ◌++◌, Result, Ok, Err}
use Rattle.rng_model.specs.documents.PyxTrees.{Event}
use Rattle.rng_model.specs.declared.pyx_fault.PyxFault.{PyxFault}
use Rattle.rng_model.specs.declared.pyx_fault.PyxFault.TheVariants as pyx
use Rattle.rng_model.specs.documents.Documents.{IsTheDocument, IsTheFault}
use Rattle.pyx.specs.views.ReaderAfterPiece.{Kept, Stands}

-- a claim that holds unless memory ran out
abbrev pub UnlessOutOfMemory : {A : Type 0} → Result A PyxFault → Type 0 → Type 0
UnlessOutOfMemory (Ok x) P = P
UnlessOutOfMemory (Err pyx.Memory) P = ⊤
UnlessOutOfMemory (Err (pyx.At clause line)) P = P

-- for each pair that the first reader represents, the second represents that pair, extended by this piece and by events
-- that were handed out
abbrev pub Extends : (List Event → Type 0) → Kept → Kept → List ℕ → Type 0
Extends handed old new piece = (es : List Event) × handed es × ((bytes : List ℕ) (sent : List Event) → Stands old bytes sent
    → Stands new (bytes ++ piece) (sent ++ es))

-- A call that ends the bytes says that they are a document with these events, or it returns their fault. Out of memory
-- says nothing.
abbrev pub IsReadVerdict : {A : Type 0} → Result A PyxFault → List ℕ → List Event → Type 0
IsReadVerdict (Ok x) bytes events = IsTheDocument bytes events
IsReadVerdict (Err pyx.Memory) bytes events = ⊤
IsReadVerdict (Err (pyx.At clause line)) bytes events = IsTheFault bytes (record { clause = clause; line = line }) events

-- for each pair that the reader represents, the result is the verdict on these bytes, and these are their events
abbrev pub Ends : {A : Type 0} → (List Event → Type 0) → Kept → Result A PyxFault → Type 0
Ends handed k result = (es : List Event) × handed es × ((bytes : List ℕ) (sent : List Event) → Stands k bytes sent → IsReadVerdict result bytes (sent ++ es))

-- for each pair that the reader represents, it is the fault of all bytes that begin with these
abbrev pub IsFaultAfter : Kept → PyxFault → Type 0
IsFaultAfter k pyx.Memory = ⊤
IsFaultAfter k (pyx.At clause line) = (bytes : List ℕ) (sent : List Event) → Stands k bytes sent → (rest : List ℕ)
    → IsTheFault (bytes ++ rest) (record { clause = clause; line = line }) sent
