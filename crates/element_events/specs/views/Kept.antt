-- What is kept between calls, and the calls and events that it stands for.
use Rattle.std.specs.Prelude.{◌≡◌, ⊤, ℕ, List, [], ◌∷◌, ◌++◌, Bool, false, true, Option, Some, None, IfSome, is_some, unwrap_or, length, ◌==◌, not, ◌&&◌, ◌||◌, Result, Ok, Err, ◌⊎◌, string_bytes}
use Rattle.rng_model.specs.datatypes.Texts.{is_blank}
use Rattle.rng_model.specs.documents.PyxTrees.{Event, Placed}
use Rattle.rng_model.specs.documents.Telling.{IsGood, events_at, string_at, NoneBegins, TellsTheDocument, TellsDocument}
use Rattle.element_events.specs.plain.Calls as plain
use Rattle.element_events.specs.plain.Calls.{after, is_misplaced, AreTaken}
use Rattle.element_events.specs.declared.state.State.{State}
use Rattle.element_events.specs.declared.fault.EventFault.{EventFault}
use Rattle.element_events.specs.declared.fault.EventFault.TheVariants as faults

abbrev pub state_of : State → plain.State
state_of s = record { depth = s.depth; root = s.root; text = string_bytes s.text }

-- a call that was taken in a state led to another one, and its events were handed out
pub record IsTaken (c : Event) (old new : plain.State) (handed : List Event → Type 0) : Type 0 where
  pub good : IsGood c.kind
  pub placed : is_misplaced c.kind old.depth old.root ≡ false
  pub state : new ≡ after c.kind old
  pub events : handed (events_at c.line c.kind old.text)

-- a call that cannot be taken in a state
abbrev pub IsRefused : Event → plain.State → Type 0
IsRefused c old = ¬ (IsGood c.kind) ⊎ (is_misplaced c.kind old.depth old.root ≡ true)

-- the result of a call; out of memory claims nothing
abbrev pub Takes : Result Unit EventFault → Event → plain.State → plain.State → (List Event → Type 0) → Type 0
Takes (Ok x) c old new handed = IsTaken c old new handed
Takes (Err faults.Memory) c old new handed = ⊤
Takes (Err faults.NotWellFormed) c old new handed = IsRefused c old × handed []

-- the state after the calls that were taken, without the text that was passed over, or the fault after which none is
pub record Kept : Type 0 where
  pub state : plain.State
  -- whether the text that was passed over is blank; it is behind the last start or end
  pub passed : Option Bool
  pub fault : Option EventFault

-- a text that was passed over; the empty one if none was
abbrev pub IsPassed : Option Bool → List ℕ → Type 0
IsPassed None text = text ≡ []
IsPassed (Some blank) text = ¬ (text ≡ []) × (is_blank text ≡ blank)

-- the same after one more text within an element
abbrev pub passed_after : List ℕ → Option Bool → Option Bool
passed_after [] passed = passed
passed_after (c ∷ cs) passed = Some (unwrap_or passed true && is_blank (c ∷ cs))

-- a text is passed over: it is not to be kept and none is kept before it, or one before it was passed over
abbrev pub passes : Bool → Option Bool → List ℕ → Bool
passes keeps passed text = is_some passed || (not keeps && length text == 0)

-- the state with its text, given the state that is kept
pub record IsWhole (passed : Option Bool) (kept whole : plain.State) : Type 0 where
  pub depth : whole.depth ≡ kept.depth
  pub root : whole.root ≡ kept.root
  pub behind : List ℕ
  pub text : whole.text ≡ kept.text ++ behind
  pub is_passed : IsPassed passed behind
  -- a text is kept whole or not at all
  pub alone : IfSome passed (λ _. kept.text ≡ [])

-- A text came: what is kept of the state after it, if the call was taken. Nothing was handed out.
abbrev pub TakesText : Result Unit EventFault → Event → Option Bool → plain.State → Option Bool → plain.State → Type 0
TakesText (Ok x) c passed old after_passed new = IsGood c.kind × (is_misplaced c.kind old.depth old.root ≡ false)
    × ((t : plain.State) → IsWhole passed old t → IsWhole after_passed new (after c.kind t))
TakesText (Err faults.Memory) c passed old after_passed new = ⊤
TakesText (Err faults.NotWellFormed) c passed old after_passed new = IsRefused c old

abbrev pub IsAfter : Option EventFault → Option Bool → plain.State → List Event → List Event → Type 0
IsAfter None passed s calls sent = (t : plain.State) × IsWhole passed s t × AreTaken calls t sent
IsAfter (Some faults.Memory) passed s calls sent = ⊤
IsAfter (Some faults.NotWellFormed) passed s calls sent = NoneBegins calls

-- It stands for these calls, and for these events that were handed out. After `NotWellFormed` the last of the calls is
-- the one that was refused, or comes after it, and no document begins with them. After `Memory` nothing is said.
abbrev pub Stands : Kept → List Event → List Event → Type 0
Stands k calls sent = IsAfter k.fault k.passed k.state calls sent

-- for all calls and events that it stood for, it now stands for them with this call, with the text that was passed over,
-- as a string with the place of this call, and with events that were handed out, appended
abbrev pub Extends : (List Event → Type 0) → Kept → Kept → Event → Type 0
Extends handed old new c = (es : List Event) × handed es × ((calls sent : List Event) → Stands old calls sent
    → (text : List ℕ) × IsPassed old.passed text × Stands new (calls ++ c ∷ []) (sent ++ (string_at c.line text ++ es)))

-- for all calls and events that it stood for, it now stands for them with this call, and for no more events
abbrev pub Adds : Kept → Kept → Event → Type 0
Adds old new c = (calls sent : List Event) → Stands old calls sent → Stands new (calls ++ c ∷ []) sent

-- a call that ends the calls says that they tell a document with these events, or that they tell none
abbrev pub IsVerdict : {A : Type 0} → Result A EventFault → List Event → List Event → Type 0
IsVerdict (Ok x) calls sent = TellsTheDocument calls sent
IsVerdict (Err faults.Memory) calls sent = ⊤
IsVerdict (Err faults.NotWellFormed) calls sent = (tree : Placed) → ¬ (TellsDocument calls tree)
