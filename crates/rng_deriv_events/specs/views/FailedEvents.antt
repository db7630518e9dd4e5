-- Which event is kept as the one after which no continuation is valid.
use Rattle.std.specs.Prelude.{⊤, ◌≡◌, ℕ, List, map, Bool, true, false}
use Rattle.rng_model.specs.documents.EventViews.{attribute_of}
use Rattle.rng_model.specs.documents.PyxTrees.{EventKind, a_start, a_string, an_end}
use Rattle.rng_model.specs.matching.Document.{Attribute}
use Rattle.rng_model.specs.names.NameViews.{name_of}
use Rattle.rng_model.specs.names.Names.{Name}
use Rattle.rng_deriv_events.specs.declared.failed_event.FailedEvent.{FailedEvent}
use Rattle.rng_deriv_events.specs.declared.failed_event.FailedEvent.TheVariants as events

-- of a string it is not kept what it says
abbrev pub IsFailedEvent : FailedEvent → EventKind → Type 0
IsFailedEvent (events.Start name attrs) kind = kind ≡ a_start (name_of name) (map attribute_of attrs.items)
IsFailedEvent events.UnkeptStart kind = (q : Name) × (xs : List Attribute) × (kind ≡ a_start q xs)
IsFailedEvent events.Text kind = (s : List ℕ) × (kind ≡ a_string s)
IsFailedEvent events.End kind = kind ≡ an_end

-- a copy of it
abbrev pub IsCopyOf : FailedEvent → FailedEvent → Type 0
IsCopyOf e copy = (kind : EventKind) → IsFailedEvent e kind → IsFailedEvent copy kind

-- a start is kept whole exactly if this is true
abbrev pub IsKept : Bool → FailedEvent → Type 0
IsKept whole (events.Start name attrs) = whole ≡ true
IsKept whole events.UnkeptStart = whole ≡ false
IsKept whole events.Text = ⊤
IsKept whole events.End = ⊤

-- enough is kept to tell why the event leaves nothing
abbrev pub is_told : FailedEvent → Bool
is_told (events.Start name attrs) = true
is_told events.UnkeptStart = false
is_told events.Text = true
is_told events.End = true
