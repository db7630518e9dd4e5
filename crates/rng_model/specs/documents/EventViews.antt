-- What an attribute and an event of the code are, without the place of their texts in memory, and that a taker of events
-- was given some.
use Rattle.std.specs.Prelude.{string_bytes, map, List, ◌++◌}
use Rattle.rng_model.specs.declared.document.Attr.{Attr}
use Rattle.rng_model.specs.matching.Document as document
use Rattle.rng_model.specs.names.NameViews.{name_of}
use Rattle.rng_model.specs.declared.event.Event.{Event}
use Rattle.rng_model.specs.declared.event.EventKind.{EventKind}
use Rattle.rng_model.specs.declared.event.EventKind.TheVariants as kinds
use Rattle.rng_model.specs.documents.PyxTrees as trees

abbrev pub attribute_of : Attr → document.Attribute
attribute_of a = record { name = name_of a.name; content = string_bytes a.value }

abbrev pub event_kind_of : EventKind → trees.EventKind
event_kind_of (kinds.Start name attrs) = trees.a_start (name_of name.now) (map attribute_of attrs.now)
event_kind_of (kinds.Text text) = trees.a_string text.now
event_kind_of kinds.End = trees.an_end

abbrev pub event_of : Event → trees.Event
event_of e = record { line = e.line; kind = event_kind_of e.kind }

-- for each list that the taker represented, from any first taker, it now represents that list with these events
-- appended
abbrev pub Hands : {E : Type 0} → (E → E → List trees.Event → Type 0) → E → E → List trees.Event → Type 0
Hands stands old new es = (first : _) (sent : List trees.Event) → stands first old sent → stands first new (sent ++ es)
