-- What the names, attributes and calls of a caller are, and a claim about what a call leaves.
use Rattle.std.specs.Prelude.{⊤, ℕ, List, map, Result, Ok, Err}
use Rattle.rng_model.specs.names.Names.{Name}
use Rattle.rng_model.specs.matching.Document as document
use Rattle.rng_model.specs.documents.PyxTrees.{Event, EventKind, a_start}
use Rattle.element_events.specs.declared.names.ExpandedName.{ExpandedName}
use Rattle.element_events.specs.declared.names.Attribute.{Attribute}
use Rattle.element_events.specs.declared.fault.EventFault.{EventFault}
use Rattle.element_events.specs.declared.fault.EventFault.TheVariants as faults

abbrev pub name_told : ExpandedName → Name
name_told n = record { ns = n.namespace.now; local = n.local.now }

abbrev pub attribute_told : Attribute → document.Attribute
attribute_told a = record { name = name_told a.name; content = a.value.now }

abbrev pub start_told : ExpandedName → List Attribute → EventKind
start_told name attributes = a_start (name_told name) (map attribute_told attributes)

abbrev pub call : ℕ → EventKind → Event
call place kind = record { line = place; kind = kind }

-- a claim that holds unless memory ran out
abbrev pub UnlessOutOfMemory : {A : Type 0} → Result A EventFault → Type 0 → Type 0
UnlessOutOfMemory (Ok x) P = P
UnlessOutOfMemory (Err faults.Memory) P = ⊤
UnlessOutOfMemory (Err faults.NotWellFormed) P = P
