-- What a matcher takes, and when it may take a string of which it does not know what it says.
use Rattle.std.specs.Prelude.{◌≡◌, ⊤, ℕ, List, Bool, true, false}
use Rattle.rng_model.specs.datatypes.Texts.{is_blank}
use Rattle.rng_model.specs.documents.EventViews.{event_kind_of}
use Rattle.rng_model.specs.documents.PyxTrees.{Event, EventKind, a_string}
use Rattle.rng_deriv_events.specs.views.LevelTable.{levels_in, tests_in}
use Rattle.rng_deriv_events.specs.declared.input.Input.{Input}
use Rattle.rng_deriv_events.specs.declared.input.Input.TheVariants as inputs
use Rattle.rng_deriv_events.specs.declared.position.Position.{Position}
use Rattle.rng_deriv_events.specs.declared.progress.Progress.{Progress}
use Rattle.rng_deriv_events.specs.declared.progress.Progress.TheVariants as progress

abbrev pub event_at : ℕ → EventKind → Event
event_at line kind = record { line = line; kind = kind }

-- a string that is blank, or one that is not
abbrev pub IsTextOf : Bool → EventKind → Type 0
IsTextOf blank kind = (s : List ℕ) × (kind ≡ a_string s) × (is_blank s ≡ blank)

-- the event is that of the input, or any one of which the input tells all that is known
abbrev pub IsOf : Input → EventKind → Type 0
IsOf (inputs.Event k) kind = kind ≡ event_kind_of k
IsOf (inputs.AnyText blank) kind = IsTextOf blank kind

-- an alternative that is left tests what a string says; nothing is left after an event that failed
abbrev pub tests_at : Position → Bool
tests_at p = tests_in (levels_in p.state.table) p.state.now.0

abbrev pub tests_strings : Progress → Bool
tests_strings (progress.Going p line) = tests_at p.value
tests_strings (progress.Failed line left) = false
tests_strings progress.Lost = true

-- a string of which only this is known may come where no alternative tests what it says
abbrev pub Serves : Input → Bool → Type 0
Serves (inputs.Event k) tests = ⊤
Serves (inputs.AnyText blank) tests = tests ≡ false
