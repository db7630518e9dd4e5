-- What calls of a document answer, by the document's value.
use Rattle.std.specs.Prelude.{⊤, ℕ, List, [], ◌∷◌, ◌++◌, Option}
use Rattle.rng_model.specs.documents.PyxTrees.{Event}
use Rattle.rng_model.specs.documents.Telling.{NoneBegins}
use Rattle.element_events.specs.declared.fault.EventFault.{EventFault}
use Rattle.element_events.specs.declared.fault.EventFault.TheVariants as faults
use Rattle.rng_deriv_events.specs.views.Positions.{failed_line}
use Rattle.rncv_events.specs.views.Told.{HasTaken, Judging}

-- the place of the event after which no continuation is valid, if it is known
abbrev pub failed_since : Judging → Option ℕ
failed_since d = failed_line d.matching.progress

-- After this fault no call is taken: no document begins with the calls that were taken and one more, and what is kept stands for
-- them too. Out of memory claims nothing.
abbrev pub IsStuck : Judging → EventFault → Type 0
IsStuck d faults.Memory = ⊤
IsStuck d faults.NotWellFormed = (calls : List Event) (c : Event) → HasTaken d calls → NoneBegins (calls ++ c ∷ []) × HasTaken d (calls ++ c ∷ [])
