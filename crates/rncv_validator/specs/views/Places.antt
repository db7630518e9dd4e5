-- The place where a file breaks the clause that a fault reports.
use Rattle.std.specs.Prelude.{ℕ, List, Option, Some, None}
use Rattle.rng_model.specs.declared.fault.SchemaFault.{SchemaFault}
use Rattle.rng_model.specs.declared.fault.SchemaFault.TheVariants as faults
use Rattle.rnc_model.specs.declared.file_place.FilePlace.{FilePlace}
use Rattle.rnc_model.specs.loading.FaultPlaces.{BreaksClauseAt}

-- the clause that a fault reports for one file
abbrev pub file_clause : SchemaFault → Option ℕ
file_clause (faults.File clause name) = Some clause
file_clause (faults.Clause clause) = None
file_clause faults.Memory = None

-- the file breaks that clause at this place
abbrev pub IsPlaceOfFault : List ℕ → SchemaFault → FilePlace → Type 0
IsPlaceOfFault bytes (faults.File clause name) p = BreaksClauseAt bytes clause p
IsPlaceOfFault bytes (faults.Clause clause) p = ⊥
IsPlaceOfFault bytes faults.Memory p = ⊥
