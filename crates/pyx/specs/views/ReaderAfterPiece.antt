-- The view of a reader, and the bytes and events that it represents.
use Rattle.std.specs.Prelude.{◌≡◌, ℕ, List, Option, Some, None, Result, Ok, Err}
use Rattle.rng_model.specs.documents.Lines.{Fault}
use Rattle.rng_model.specs.documents.PyxTrees.{Event}
use Rattle.rng_model.specs.declared.pyx_fault.PyxFault.{PyxFault}
use Rattle.rng_model.specs.declared.pyx_fault.PyxFault.TheVariants as pyx
use Rattle.pyx.specs.plain.Pieces.{Progress, read, nothing_fed}

-- the progress, or the fault after which there is none, and the number of bytes fed
pub record Kept : Type 0 where
  pub progress : Progress
  pub fault : Option PyxFault
  pub fed : ℕ

abbrev pub result_of : Progress → Option PyxFault → Result Progress Fault → Type 0
result_of p None r = r ≡ Ok p
result_of p (Some pyx.Memory) r = ⊥
result_of p (Some (pyx.At clause line)) r = r ≡ Err (record { clause = clause; line = line })

-- A reader represents these bytes fed and these events handed out.
pub record Stands (k : Kept) (bytes : List ℕ) (sent : List Event) : Type 0 where
  pub result : result_of k.progress k.fault (read bytes nothing_fed).0
  pub events : (read bytes nothing_fed).1 ≡ sent
