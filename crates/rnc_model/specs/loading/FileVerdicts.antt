-- The verdict on one file: it breaks a clause, or it has a tree. The verdict on all files that a fault reports.
use Rattle.std.specs.Prelude.{◌≡◌, ℕ, List, Option, Some, None, string_bytes}
use Rattle.rnc_model.specs.declarations.FileTree.{FileTree}
use Rattle.rnc_model.specs.loading.SchemaFile.{BreaksFileClause, IsSchemaFile}
use Rattle.rng_model.specs.declared.fault.SchemaFault.{SchemaFault}
use Rattle.rng_model.specs.declared.fault.SchemaFault.TheVariants as faults
use Rattle.rnc_model.specs.loading.Loading.{FilesVerdict, together_break, file_breaks}

-- the verdict on a file by itself: it breaks this clause first, or it has this tree
pub data FileVerdict : Type 0 where
  breaks : ℕ → FileVerdict
  has_tree : FileTree → FileVerdict

abbrev pub ContentHasVerdict : List ℕ → FileVerdict → Type 0
ContentHasVerdict bytes (breaks clause) = BreaksFileClause bytes clause
ContentHasVerdict bytes (has_tree t) = IsSchemaFile bytes t

-- the bytes have this verdict and no other
pub record ContentHasOnlyVerdict (bytes : List ℕ) (v : FileVerdict) : Type 0 where
  pub is : ContentHasVerdict bytes v
  pub only : (other : FileVerdict) → ContentHasVerdict bytes other → v ≡ other

-- the verdict that a fault reports; out of memory reports none
abbrev pub verdict_of_fault : SchemaFault → Option FilesVerdict
verdict_of_fault (faults.File clause name) = Some (file_breaks (string_bytes name) clause)
verdict_of_fault (faults.Clause clause) = Some (together_break clause)
verdict_of_fault faults.Memory = None
