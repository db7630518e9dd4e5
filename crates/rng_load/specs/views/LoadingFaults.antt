-- What the calls that take files in load order return.
use Rattle.std.specs.Prelude.{◌≡◌, List, Result, Ok, Err, Option, Some, None, string_bytes, String}
use Rattle.std.specs.Global.{Global}
use Rattle.indexmap.specs.IndexMap.{IndexMap}
use Rattle.rng_model.specs.declared.fault.SchemaFault.{SchemaFault}
use Rattle.rnc_grammar.specs.declared.file_tree.FileTree as declared
use Rattle.rnc_grammar.specs.views.View.{file_of}
use Rattle.rng_load.specs.views.FilesView.{taken_files_of}
use Rattle.rnc_model.specs.loading.Loading.{FilesVerdict, file_breaks, together_break, are_taken, AreTaken, IsFirstBroken}
use Rattle.rnc_model.specs.loading.FileVerdicts.{verdict_of_fault, breaks, has_tree}
use Rattle.rng_load.specs.views.FileVerdicts.{FileHasOnlyVerdict}
use Rattle.rng_load.specs.declared.fault.ReadingFault.{ReadingFault}
use Rattle.rng_load.specs.declared.fault.ReadingFault.TheVariants as readings
use Rattle.rnc_model.specs.loading.SchemaFile.{FileName, NamedFile}

-- the verdict that is reported if not all files can be read
abbrev pub verdict_of_reading : ReadingFault → Option FilesVerdict
verdict_of_reading (readings.File clause name) = Some (file_breaks (string_bytes name) clause)
verdict_of_reading readings.Memory = None

module _ {S : Type 0} where
  -- the verdict of a result of reading files in load order
  abbrev pub order_of : Result (IndexMap (String Global) declared.FileTree S) ReadingFault → Option FilesVerdict
  order_of (Ok trees) = Some (are_taken (taken_files_of trees))
  order_of (Err fault) = verdict_of_reading fault

  -- the verdict of a result with files and their trees
  abbrev pub reading_of : Result (IndexMap (String Global) declared.FileTree S) SchemaFault → Option FilesVerdict
  reading_of (Ok trees) = Some (are_taken (taken_files_of trees))
  reading_of (Err fault) = verdict_of_fault fault

-- the part of the verdict that is known once each file is read: the files, or the first one that breaks a clause by
-- itself
abbrev pub IsReading : List NamedFile → FileName → FilesVerdict → Type 0
IsReading files main (file_breaks f k) = IsFirstBroken files main f k
IsReading files main (together_break k) = ⊥
IsReading files main (are_taken read) = AreTaken files main read

-- this is known, and it is unique
pub record IsTheReading (files : List NamedFile) (main : FileName) (v : FilesVerdict) : Type 0 where
  pub is : IsReading files main v
  pub only : (other : FilesVerdict) → IsReading files main other → v ≡ other

-- the result for the file of this name, unless memory ran out: its tree, or the clause that it breaks first, with its
-- name
abbrev pub IsNamedTree : List NamedFile → FileName → FileName → Result declared.FileTree ReadingFault → Type 0
IsNamedTree files main f (Ok tree) = FileHasOnlyVerdict files main f (has_tree (file_of tree))
IsNamedTree files main f (Err (readings.File clause name)) = (string_bytes name ≡ f) × FileHasOnlyVerdict files main f (breaks clause)
IsNamedTree files main f (Err readings.Memory) = Unit {0}
