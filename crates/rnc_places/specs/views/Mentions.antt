-- What a schema file mentions (RELAX NG Specification, sections 4.6 and 4.7), or why it has no tree.
use Rattle.std.specs.Prelude.{⊤, ◌≡◌, ℕ, List}
use Rattle.rnc_model.specs.declarations.FileTree.{FileTree}
use Rattle.rnc_model.specs.declared.file_place.FilePlace.{FilePlace}
use Rattle.rnc_model.specs.loading.FaultPlaces.{BreaksClauseAt}
use Rattle.rnc_model.specs.loading.FileVerdicts.{ContentHasOnlyVerdict, breaks, has_tree}
use Rattle.rnc_model.specs.loading.Loading.{hrefs_of}
use Rattle.rnc_model.specs.loading.SchemaFile.{FileName}
use Rattle.rnc_places.specs.declared.fault.FileFault.{FileFault}
use Rattle.rnc_places.specs.declared.fault.FileFault.TheVariants as faults

-- the only clause that the file breaks, at this place
abbrev pub BreaksOnlyAt : List ℕ → ℕ → FilePlace → Type 0
BreaksOnlyAt bytes clause place = BreaksClauseAt bytes clause place × ContentHasOnlyVerdict bytes (breaks clause)

-- why the file has no tree
abbrev pub IsFaultOfFile : List ℕ → FileFault → Type 0
IsFaultOfFile bytes (faults.Broken clause place) = BreaksOnlyAt bytes clause place
IsFaultOfFile bytes faults.Memory = ⊤

-- the file breaks no clause by itself, and mentions the files of these names, in this order
abbrev pub AreMentionedIn : List ℕ → List FileName → Type 0
AreMentionedIn bytes names = (t : FileTree) × ContentHasOnlyVerdict bytes (has_tree t) × (names ≡ hrefs_of t)
