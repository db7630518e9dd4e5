-- The verdict on a file by itself, among the files that are given.
use Rattle.std.specs.Prelude.{◌≡◌, List}
use Rattle.rnc_model.specs.loading.FileVerdicts.{FileVerdict, breaks, has_tree}
use Rattle.rnc_model.specs.loading.SchemaFile.{FileName, NamedFile, BreaksOwn, HasTree}

module _ (files : List NamedFile) (main : FileName) where
  abbrev pub FileHasVerdict : FileName → FileVerdict → Type 0
  FileHasVerdict f (breaks k) = BreaksOwn files main f k
  FileHasVerdict f (has_tree t) = HasTree files main f t

  -- the file has this verdict and no other
  pub record FileHasOnlyVerdict (f : FileName) (v : FileVerdict) : Type 0 where
    pub is : FileHasVerdict f v
    pub only : (other : FileVerdict) → FileHasVerdict f other → v ≡ other
