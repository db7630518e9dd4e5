-- The files of a schema as C passes them.
use Rattle.std.specs.Prelude.{ℕ, ◌<◌, ℤ, pos, negsuc, List, [], ◌∷◌, All, IsUtf8, Option, Some, None, bytes_eq, length, map, position, slice_get}
use Rattle.rnc_model.specs.loading.SchemaFile.{FileName, NamedFile}
use Rattle.rncv_c_values.specs.declared.files.SchemaFile.{SchemaFile}

-- there is a file, and the name of each is a text
pub record AreNamed (files : List SchemaFile) : Type 0 where
  pub some : 0 < length files
  pub texts : All (λ f. IsUtf8 f.name.now) files

-- the files, without their place in memory
abbrev pub files_of : List SchemaFile → List NamedFile
files_of files = map (λ f. record { name = f.name.now; bytes = f.bytes.now }) files

-- the name of the first file, which is the main one
abbrev pub main_of : List SchemaFile → FileName
main_of [] = []
main_of (file ∷ files) = file.name.now

-- an index as C reads it; `None` is -1
abbrev pub index_for_c : Option ℕ → ℤ
index_for_c None = negsuc 0
index_for_c (Some index) = pos index

-- the index of the first file of this name
abbrev pub index_of : FileName → List SchemaFile → ℤ
index_of name files = index_for_c (position (λ f. bytes_eq f.name.now name) files)

-- the file at an index
abbrev pub file_at : Option ℕ → List SchemaFile → Option SchemaFile
file_at None files = None
file_at (Some index) files = slice_get files index

-- the first file of this name
abbrev pub first_file : FileName → List SchemaFile → Option SchemaFile
first_file name files = file_at (position (λ f. bytes_eq f.name.now name) files) files
