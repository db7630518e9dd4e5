-- What is printed for a schema, handed in as the main file.
use Rattle.std.specs.Prelude.{◌≡◌, ◌↔◌, ℕ, ◌<◌, ◌≤◌, ◌^◌, List, [], ◌∷◌, length, Result, MatchResult}
use Rattle.rng_model.specs.schema.Schema.{Schema}
use Rattle.rng_model.specs.schema.SchemaClauses.{BreaksNoClause}
use Rattle.rng_model.specs.simple.SchemaForm.{IsSimpleGrammarOf}
use Rattle.rng_model.specs.simple.Grammar.{Grammar}
use Rattle.rng_model.specs.declared.fault.SchemaFault.{SchemaFault}
use Rattle.rng_model.specs.declared.fault.SchemaFault.TheVariants as faults
use Rattle.rnc_model.specs.loading.LoadedSchema.{AreSchema}
use Rattle.rnc_model.specs.loading.Loading.{TakenFiles, are_taken, FilesHaveVerdict, FilesHaveOnlyVerdict}
use Rattle.rng_load.specs.views.PlacedGrammars.{schema_of}
use Rattle.rnc_model.specs.loading.SchemaFile.{FileName, NamedFile, HasTree, IsSchemaFile, size_limit}
use Rattle.rng_load.specs.declared.schema.Schema as loaded
use Rattle.rncv_model.specs.printed.Items.{PrintedItem}
use Rattle.rncv_model.specs.printed.SchemaText.{IsPrintedForm}
use Rattle.rnc_print_laws.specs.plain.LinesTree.{lines_tree}

-- the main file alone, with the tree of the lines
abbrev pub lines_alone : FileName → Grammar → List PrintedItem → TakenFiles
lines_alone main g items = (main, lines_tree g items) ∷ []

-- The main file has the tree of the lines of the text that is printed for the schema. The schema breaks no clause. The
-- number of bytes is below 2^64.
pub record IsHandedInAgain (s : Schema) (text : List ℕ) (files : List NamedFile) (main : FileName) : Type 0 where
  pub kept : BreaksNoClause s
  pub printed : IsPrintedForm s text
  pub few : length text < 2 ^ 64
  pub tree : HasTree files main main (lines_tree printed.grammar printed.is_printed.items)

-- The text that is printed for the schema is no longer than a file may be and breaks no clause of a file. Its tree is
-- that of its lines. The schema breaks no clause.
pub record IsPrintedFile (s : Schema) (text : List ℕ) : Type 0 where
  pub kept : BreaksNoClause s
  pub printed : IsPrintedForm s text
  pub small : length text ≤ size_limit
  pub is : IsSchemaFile text (lines_tree printed.grammar printed.is_printed.items)

-- the text alone, as the file of this name
abbrev pub text_alone : FileName → List ℕ → List NamedFile
text_alone main text = record { name = main; bytes = text } ∷ []

-- the schema that is returned breaks no clause, and this text is printed for it, unless memory ran out
abbrev pub IsAgain : List ℕ → Result loaded.Schema SchemaFault → Type 0
IsAgain text result = MatchResult result (λ r. BreaksNoClause (schema_of r) × IsPrintedForm (schema_of r) text) (λ fault. fault ≡ faults.Memory)

-- ---- the schema of files, and its simple form

-- the schema of the files is this one: the only verdict on the files is that they are taken
pub record AreFilesOf (s : Schema) (files : List NamedFile) (main : FileName) : Type 0 where
  pub read : TakenFiles
  pub taken : FilesHaveOnlyVerdict files main (are_taken read)
  pub are : AreSchema read main s

-- both schemas have the same simple form: each simple grammar of one is a simple grammar of the other
abbrev pub HaveSameForm : Schema → Schema → Type 0
HaveSameForm s r = (g : Grammar) → IsSimpleGrammarOf s g ↔ IsSimpleGrammarOf r g

-- The files are taken and have one schema. It breaks no clause, and its simple form is that of the first schema.
pub record AreOfSameForm (s : Schema) (files : List NamedFile) (main : FileName) : Type 0 where
  pub read : TakenFiles
  pub taken : FilesHaveVerdict files main (are_taken read)
  pub schema : Schema
  pub are : AreSchema read main schema
  pub only : (r : Schema) → AreFilesOf r files main → r ≡ schema
  pub kept : BreaksNoClause schema
  pub form : HaveSameForm s schema
