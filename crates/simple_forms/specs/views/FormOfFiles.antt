-- The simple form of the schema of files, or why they have none.
use Rattle.std.specs.Prelude.{IfSome, List}
use Rattle.rng_model.specs.declared.fault.SchemaFault.{SchemaFault}
use Rattle.rng_model.specs.simple.SimplifiedSchema.{AreSameDocuments}
use Rattle.rng_model.specs.schema.Schema.{Schema}
use Rattle.rng_model.specs.simple.SchemaForm.{IsOnlySimpleGrammarOf, IsSimpleGrammarOf}
use Rattle.rng_model.specs.simple.SimplifiedSchema.{IsSchemaFault}
use Rattle.rng_model.specs.simple.Grammar.{Grammar}
use Rattle.rnc_model.specs.loading.Loading.{TakenFiles, are_taken, FilesHaveOnlyVerdict}
use Rattle.rnc_model.specs.loading.FileVerdicts.{verdict_of_fault}
use Rattle.rnc_model.specs.loading.LoadedSchema.{AreSchema}
use Rattle.rnc_model.specs.loading.SchemaFile.{FileName, NamedFile}

module _ (files : List NamedFile) (main : FileName) where
  -- the files break none of S1 to S10, and are this schema
  pub record AreFilesOf (s : Schema) : Type 0 where
    pub read : TakenFiles
    pub taken : FilesHaveOnlyVerdict files main (are_taken read)
    pub are : AreSchema read main s

  -- the grammar is the only simple form of their schema, up to the numbers of its elements
  pub record IsFormOf (g : Grammar) : Type 0 where
    pub schema : Schema
    pub are : AreFilesOf schema
    pub form : IsSimpleGrammarOf schema g
    pub only : IsOnlySimpleGrammarOf schema g
    pub documents : AreSameDocuments schema g

  -- what the files break, or what their schema breaks
  pub data IsFaultOf (fault : SchemaFault) : Type 0 where
    of_files : IfSome (verdict_of_fault fault) (FilesHaveOnlyVerdict files main) → IsFaultOf fault
    of_schema : {s : Schema} → AreFilesOf s → IsSchemaFault s fault → IsFaultOf fault
