-- What the call that loads the files of a schema returns.
use Rattle.std.specs.Prelude.{List, Result, Ok, Err, IfSome}
use Rattle.rng_model.specs.declared.fault.SchemaFault.{SchemaFault}
use Rattle.rnc_model.specs.loading.Loading.{TakenFiles, are_taken, FilesHaveOnlyVerdict}
use Rattle.rnc_model.specs.loading.FileVerdicts.{verdict_of_fault}
use Rattle.rng_load.specs.views.PlacedGrammars.{schema_of}
use Rattle.rnc_model.specs.loading.SchemaFile.{FileName, NamedFile}
use Rattle.rng_load.specs.declared.schema.Schema.{Schema}
use Rattle.rnc_model.specs.loading.LoadedSchema.{AreSchema}

-- The files break no clause and are this schema, or the fault is their verdict, unless memory ran out. The verdict is
-- unique, so this determines the result.
abbrev pub IsLoaded : List NamedFile → FileName → Result Schema SchemaFault → Type 0
IsLoaded files main (Ok s) = (read : TakenFiles) × FilesHaveOnlyVerdict files main (are_taken read) × AreSchema read main (schema_of s)
IsLoaded files main (Err fault) = IfSome (verdict_of_fault fault) (FilesHaveOnlyVerdict files main)
