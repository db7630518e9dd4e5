-- The simple form of the schema of files, and its faults, by what the calls return.
use Rattle.std.proofs.Common.{Result, Ok, Err}
use Rattle.std.specs.Prelude.{IfErr, IfOk, List}
use Rattle.rng_model.specs.declared.fault.SchemaFault.{SchemaFault}
use Rattle.rng_model.specs.simple.SimplifiedSchema.{AreSameDocuments}
use Rattle.rng_model.specs.simple.SchemaForm.{IsOnlySimpleGrammarOf, IsSimpleGrammarOf}
use Rattle.rng_model.specs.simple.SimplifiedSchema.{IsSchemaFault}
use Rattle.rng_model.specs.simple.Table.{Table, grammar_of}
use Rattle.rnc_model.specs.loading.SchemaFile.{FileName, NamedFile}
use Rattle.rng_load.specs.declared.schema.Schema.{Schema}
use Rattle.rng_load.specs.views.Loaded.{IsLoaded}
use Rattle.rng_load.specs.views.PlacedGrammars.{schema_of}
use Rattle.simple_forms.specs.views.FormOfFiles.{AreFilesOf, IsFaultOf, IsFormOf, of_schema}

module _ (files : List NamedFile) (main : FileName) (s : Schema) (loaded : IsLoaded files main (Ok s)) where
  are_files : AreFilesOf files main (schema_of s)
  are_files = record { read = loaded.0; taken = loaded.1; are = loaded.2 }

  pub is_form : (r : Result Table SchemaFault) → IfOk r (λ g. IsSimpleGrammarOf (schema_of s) (grammar_of g))
      → IfOk r (λ g. IsOnlySimpleGrammarOf (schema_of s) (grammar_of g)) → IfOk r (λ g. AreSameDocuments (schema_of s) (grammar_of g))
      → IfOk r (λ g. IsFormOf files main (grammar_of g))
  is_form (Ok g) form only documents = record { schema = schema_of s; are = are_files; form = form; only = only; documents = documents }
  is_form (Err fault) form only documents = tt

  pub is_fault : (r : Result Table SchemaFault) → IfErr r (IsSchemaFault (schema_of s)) → IfErr r (IsFaultOf files main)
  is_fault (Ok g) broken = tt
  is_fault (Err fault) broken = of_schema are_files broken
