-- What a validator represents.
use Rattle.std.specs.Prelude.{◌≡◌, List}
use Rattle.rng_model.specs.schema.Schema.{Schema}
use Rattle.rng_model.specs.simple.SchemaForm.{IsOnlySimpleGrammarOf, IsSimpleGrammarOf}
use Rattle.rng_model.specs.simple.Table.{Table, grammar_of}
use Rattle.rng_model.specs.xsd.SchemasWith.{AreSameDocumentsWith}
use Rattle.rng_model.specs.declared.type_set.TypeSet.{TypeSet}
use Rattle.rng_model.specs.declared.type_set.TypeSet.TheVariants.{Profile}
use Rattle.rnc_model.specs.loading.SchemaFile.{FileName, NamedFile}
use Rattle.rncv_model.specs.answers.Verdict.{AreGoodSchema}
use Rattle.rncv_model.specs.answers.VerdictWith.{AreGoodSchemaWith}

-- the grammar is the only simple form of the schema up to numbering, and has the same documents, with this set of
-- datatypes
pub record JudgesWith (types : TypeSet) (g : Table) (s : Schema) : Type 0 where
  pub form : IsSimpleGrammarOf s (grammar_of g)
  pub only : IsOnlySimpleGrammarOf s (grammar_of g)
  pub documents : AreSameDocumentsWith types s (grammar_of g)
  pub set : g.types ≡ types

-- the same, with the set of the profile
abbrev pub Judges : Table → Schema → Type 0
Judges = JudgesWith Profile

-- the grammar is for the schema that the files are, which breaks no clause with this set of datatypes
pub record IsOneForWith (types : TypeSet) (files : List NamedFile) (main : FileName) (g : Table) : Type 0 where
  pub schema : Schema
  pub are : AreGoodSchemaWith types files main schema
  pub judges : JudgesWith types g schema

-- the same, with the set of the profile
pub record IsOneFor (files : List NamedFile) (main : FileName) (g : Table) : Type 0 where
  pub schema : Schema
  pub are : AreGoodSchema files main schema
  pub judges : Judges g schema
