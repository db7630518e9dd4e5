-- Which name is that of the file that breaks a clause by itself.
use Rattle.std.proofs.Common.{◌≡◌, ℕ, List}
use Rattle.rng_model.specs.declared.fault.SchemaFault.TheVariants as faults
use Rattle.rng_model.specs.declared.type_set.TypeSet.{TypeSet}
use Rattle.rnc_model.specs.loading.Loading.{FilesHaveOnlyVerdict, TakenFiles, are_taken, file_breaks, together_break}
use Rattle.rnc_model.specs.loading.SchemaFile.{FileName, NamedFile}
use Rattle.rncv_model.specs.answers.VerdictWith.{IsRefusalWith}
use Rattle.rncv_validator.specs.views.Validators.{IsOneForWith}
use Rattle.rng_model.specs.simple.Table.{Table}
use Rattle.std.proofs.Common.{inl, inr}

not_together : (k clause : ℕ) (name : FileName) → together_break k ≡ file_breaks name clause → ⊥
not_together k clause name e = cc

not_taken : (read : TakenFiles) (clause : ℕ) (name : FileName) → are_taken read ≡ file_breaks name clause → ⊥
not_taken read clause name e = cc

module _ (types : TypeSet) (files : List NamedFile) (main name : FileName) (broken : ℕ) (has : FilesHaveOnlyVerdict files main (file_breaks name broken)) where
  -- files that break a clause only together, or as a schema, have no file that breaks one by itself
  pub none_alone : (clause : ℕ) → IsRefusalWith types files main (faults.Clause clause) → ⊥
  none_alone clause (inl together) = not_together clause broken name (together.only _ has.is)
  none_alone clause (inr least) = not_taken least.are.read broken name (least.are.is_verdict.only _ has.is)

  -- nor have files that are a schema
  pub none_good : (g : Table) → IsOneForWith types files main g → ⊥
  none_good g good = not_taken good.are.are.read broken name (good.are.are.is_verdict.only _ has.is)
