-- What is reported of files that are compiled with a set of datatypes.
use Rattle.std.proofs.Common.{List, IfSome, inl, inr}
use Rattle.rng_model.specs.schema.Schema.{Schema}
use Rattle.rng_model.specs.declared.fault.SchemaFault.{SchemaFault}
use Rattle.rng_model.specs.declared.fault.SchemaFault.TheVariants as faults
use Rattle.rng_model.specs.declared.type_set.TypeSet.{TypeSet}
use Rattle.rnc_model.specs.loading.Loading.{FilesHaveOnlyVerdict}
use Rattle.rnc_model.specs.loading.FileVerdicts.{verdict_of_fault}
use Rattle.rnc_model.specs.loading.SchemaFile.{FileName, NamedFile}
use Rattle.rncv_model.specs.answers.Verdict.{AreTakenAs}
use Rattle.rncv_model.specs.answers.VerdictWith.{IsRefusalWith}
use Rattle.rncv_validator.specs.plain.LeastFaults.{IsLeastFault}

module _ (types : TypeSet) (files : List NamedFile) (main : FileName) where
  -- the fault reports the verdict on the files
  pub refused_files : (fault : SchemaFault) → IfSome (verdict_of_fault fault) (FilesHaveOnlyVerdict files main) → IsRefusalWith types files main fault
  refused_files (faults.File clause name) is = is
  refused_files (faults.Clause clause) is = inl is
  refused_files faults.Memory is = tt

  -- the fault reports the least clause that their schema breaks
  pub refused_schema : (s : Schema) (fault : SchemaFault) → AreTakenAs files main s → IsLeastFault types s fault → IsRefusalWith types files main fault
  refused_schema s (faults.File clause name) are is = absurd is
  refused_schema s (faults.Clause clause) are is = inr (record { schema = s; are = are; least = is })
  refused_schema s faults.Memory are is = tt
