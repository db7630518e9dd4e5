-- What is compiled or refused with the set of datatypes of the profile.
use Rattle.std.proofs.Common.{List, Option, None, Some}
use Rattle.std.specs.Prelude.{IsSomeAnd}
use Rattle.rng_model.specs.simple.Table.{Table}
use Rattle.rng_model.specs.declared.type_set.TypeSet.TheVariants.{Profile}
use Rattle.rncv_validator.specs.views.Validators.{IsOneFor, IsOneForWith}
use Rattle.rncv_validator.proofs.ProfileSchemas.{one_of_profile, refusal_of_profile}
use Rattle.rncv_c_values.specs.views.Files.{files_of, main_of}
use Rattle.rncv_c_values.specs.views.Told.{AreRefused, AreRefusedWith}
use Rattle.rncv_c_values.specs.declared.files.SchemaFile.{SchemaFile}
use Rattle.rncv_c_values.specs.declared.told.Refusal.{Refusal}

module _ (files : List SchemaFile) where
  pub one_compiled : (held : Option Table) → IsSomeAnd held (IsOneForWith Profile (files_of files) (main_of files))
      → IsSomeAnd held (IsOneFor (files_of files) (main_of files))
  one_compiled None one = one
  one_compiled (Some g) one = one_of_profile (files_of files) (main_of files) g one

  pub all_refused : (told : Refusal) → AreRefusedWith Profile files told → AreRefused files told
  all_refused told are = record {
    fault = are.fault;
    is = refusal_of_profile (files_of files) (main_of files) are.fault are.is;
    told_is = are.told_is;
  }
