-- Files are refused by one fault, which has the name of a file or has none.
use Rattle.std.proofs.Common.{subst}
use Rattle.rng_model.specs.declared.type_set.TypeSet.TheVariants.{Profile}
use Rattle.rncv_model.specs.answers.VerdictWith.{IsRefusalWith}
use Rattle.rncv_c_values.specs.views.Files.{files_of, main_of}
use Rattle.rncv_c.proofs.RefusedNames.{none_alone, none_good}
use Rattle.rncv_c.proofs.schemas.name_of_refused.Goals as goal

pub returns-in-Ok-clause-misuse : goal.returns-in-Ok-clause-misuse
returns-in-Ok-clause-misuse c = λ misuse name broken. none_good Profile _ _ name broken.0 broken.1 _ c.in-Ok.ensures.compiled

pub returns-in-Err-File-clause-name : goal.returns-in-Err-File-clause-name
returns-in-Err-File-clause-name c =
    (_, subst (IsRefusalWith Profile (files_of c.args.files.now) (main_of c.args.files.now)) c.in-Err-File.field-0-is c.in-Err-File.ensures.refused)

pub returns-in-Err-Clause-clause-misuse : goal.returns-in-Err-Clause-clause-misuse
returns-in-Err-Clause-clause-misuse c = λ misuse name broken. none_alone Profile _ _ name broken.0 broken.1 _
    (subst (IsRefusalWith Profile (files_of c.args.files.now) (main_of c.args.files.now)) c.in-Err-Clause.field-0-is c.in-Err-Clause.ensures.refused)
