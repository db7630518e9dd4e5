use Rattle.std.proofs.lemmas.Result.{IfErr-weaker, IfOk-weaker}
use Rattle.rnc_model.specs.loading.SchemaFile.{named_files}
use Rattle.rncv_model.specs.answers.Run.{main_name}
use Rattle.rncv_validator.proofs.ProfileSchemas.{one_of_profile, refusal_of_profile}
use Rattle.rncv_validator.proofs.validator.Validator.compile.Goals as goal

pub returns-clause-compiled : goal.returns-clause-compiled
returns-clause-compiled c =
    IfOk-weaker c.compile_with.result _ _ (one_of_profile (named_files c.args.files.now) (main_name c.args.files.now)) c.compile_with.ensures.compiled

pub returns-clause-refused : goal.returns-clause-refused
returns-clause-refused c =
    IfErr-weaker c.compile_with.result _ _ (refusal_of_profile (named_files c.args.files.now) (main_name c.args.files.now)) c.compile_with.ensures.refused
