use Rattle.std.proofs.Common.{List, ℕ, IfSome, subst}
use Rattle.std.proofs.lemmas.Result.{err_from_is_err_and}
use Rattle.rnc_model.specs.loading.Loading.{FilesHaveOnlyVerdict}
use Rattle.rnc_model.specs.loading.FileVerdicts.{verdict_of_fault}
use Rattle.rnc_model.specs.loading.SchemaFile.{named_files}
use Rattle.rncv_model.specs.answers.Run.{main_name}
use Rattle.rncv_validator.proofs.RefusedFiles.{refused_files}
use Rattle.rncv_validator.proofs.validator.Validator.compile_with.Goals as goal

pub returns-in_err-schema-clause-refused : goal.returns-in_err-schema-clause-refused
returns-in_err-schema-clause-refused c =
    let files = named_files c.args.files.now in
    let fault = c.in_err-schema.field-0.0 in
    let told = subst (λ (main : List ℕ). IfSome (verdict_of_fault fault) (FilesHaveOnlyVerdict files main)) c.first_name.ensures c.in_err-schema.ensures in
    let refused = refused_files c.args.types files (main_name c.args.files.now) fault told in
    let p = err_from_is_err_and c.from_residual.result c.from_residual.ensures.1 in
    rw (p.1, p.2) refused
