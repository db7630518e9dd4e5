use Rattle.std.proofs.lemmas.Result.{err_from_is_err_and}
use Rattle.rnc_model.specs.loading.SchemaFile.{named_files}
use Rattle.simple_forms.specs.views.FormOfFiles.{of_files}
use Rattle.simple_forms.proofs.FormsOfFiles.{is_fault, is_form}
use Rattle.simple_forms.proofs.simplifying.simplified.Goals as goal

pub returns-in_err-schema-clause-fault : goal.returns-in_err-schema-clause-fault
returns-in_err-schema-clause-fault c =
    let p = err_from_is_err_and c.from_residual.result c.from_residual.ensures.1 in
    rw (p.1, p.2) (of_files c.in_err-schema.ensures)

pub returns-clause-form : goal.returns-clause-form
returns-clause-form c =
    is_form (named_files c.args.files.now) c.args.main.now c.in_ok-schema.schema c.in_ok-schema.ensures c.simplify.result
    c.simplify.ensures.simple_form c.simplify.ensures.only c.simplify.ensures.documents

pub returns-clause-fault : goal.returns-clause-fault
returns-clause-fault c =
    is_fault (named_files c.args.files.now) c.args.main.now c.in_ok-schema.schema c.in_ok-schema.ensures c.simplify.result c.simplify.ensures.broken
