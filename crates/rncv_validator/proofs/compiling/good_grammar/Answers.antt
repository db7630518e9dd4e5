use Rattle.std.proofs.lemmas.Result.{err_from_is_err_and}
use Rattle.rng_load.specs.views.PlacedGrammars.{schema_of}
use Rattle.rng_model.specs.simple.Table.{grammar_of}
use Rattle.rncv_validator.proofs.GoodSchemas.{schema_fault, restriction_fault, none_broken}
use Rattle.rncv_validator.proofs.compiling.good_grammar.Goals as goal

pub returns-in_err-grammar-clause-broken : goal.returns-in_err-grammar-clause-broken
returns-in_err-grammar-clause-broken c =
    let fault = schema_fault c.args.types (schema_of c.args.schema) c.in_err-grammar.field-0.0 c.in_err-grammar.ensures.broken in
    let p = err_from_is_err_and c.from_residual.result c.from_residual.ensures.1 in
    rw (p.1, p.2) fault

pub returns-in_err-restrict-clause-broken : goal.returns-in_err-restrict-clause-broken
returns-in_err-restrict-clause-broken c =
    let fault = restriction_fault c.args.types (schema_of c.args.schema) c.in_ok-grammar.ensures.kept (grammar_of c.in_ok-grammar.grammar)
    c.in_ok-grammar.ensures.simple_form c.in_err-restrict.field-0.0 c.in_err-restrict.ensures.broken in
    let p = err_from_is_err_and c.from_residual-in_err-restrict.result c.from_residual-in_err-restrict.ensures.1 in
    rw (p.1, p.2) fault

pub returns-clause-kept : goal.returns-clause-kept
returns-clause-kept c = none_broken c.args.types (schema_of c.args.schema) c.in_ok-grammar.ensures.kept (grammar_of c.in_ok-grammar.grammar)
    c.in_ok-grammar.ensures.simple_form c.in_ok-restrict.ensures.kept

pub returns-clause-judges : goal.returns-clause-judges
returns-clause-judges c = record {
  form = c.in_ok-grammar.ensures.simple_form;
  only = c.in_ok-grammar.ensures.only;
  documents = c.in_ok-grammar.ensures.documents;
  set = c.in_ok-grammar.ensures.set;
}
