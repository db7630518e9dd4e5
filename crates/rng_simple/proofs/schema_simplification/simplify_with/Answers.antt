use Rattle.std.proofs.Common.{arith}
use Rattle.std.proofs.lemmas.Result.{err_from_is_err_and}
use Rattle.rng_load.specs.views.PlacedGrammars.{schema_of}
use Rattle.rng_model.specs.simple.Table.{grammar_of}
use Rattle.rng_model.specs.schema.SchemaClauses.{in_ref, without_start}
use Rattle.rng_model.specs.xsd.SchemasWith.{in_another, in_datatype}
use Rattle.rng_simple.proofs.Matching.SchemaDocuments.{same_documents}
use Rattle.rng_simple.proofs.SimplifiedSchemas.{component_fault, expansion_fault, none_is_broken}
use Rattle.rng_simple.proofs.schema_simplification.simplify_with.Goals as goal

pub schema_graph-requires-clause-starts : goal.schema_graph-requires-clause-starts
schema_graph-requires-clause-starts c = λ b. c.in_ok-check_components.ensures 14 (omega arith) (in_another (λ e. omega (arith, e)) (without_start b))

pub schema_graph-requires-clause-refs : goal.schema_graph-requires-clause-refs
schema_graph-requires-clause-refs c = λ b. c.in_ok-check_components.ensures 15 (omega arith) (in_another (λ e. omega (arith, e)) (in_ref b))

pub returns-in_err-order-clause-broken : goal.returns-in_err-order-clause-broken
returns-in_err-order-clause-broken c =
    let fault = expansion_fault c.args.types (schema_of c.args.schema.now) c.in_ok-check_components.ensures c.in_err-order.field-0.0
    (c.in_err-order.ensures.broken (schema_of c.args.schema.now) c.in_ok-graph.ensures) in
    let p = err_from_is_err_and c.from_residual-in_err-order.result c.from_residual-in_err-order.ensures.1 in
    rw (p.1, p.2) fault

pub returns-in_err-check_components-clause-broken : goal.returns-in_err-check_components-clause-broken
returns-in_err-check_components-clause-broken c =
    let fault = component_fault c.args.types (schema_of c.args.schema.now) c.in_err-check_components.field-0.0 c.in_err-check_components.ensures in
    let p = err_from_is_err_and c.from_residual.result c.from_residual.ensures.1 in
    rw (p.1, p.2) fault

pub returns-clause-only : goal.returns-clause-only
returns-clause-only c = c.in_ok-simple_grammar.ensures.only (schema_of c.args.schema.now) c.in_ok-graph.ensures

pub returns-clause-documents : goal.returns-clause-documents
returns-clause-documents c = same_documents c.args.types (schema_of c.args.schema.now) (grammar_of c.in_ok-simple_grammar.field-0)
    (c.in_ok-simple_grammar.ensures.simple_form (schema_of c.args.schema.now) c.in_ok-graph.ensures)

pub returns-clause-kept : goal.returns-clause-kept
returns-clause-kept c =
    none_is_broken c.args.types (schema_of c.args.schema.now) c.in_ok-check_components.ensures
    (c.in_ok-order.ensures.kept (schema_of c.args.schema.now) c.in_ok-graph.ensures)

pub simple_grammar-requires-clause-datatypes : goal.simple_grammar-requires-clause-datatypes
simple_grammar-requires-clause-datatypes c =
    (schema_of c.args.schema.now, c.in_ok-graph.ensures, λ b. c.in_ok-check_components.ensures 12 (omega arith) (in_datatype b))
