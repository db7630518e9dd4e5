use Rattle.std.proofs.lemmas.Result.{IfErr-weaker, IfOk-weaker}
use Rattle.rng_load.specs.views.PlacedGrammars.{schema_of}
use Rattle.rng_model.specs.simple.SimplifiedSchema.{IsSchemaFault}
use Rattle.rng_simple.specs.views.SchemaFaults.{IsSchemaFaultWith}
use Rattle.rng_model.specs.declared.type_set.TypeSet.TheVariants.{Profile}
use Rattle.rng_simple.proofs.ProfileClauses.{profile_fault, to_profile}
use Rattle.rng_simple.proofs.schema_simplification.simplify.Goals as goal

pub returns-clause-kept : goal.returns-clause-kept
returns-clause-kept c =
    let s = schema_of c.args.schema.now in
    IfOk-weaker c.simplify_with.result _ _ (λ g kept clause b. kept clause (to_profile s b)) c.simplify_with.ensures.kept

pub returns-clause-broken : goal.returns-clause-broken
returns-clause-broken c =
    let s = schema_of c.args.schema.now in
    IfErr-weaker c.simplify_with.result (IsSchemaFaultWith Profile s) (IsSchemaFault s) (profile_fault s) c.simplify_with.ensures.broken
