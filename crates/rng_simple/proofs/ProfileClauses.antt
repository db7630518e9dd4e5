-- With the set `Profile` a schema breaks the clauses that it breaks without a set.
use Rattle.std.proofs.Common.{arith, ℕ}
use Rattle.rng_model.specs.schema.Schema.{Schema}
use Rattle.rng_model.specs.schema.SchemaClauses as clauses
use Rattle.rng_model.specs.schema.SchemaClauses.{BreaksDatatype, BreaksSchemaClause}
use Rattle.rng_model.specs.simple.SimplifiedSchema.{IsSchemaFault}
use Rattle.rng_model.specs.xsd.SchemasWith as with
use Rattle.rng_model.specs.xsd.SchemasWith.{BreaksDatatypeWith, BreaksSchemaClauseWith, in_datatype, in_another}
use Rattle.rng_simple.specs.views.SchemaFaults.{IsSchemaFaultWith}
use Rattle.rng_model.specs.declared.fault.SchemaFault.{SchemaFault}
use Rattle.rng_model.specs.declared.fault.SchemaFault.TheVariants as faults
use Rattle.rng_model.specs.declared.type_set.TypeSet.TheVariants.{Profile}

module _ (s : Schema) where
  to_datatype : BreaksDatatype s → BreaksDatatypeWith Profile s
  to_datatype (clauses.of_data w n) = with.of_data w n
  to_datatype (clauses.of_data_except w n) = with.of_data_except w n
  to_datatype (clauses.of_value w n) = with.of_value w n

  from_datatype : BreaksDatatypeWith Profile s → BreaksDatatype s
  from_datatype (with.of_data w n) = clauses.of_data w n
  from_datatype (with.of_data_except w n) = clauses.of_data_except w n
  from_datatype (with.of_value w n) = clauses.of_value w n

  pub to_profile : {clause : ℕ} → BreaksSchemaClause s clause → BreaksSchemaClauseWith Profile s clause
  to_profile (clauses.in_name_class b) = in_another (λ e. omega (arith, e)) (clauses.in_name_class b)
  to_profile (clauses.in_datatype b) = in_datatype (to_datatype b)
  to_profile (clauses.in_combination b) = in_another (λ e. omega (arith, e)) (clauses.in_combination b)
  to_profile (clauses.without_start b) = in_another (λ e. omega (arith, e)) (clauses.without_start b)
  to_profile (clauses.in_ref b) = in_another (λ e. omega (arith, e)) (clauses.in_ref b)
  to_profile (clauses.in_expansion b) = in_another (λ e. omega (arith, e)) (clauses.in_expansion b)
  to_profile (clauses.in_depth b) = in_another (λ e. omega (arith, e)) (clauses.in_depth b)

  pub from_profile : {clause : ℕ} → BreaksSchemaClauseWith Profile s clause → BreaksSchemaClause s clause
  from_profile (in_datatype b) = clauses.in_datatype (from_datatype b)
  from_profile (in_another other b) = b

  pub profile_fault : (fault : SchemaFault) → IsSchemaFaultWith Profile s fault → IsSchemaFault s fault
  profile_fault (faults.File clause name) i = i
  profile_fault (faults.Clause clause) i = record { broken = from_profile i.broken; least = λ n b. i.least n (to_profile b) }
  profile_fault faults.Memory i = tt
