-- With the set of the profile, a schema breaks the clauses that it breaks without naming a set, and has the same refusals.
use Rattle.std.proofs.Common.{List, ℕ, inl, inr}
use Rattle.rng_model.specs.names.Lists.{IsLeast}
use Rattle.rng_model.specs.schema.Schema.{Schema}
use Rattle.rng_model.specs.schema.SchemaClauses as plain
use Rattle.rng_model.specs.schema.SchemaClauses.{BreaksClause}
use Rattle.rng_model.specs.simple.Table.{Table}
use Rattle.rng_model.specs.xsd.SchemasWith as with_set
use Rattle.rng_model.specs.xsd.SchemasWith.{BreaksClauseWith}
use Rattle.rng_model.specs.declared.fault.SchemaFault.{SchemaFault}
use Rattle.rng_model.specs.declared.fault.SchemaFault.TheVariants as faults
use Rattle.rng_model.specs.declared.type_set.TypeSet.TheVariants.{Profile}
use Rattle.rnc_model.specs.loading.SchemaFile.{FileName, NamedFile}
use Rattle.rncv_model.specs.answers.Verdict.{HaveLeastClause}
use Rattle.rncv_model.specs.answers.VerdictWith.{IsRefusal, HaveLeastClauseWith, IsRefusalWith}
use Rattle.rng_simple.proofs.ProfileClauses.{from_profile, to_profile}
use Rattle.rncv_validator.specs.views.Validators.{IsOneFor, IsOneForWith}

module _ (s : Schema) where
  of_profile : {clause : ℕ} → BreaksClauseWith Profile s clause → BreaksClause s clause
  of_profile (with_set.in_schema b) = plain.in_schema (from_profile s b)
  of_profile (with_set.in_restriction is b) = plain.in_restriction is b

  in_profile : {clause : ℕ} → BreaksClause s clause → BreaksClauseWith Profile s clause
  in_profile (plain.in_schema b) = with_set.in_schema (to_profile s b)
  in_profile (plain.in_restriction is b) = with_set.in_restriction is b

module _ (files : List NamedFile) (main : FileName) where
  least_of_profile : (clause : ℕ) → HaveLeastClauseWith Profile files main clause → HaveLeastClause files main clause
  least_of_profile clause have =
      let s = have.schema in
      let least : IsLeast (BreaksClause s) clause = record {
        broken = of_profile s have.least.broken;
        least = λ other b. have.least.least other (in_profile s b);
      } in
      record { schema = s; are = have.are; least = least }

  -- what is reported with the set of the profile is what is reported
  pub refusal_of_profile : (fault : SchemaFault) → IsRefusalWith Profile files main fault → IsRefusal files main fault
  refusal_of_profile (faults.File clause name) is = is
  refusal_of_profile (faults.Clause clause) (inl together) = inl together
  refusal_of_profile (faults.Clause clause) (inr least) = inr (least_of_profile clause least)
  refusal_of_profile faults.Memory is = tt

  -- a grammar for the files with the set of the profile is one for the files
  pub one_of_profile : (g : Table) → IsOneForWith Profile files main g → IsOneFor files main g
  one_of_profile g one = record {
    schema = one.schema;
    are = record { are = one.are.are; good = λ clause b. one.are.good clause (in_profile one.schema b) };
    judges = one.judges;
  }
