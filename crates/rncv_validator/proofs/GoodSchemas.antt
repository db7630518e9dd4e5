-- The clauses of a schema together, with a set of datatypes: S11 to S17, and the restrictions on its simple form.
use Rattle.std.proofs.Common.{ℕ, ◌≤◌, arith}
use Rattle.rng_model.specs.names.Lists.{IsLeast}
use Rattle.rng_model.specs.restrictions.Restrictions as r
use Rattle.rng_model.specs.restrictions.Restrictions.{BreaksRestriction}
use Rattle.rng_model.specs.restrictions.RestrictionFaults.{IsLeastRestriction, IsRestrictionFault}
use Rattle.rng_model.specs.schema.Schema.{Schema}
use Rattle.rng_model.specs.schema.SchemaClauses as c
use Rattle.rng_model.specs.schema.SchemaClauses.{BreaksSchemaClause}
use Rattle.rng_model.specs.simple.SchemaForm.{IsSimpleGrammarOf}
use Rattle.rng_model.specs.simple.Grammar.{Grammar}
use Rattle.rng_model.specs.xsd.SchemasWith.{BreaksSchemaClauseWith, BreaksClauseWith, BreaksNoClauseWith, IsLeastClauseWith}
use Rattle.rng_simple.specs.views.SchemaFaults.{IsSchemaFaultWith}
use Rattle.rng_model.specs.xsd.SchemasWith.{in_datatype, in_another, in_schema, in_restriction}
use Rattle.rng_model.specs.declared.fault.SchemaFault.{SchemaFault}
use Rattle.rng_model.specs.declared.fault.SchemaFault.TheVariants as faults
use Rattle.rng_model.specs.declared.type_set.TypeSet.{TypeSet}
use Rattle.rncv_validator.specs.plain.LeastFaults.{IsLeastFault}
use Rattle.rng_model.proofs.ProhibitedPaths.{prohibits}
use Rattle.rng_simple.proofs.Grammars.SameRestrictions.{same_restrictions}

among_schema_clauses : {s : Schema} {clause : ℕ} → BreaksSchemaClause s clause → clause ≤ 17
among_schema_clauses (c.in_name_class b) = omega arith
among_schema_clauses (c.in_datatype b) = omega arith
among_schema_clauses (c.in_combination b) = omega arith
among_schema_clauses (c.without_start b) = omega arith
among_schema_clauses (c.in_ref b) = omega arith
among_schema_clauses (c.in_expansion b) = omega arith
among_schema_clauses (c.in_depth b) = omega arith

at_least : {g : Grammar} {clause : ℕ} → BreaksRestriction g clause → 18 ≤ clause
at_least (r.in_path i b) = (prohibits b.1).0
at_least (r.in_start b) = omega arith
at_least (r.in_content i b) = omega arith
at_least (r.in_attribute_names i b) = omega arith
at_least (r.in_wildcard i b) = omega arith
at_least (r.in_element_names i b) = omega arith
at_least (r.in_text i b) = omega arith

module _ (types : TypeSet) (s : Schema) where
  at_most : {clause : ℕ} → BreaksSchemaClauseWith types s clause → clause ≤ 17
  at_most (in_datatype b) = omega arith
  at_most (in_another other b) = among_schema_clauses b

  not_less : (clause : ℕ) → IsLeast (BreaksSchemaClauseWith types s) clause → (other : ℕ) → BreaksClauseWith types s other → clause ≤ other
  not_less clause b other (in_schema o) = b.least other o
  not_less clause b other (in_restriction is o) = omega (arith, at_most b.broken, at_least o)

  -- the least of S11 to S17 that is broken is the least of all
  least_before : (clause : ℕ) → IsLeast (BreaksSchemaClauseWith types s) clause → IsLeastClauseWith types s clause
  least_before clause b = record { broken = in_schema b.broken; least = not_less clause b }

  pub schema_fault : (fault : SchemaFault) → IsSchemaFaultWith types s fault → IsLeastFault types s fault
  schema_fault (faults.Clause clause) is = least_before clause is
  schema_fault (faults.File clause name) is = is
  schema_fault faults.Memory is = tt

  module _ (kept : (clause : ℕ) → ¬ (BreaksSchemaClauseWith types s clause)) (g : Grammar) (is : IsSimpleGrammarOf s g) where
    restriction_of : (clause : ℕ) → BreaksClauseWith types s clause → BreaksRestriction g clause
    restriction_of clause (in_schema b) = absurd (kept clause b)
    restriction_of clause (in_restriction {g = h} other b) = same_restrictions s h g other is clause b

    -- if none of S11 to S17 is broken, the restrictions on one simple grammar decide
    least_restriction : (clause : ℕ) → IsLeastRestriction g clause → IsLeastClauseWith types s clause
    least_restriction clause b = record { broken = in_restriction is b.broken; least = λ other o. b.least other (restriction_of other o) }

    pub none_broken : ((clause : ℕ) → ¬ (BreaksRestriction g clause)) → BreaksNoClauseWith types s
    none_broken restricted clause b = restricted clause (restriction_of clause b)

    pub restriction_fault : (fault : SchemaFault) → IsRestrictionFault g fault → IsLeastFault types s fault
    restriction_fault (faults.Clause clause) b = least_restriction clause b
    restriction_fault (faults.File clause name) b = b
    restriction_fault faults.Memory b = tt
