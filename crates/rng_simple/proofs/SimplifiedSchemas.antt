-- The parts of the simplification of a schema, put together.
use Rattle.std.proofs.Common.{◌≡◌, refl, inl, inr, sym, subst, arith, ℕ, ◌≤◌}
use Rattle.std.proofs.lemmas.Bool.{cases_lt}
use Rattle.rng_model.specs.names.Lists.{IsLeast}
use Rattle.rng_model.specs.schema.Schema.{Schema}
use Rattle.rng_model.specs.schema.SchemaClauses.{BreaksSchemaClause, BreaksExpansion, BreaksDepth}
use Rattle.rng_model.specs.schema.SchemaClauses as clauses
use Rattle.rng_model.specs.xsd.SchemasWith.{BreaksSchemaClauseWith, in_datatype, in_another}
use Rattle.rng_simple.specs.views.SchemaFaults.{IsSchemaFaultWith}
use Rattle.rng_model.specs.declared.fault.SchemaFault.{SchemaFault}
use Rattle.rng_model.specs.declared.fault.SchemaFault.TheVariants as faults
use Rattle.rng_model.specs.declared.type_set.TypeSet.{TypeSet}
use Rattle.rng_schema_checks.specs.plain.Judged.{IsComponentFault, last_clause}
use Rattle.rng_simple.specs.views.ExpansionOrder.{IsExpansionFault}

-- no clause about components is broken
abbrev pub KeepsComponents : TypeSet → Schema → Type 0
KeepsComponents types s = (clause : ℕ) → clause ≤ last_clause → ¬ (BreaksSchemaClauseWith types s clause)

module _ (types : TypeSet) (s : Schema) where
  other_kept : KeepsComponents types s → (¬ (BreaksExpansion s)) × (¬ (BreaksDepth s)) → {clause : ℕ} → ¬ (clause ≡ 12) → ¬ (BreaksSchemaClause s clause)
  other_kept keeps kept other (clauses.in_datatype c) = other refl
  other_kept keeps kept other (clauses.in_name_class c) = keeps 11 (omega arith) (in_another other (clauses.in_name_class c))
  other_kept keeps kept other (clauses.in_combination c) = keeps 13 (omega arith) (in_another other (clauses.in_combination c))
  other_kept keeps kept other (clauses.without_start c) = keeps 14 (omega arith) (in_another other (clauses.without_start c))
  other_kept keeps kept other (clauses.in_ref c) = keeps 15 (omega arith) (in_another other (clauses.in_ref c))
  other_kept keeps kept other (clauses.in_expansion c) = kept.0 c
  other_kept keeps kept other (clauses.in_depth c) = kept.1 c

  pub none_is_broken : KeepsComponents types s → (¬ (BreaksExpansion s)) × (¬ (BreaksDepth s)) → (clause : ℕ) → ¬ (BreaksSchemaClauseWith types s clause)
  none_is_broken keeps kept clause (in_datatype c) = keeps 12 (omega arith) (in_datatype c)
  none_is_broken keeps kept clause (in_another other c) = other_kept keeps kept other c

  -- the clauses about components come first, and then 16
  after_components : KeepsComponents types s → (clause : ℕ) → BreaksSchemaClauseWith types s clause → 16 ≤ clause
  after_components keeps clause b = elim (cases_lt clause 16) [
    | inl h ↦ absurd (keeps clause (omega (arith, h)) b)
    | inr h ↦ omega (arith, h)
  ]

  -- without a loop, those that are broken begin with 17
  after_expansion : KeepsComponents types s → ¬ (BreaksExpansion s) → (clause : ℕ) → BreaksSchemaClauseWith types s clause → 17 ≤ clause
  after_expansion keeps kept clause (in_another other (clauses.in_expansion c)) = absurd (kept c)
  after_expansion keeps kept clause (in_another other (clauses.in_depth c)) = omega arith
  after_expansion keeps kept clause (in_another other (clauses.in_datatype c)) = absurd (other refl)
  after_expansion keeps kept clause (in_another other (clauses.in_name_class c)) = absurd (keeps 11 (omega arith) (in_another other (clauses.in_name_class c)))
  after_expansion keeps kept clause (in_another other (clauses.in_combination c)) =
      absurd (keeps 13 (omega arith) (in_another other (clauses.in_combination c)))
  after_expansion keeps kept clause (in_another other (clauses.without_start c)) = absurd (keeps 14 (omega arith) (in_another other (clauses.without_start c)))
  after_expansion keeps kept clause (in_another other (clauses.in_ref c)) = absurd (keeps 15 (omega arith) (in_another other (clauses.in_ref c)))
  after_expansion keeps kept clause (in_datatype c) = absurd (keeps 12 (omega arith) (in_datatype c))

  pub component_fault : (fault : SchemaFault) → IsComponentFault types s fault → IsSchemaFaultWith types s fault
  component_fault (faults.File n name) i = i
  component_fault (faults.Clause n) i = i.1
  component_fault faults.Memory i = tt

  pub expansion_fault : KeepsComponents types s → (fault : SchemaFault) → IsExpansionFault s fault → IsSchemaFaultWith types s fault
  expansion_fault keeps (faults.File n name) i = i
  expansion_fault keeps faults.Memory i = tt
  expansion_fault keeps (faults.Clause n) (inl i) =
      subst (IsLeast (BreaksSchemaClauseWith types s)) (sym i.0)
      (record { broken = in_another (λ e. omega (arith, e)) (clauses.in_expansion i.1); least = after_components keeps })
  expansion_fault keeps (faults.Clause n) (inr i) =
      subst (IsLeast (BreaksSchemaClauseWith types s)) (sym i.0)
      (record { broken = in_another (λ e. omega (arith, e)) (clauses.in_depth i.1); least = after_expansion keeps i.2 })
