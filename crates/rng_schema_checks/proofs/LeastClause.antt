-- The least clause that is broken, found by checking one after the other.
use Rattle.std.proofs.Common.{◌≡◌, inl, inr, sym, subst, ◌∙◌, ◌↔◌, Bool, false, IsTrue, ℕ, ◌+◌, ◌≤◌, arith}
use Rattle.std.proofs.Math.Nat.{eq-or-lt_of_le}
use Rattle.rng_model.proofs.Truths.{no_truth}
use Rattle.rng_model.specs.schema.Schema.{Schema}
use Rattle.rng_model.specs.schema.SchemaClauses as clauses
use Rattle.rng_model.specs.schema.SchemaClauses.{BreaksSchemaClause}
use Rattle.rng_model.specs.xsd.SchemasWith.{BreaksSchemaClauseWith, in_datatype, in_another}
use Rattle.rng_model.specs.declared.type_set.TypeSet.{TypeSet}

others_from_eleven : {s : Schema} {clause : ℕ} → BreaksSchemaClause s clause → 11 ≤ clause
others_from_eleven (clauses.in_name_class b) = omega arith
others_from_eleven (clauses.in_datatype b) = omega arith
others_from_eleven (clauses.in_combination b) = omega arith
others_from_eleven (clauses.without_start b) = omega arith
others_from_eleven (clauses.in_ref b) = omega arith
others_from_eleven (clauses.in_expansion b) = omega arith
others_from_eleven (clauses.in_depth b) = omega arith

module _ (types : TypeSet) (s : Schema) where
  -- each broken clause has at least this number
  abbrev pub AreFrom : ℕ → Type 0
  AreFrom n = (clause : ℕ) → BreaksSchemaClauseWith types s clause → n ≤ clause

  pub from_eleven : AreFrom 11
  from_eleven clause (in_datatype b) = omega arith
  from_eleven clause (in_another other b) = others_from_eleven b

  pub next : (n : ℕ) → AreFrom n → ¬ (BreaksSchemaClauseWith types s n) → AreFrom (n + 1)
  next n from kept clause b = elim (eq-or-lt_of_le (from clause b)) [
    | inl e ↦ absurd (kept (subst (BreaksSchemaClauseWith types s) (sym e) b))
    | inr l ↦ omega (arith, l)
  ]

  -- a clause that is reported as kept is not broken
  pub unbroken : (n : ℕ) {b : Bool} → b ≡ false → IsTrue b ↔ BreaksSchemaClauseWith types s n → ¬ (BreaksSchemaClauseWith types s n)
  unbroken n kept tells broken = no_truth (sym kept ∙ tells.1 broken)
