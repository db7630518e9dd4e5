-- Which answer a simple grammar has about the clauses 18 to 27 (RELAX NG Specification, section 7).
use Rattle.std.specs.Prelude.{⊤, ℕ}
use Rattle.rng_model.specs.simple.Grammar.{Grammar}
use Rattle.rng_model.specs.names.Lists.{IsLeast}
use Rattle.rng_model.specs.declared.fault.SchemaFault.{SchemaFault}
use Rattle.rng_model.specs.declared.fault.SchemaFault.TheVariants as faults
use Rattle.rng_model.specs.restrictions.Restrictions.{BreaksRestriction}

-- the least clause that it breaks
abbrev pub IsLeastRestriction : Grammar → ℕ → Type 0
IsLeastRestriction g clause = IsLeast (BreaksRestriction g) clause

-- the grammar breaks no restriction
abbrev pub BreaksNone : Grammar → Type 0
BreaksNone g = (clause : ℕ) → ¬ (BreaksRestriction g clause)

-- the least restriction that is broken; out of memory claims nothing
abbrev pub IsRestrictionFault : Grammar → SchemaFault → Type 0
IsRestrictionFault g (faults.File clause name) = ⊥
IsRestrictionFault g (faults.Clause clause) = IsLeastRestriction g clause
IsRestrictionFault g faults.Memory = ⊤
