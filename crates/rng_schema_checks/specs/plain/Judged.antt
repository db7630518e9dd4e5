-- The result of checking the components of a schema.
use Rattle.std.specs.Prelude.{ℕ, ◌≤◌, Result, Ok, Err}
use Rattle.rng_model.specs.names.Lists.{IsLeast}
use Rattle.rng_model.specs.schema.Schema.{Schema}
use Rattle.rng_model.specs.xsd.SchemasWith.{BreaksSchemaClauseWith}
use Rattle.rng_model.specs.declared.fault.SchemaFault.{SchemaFault}
use Rattle.rng_model.specs.declared.fault.SchemaFault.TheVariants as faults
use Rattle.rng_model.specs.declared.type_set.TypeSet.{TypeSet}

-- the last clause about components, reached or not
abbrev pub last_clause : ℕ
last_clause = 15

-- the fault is the least clause that the schema breaks, and one about components; out of memory says nothing
abbrev pub IsComponentFault : TypeSet → Schema → SchemaFault → Type 0
IsComponentFault types s (faults.File clause name) = ⊥
IsComponentFault types s (faults.Clause clause) = (clause ≤ last_clause) × IsLeast (BreaksSchemaClauseWith types s) clause
IsComponentFault types s faults.Memory = Unit {0}

-- No clause about components is broken, or the fault is the least that is. So the result is determined, unless it is
-- out of memory.
abbrev pub AreComponentsJudged : TypeSet → Schema → Result (Unit {0}) SchemaFault → Type 0
AreComponentsJudged types s (Ok done) = (clause : ℕ) → clause ≤ last_clause → ¬ (BreaksSchemaClauseWith types s clause)
AreComponentsJudged types s (Err fault) = IsComponentFault types s fault
