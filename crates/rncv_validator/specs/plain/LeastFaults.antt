-- The fault of a schema that breaks a clause.
use Rattle.rng_model.specs.schema.Schema.{Schema}
use Rattle.rng_model.specs.xsd.SchemasWith.{IsLeastClauseWith}
use Rattle.rng_model.specs.declared.fault.SchemaFault.{SchemaFault}
use Rattle.rng_model.specs.declared.fault.SchemaFault.TheVariants as faults
use Rattle.rng_model.specs.declared.type_set.TypeSet.{TypeSet}

-- the least clause that the schema breaks with this set of datatypes; out of memory claims nothing
abbrev pub IsLeastFault : TypeSet → Schema → SchemaFault → Type 0
IsLeastFault types s (faults.Clause clause) = IsLeastClauseWith types s clause
IsLeastFault types s (faults.File clause name) = ⊥
IsLeastFault types s faults.Memory = Unit {0}
