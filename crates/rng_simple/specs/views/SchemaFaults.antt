-- What a fault of a schema says, before its simple form is judged.
use Rattle.std.specs.Prelude.{⊤}
use Rattle.rng_model.specs.names.Lists.{IsLeast}
use Rattle.rng_model.specs.schema.Schema.{Schema}
use Rattle.rng_model.specs.xsd.SchemasWith.{BreaksSchemaClauseWith}
use Rattle.rng_model.specs.declared.fault.SchemaFault.{SchemaFault}
use Rattle.rng_model.specs.declared.fault.SchemaFault.TheVariants as faults
use Rattle.rng_model.specs.declared.type_set.TypeSet.{TypeSet}

-- the least clause that the schema breaks, of S11 to S17; out of memory claims nothing
abbrev pub IsSchemaFaultWith : TypeSet → Schema → SchemaFault → Type 0
IsSchemaFaultWith types s (faults.Clause clause) = IsLeast (BreaksSchemaClauseWith types s) clause
IsSchemaFaultWith types s (faults.File clause name) = ⊥
IsSchemaFaultWith types s faults.Memory = ⊤
