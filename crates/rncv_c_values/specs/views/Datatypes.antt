-- The sets of datatypes as C passes them.
use Rattle.std.specs.Prelude.{ℕ, ◌==◌, Option, Some, None, if◌then◌else◌}
use Rattle.rng_model.specs.declared.type_set.TypeSet.{TypeSet}
use Rattle.rng_model.specs.declared.type_set.TypeSet.TheVariants as sets

-- the set of a number of the header
abbrev pub set_of : ℕ → Option TypeSet
set_of n = if n == 0 then Some sets.Profile else if n == 1 then Some sets.XmlSchema else None
