use Rattle.std.proofs.Common.{map}
use Rattle.rng_model.specs.names.NameViews.{namespace_bytes}
use Rattle.rng_names.specs.views.KeyTables.{places_in}
use Rattle.rng_names.specs.plain.WrittenNames.{written_as}
use Rattle.rng_names.proofs.NamespaceKeys.{IsToldOf}
use Rattle.rng_names.proofs.places.Places.of_written.Given as goal

-- the namespaces so far have places for their other names
abbrev pub invariant-namespaces : goal.invariant-namespaces
invariant-namespaces l = IsToldOf (written_as l.fn.names.keys l.longest.entries) (places_in l.all) (map namespace_bytes l.ns-items) l.ns-index
