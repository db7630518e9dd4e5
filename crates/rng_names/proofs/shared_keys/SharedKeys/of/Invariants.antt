use Rattle.std.proofs.Common.{map}
use Rattle.rng_model.specs.names.NameViews.{name_of}
use Rattle.rng_names.specs.plain.SharedKeys.{sharing_in}
use Rattle.rng_names.proofs.SharedKeys.{AreMadeOf}
use Rattle.rng_names.proofs.shared_keys.SharedKeys.of.Given as goal

-- the places so far have keys
abbrev pub invariant-names : goal.invariant-names
invariant-names l = AreMadeOf (map name_of l.name-items) l.regions (sharing_in l.all) l.name-index
