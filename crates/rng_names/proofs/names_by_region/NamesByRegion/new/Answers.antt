use Rattle.std.proofs.Common.{refl}
use Rattle.rng_model.specs.names.NameViews.{name_of}
use Rattle.rng_names.proofs.KeyLookups.{is_first}
use Rattle.rng_names.proofs.names_by_region.NamesByRegion.new.Goals as goal

pub returns-clause-first : goal.returns-clause-first
returns-clause-first c =
    is_first c.new-names.result.keys c.insert.new.self.keys c.args.first (name_of c.args.first) c.new-names.ensures.empty c.in_ok-insert.ensures.keys refl
