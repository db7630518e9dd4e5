use Rattle.std.proofs.Common.{◌∙◌}
use Rattle.rng_names.proofs.KeyLookups.{place_found}
use Rattle.rng_names.proofs.texts.place_of.Goals as goal

pub returns : goal.returns
returns c = c.get_index_of.ensures.index ∙ place_found c.args.name.now c.args.names.now.keys
