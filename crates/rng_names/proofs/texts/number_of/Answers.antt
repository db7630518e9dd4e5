use Rattle.std.proofs.Common.{◌∙◌}
use Rattle.rng_model.specs.names.NameViews.{namespace_bytes}
use Rattle.rng_names.proofs.KeyLookups.{number_found}
use Rattle.rng_names.proofs.texts.number_of.Goals as goal

pub returns : goal.returns
returns c = c.copied.ensures ∙ c.get.ensures.value ∙ number_found (namespace_bytes c.args.ns.now) c.args.numbers.now.entries
