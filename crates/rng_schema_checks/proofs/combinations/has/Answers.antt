use Rattle.std.proofs.Common.{◌∙◌}
use Rattle.rng_schema_checks.proofs.NameSets.{is_kept}
use Rattle.rng_schema_checks.proofs.combinations.has.Goals as goal

pub returns : goal.returns
returns c = c.contains.ensures ∙ is_kept c.args.name c.args.names.now.keys
