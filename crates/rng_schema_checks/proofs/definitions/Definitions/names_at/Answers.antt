use Rattle.rng_schema_checks.proofs.NamesByPlace.{found_there}
use Rattle.rng_schema_checks.proofs.definitions.Definitions.names_at.Goals as goal

pub returns : goal.returns
returns c = found_there c.args.place c.args.self.now.by_place.entries c.get.result c.get.ensures.value
