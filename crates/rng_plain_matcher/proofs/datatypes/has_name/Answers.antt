use Rattle.rng_model.specs.names.NameViews.{class_of, name_of}
use Rattle.rng_names.proofs.Holding.{decides_holds}
use Rattle.rng_plain_matcher.proofs.datatypes.has_name.Goals as goal

pub returns : goal.returns
returns c = decides_holds c.contains.result (class_of c.args.class.now) (name_of c.args.name.now) c.contains.ensures
