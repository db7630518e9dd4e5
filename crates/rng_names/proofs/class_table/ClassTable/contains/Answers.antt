use Rattle.std.proofs.Common.{◌≡◌, rules}
use Rattle.std.proofs.lemmas.Bool.Decides.{Decides-at}
use Rattle.rng_model.specs.names.NameViews.{class_of, name_of}
use Rattle.rng_names.specs.plain.Holding.{holds}
use Rattle.rng_names.proofs.Holding.{holds-Decides}
use Rattle.rng_names.proofs.class_table.ClassTable.contains.Goals as goal

pub returns : goal.returns
returns c =
    let tested : c.hold.result ≡ holds (class_of c.args.self.now) (name_of c.args.name.now) = search rules in
    Decides-at _ _ tested (holds-Decides (class_of c.args.self.now) (name_of c.args.name.now))
