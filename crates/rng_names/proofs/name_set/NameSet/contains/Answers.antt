use Rattle.std.proofs.Common.{ap, ◌∙◌}
use Rattle.rng_names.specs.views.NameSets.{has, seen}
use Rattle.rng_names.proofs.NameSets.{any_same}
use Rattle.rng_names.proofs.name_set.NameSet.contains.Goals as goal

pub returns-then-bytes_of-self : goal.returns-then-bytes_of-self
returns-then-bytes_of-self c =
    c.contains.ensures ∙ any_same (record { ns = c.args.ns; local = c.args.local }) c.self.inside.all.keys
    ∙ ap (λ keys. has keys c.args.ns.now (seen c.args.local)) c.self.view_is
