use Rattle.std.proofs.Common.{bytes_eq}
use Rattle.rng_names.proofs.CoveredNames.{is_listed, ns_more}
use Rattle.rng_names.proofs.NameSets.{text}
use Rattle.rng_names.proofs.namespaces.Namespaces.add_ns.Goals as goal

pub returns : goal.returns
returns c = λ u.
    ns_more c.args.self.now.any (is_listed c.args.self.now.listed.keys u) (bytes_eq c.args.ns.now u) (is_listed c.insert.new.self.keys u)
    (c.in_ok-insert.ensures.updates.0 (text u))
