use Rattle.std.proofs.Common.{sym, ◌∙◌}
use Rattle.rng_model.specs.names.NameViews.{class_of}
use Rattle.rng_names.specs.plain.Holding.{pair}
use Rattle.rng_names.proofs.Holding.{holds-Decides}
use Rattle.rng_names.proofs.common_name.both_hold.Goals as goal

pub returns-then-hold-clause-common : goal.returns-then-hold-clause-common
returns-then-hold-clause-common c = λ told.
    let q = pair c.args.ns.now c.args.local.now in
    let first = (holds-Decides (class_of c.args.a.now) q).0 (sym c.hold.ensures ∙ c.if-hold.true) in
    let second = (holds-Decides (class_of c.args.b.now) q).0 (sym c.hold-then-hold.ensures ∙ told) in
    (q, (c.utf8.ns, c.utf8.local), first, second)
