use Rattle.std.proofs.Common.{◌≡◌, ap, ◌∙◌, map, max, ◌||◌, arith, rules}
use Rattle.rng_names.specs.views.NameSets.{has, same_parts, seen, seen_key}
use Rattle.rng_names.specs.declared.name_set.NameOrNs.{NameOrNs}
use Rattle.rng_names.proofs.NameSets.{measured_more, one_more_key}
use Rattle.rng_names.proofs.name_set.NameSet.insert.Goals as goal

pub invariant_of-self-2 : goal.invariant_of-self-2
invariant_of-self-2 c =
    let old = c.self.inside.all in
    let new = c.insert.new.self in
    let key : NameOrNs = record { ns = c.args.ns; local = c.args.local } in
    let most : c.max-self-inside.result ≡ max c.self.inside.longest c.bytes_of.result = search rules in
    let own = c.bytes_of.ensures in
    measured_more (map seen_key old.keys) (map seen_key new.keys) c.self.inside.longest c.max-self-inside.result c.args.ns.now (seen c.args.local)
    c.self.invariant (one_more_key old new key c.in_ok-insert.ensures.updates.0) (omega (arith, most)) (omega (arith, most, own))

pub returns : goal.returns
returns c = λ u l.
    let old = c.self.inside.all in
    let key : NameOrNs = record { ns = c.args.ns; local = c.args.local } in
    one_more_key old c.insert.new.self key c.in_ok-insert.ensures.updates.0 u l
    ∙ ap (λ keys. has keys u l || same_parts c.args.ns.now (seen c.args.local) u l) c.self.view_is
