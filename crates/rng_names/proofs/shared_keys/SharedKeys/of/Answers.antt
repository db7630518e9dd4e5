use Rattle.std.proofs.Common.{◌≡◌, subst, refl, map, length, arith, rules}
use Rattle.std.proofs.lemmas.List.{length-map}
use Rattle.rng_model.specs.names.NameViews.{name_of}
use Rattle.rng_names.specs.plain.SharedKeys.{AreLed, AreShared, sharing_in}
use Rattle.rng_names.specs.declared.shared_keys.SharedKeys.{SharedKeys}
use Rattle.rng_names.proofs.CollectedNames.{seen_at}
use Rattle.rng_names.proofs.SharedKeys.{all_shared, one_made}
use Rattle.rng_names.proofs.shared_keys.SharedKeys.of.Goals as goal

pub names-preserved : goal.names-preserved
names-preserved c =
    let items = c.as_slice-name-items.result.now in
    let at = seen_at name_of items c.names.name-index c.name-item.result _ c.names-test.true c.name-item.is refl in
    one_made (map name_of items) c.args.regions.now (sharing_in c.names.all) (sharing_in c.add.new.self) c.names.name-index
    (name_of c.name-item.result) at c.in_ok-add.ensures c.names.invariant

pub returns : goal.returns
returns c =
    let items = c.as_slice-name-items.result.now in
    let names = map name_of items in
    let past : c.names.name-index ≡ length names = omega (arith, c.names-test.false, c.names.auto.name-index-end, length-map items name_of) in
    let all : SharedKeys = record { keys = c.names.all.keys; leaders = c.names.all.leaders } in
    let both = all_shared names c.args.regions.now (sharing_in c.names.all) c.names.name-index all refl refl past c.names.invariant in
    let same : names ≡ map name_of c.args.names.now.keys = search rules in
    record { shared = subst (λ ns. AreShared ns all) same both.0; led = subst (λ ns. AreLed ns c.args.regions.now all) same both.1 }
