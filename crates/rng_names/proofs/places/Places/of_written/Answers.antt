use Rattle.std.proofs.Common.{◌≡◌, ap, refl, subst, map, length, arith, rules}
use Rattle.std.specs.Map.{keys_of, lookup}
use Rattle.std.specs.Str.{bytes_eq}
use Rattle.rng_model.specs.names.NameViews.{namespace_bytes}
use Rattle.rng_names.specs.views.KeyTables.{AddsOthers, places_in}
use Rattle.rng_names.specs.plain.WrittenNames.{written_as}
use Rattle.rng_names.proofs.CollectedNames.{seen_at}
use Rattle.rng_names.proofs.NamespaceKeys.{IsToldOf, all_told, measured_most, one_told}
use Rattle.rng_names.proofs.places.Places.of_written.Goals as goal

pub namespaces-preserved : goal.namespaces-preserved
namespaces-preserved c =
    let w = written_as c.args.names.keys c.args.longest.now.entries in
    let items = c.as_slice-ns-items.result.now in
    let u = namespace_bytes c.ns-item.result in
    let old = places_in c.namespaces.all in
    let new = places_in c.add_others.new.self in
    let bytes = c.unwrap_or-bytes.result in
    let at = seen_at namespace_bytes items c.namespaces.ns-index c.ns-item.result _ c.namespaces-test.true c.ns-item.is refl in
    let found : c.number_of.result ≡ lookup (bytes_eq u) w.longest = c.number_of.ensures in
    let adds : AddsOthers old new u bytes = c.in_ok-add_others.ensures in
    let most = measured_most w u c.number_of.result bytes found c.unwrap_or-bytes.ensures in
    one_told w old new u bytes adds most (map namespace_bytes items) c.namespaces.ns-index at c.namespaces.invariant

pub returns : goal.returns
returns c =
    let w = written_as c.args.names.keys c.args.longest.now.entries in
    let places = places_in c.namespaces.all in
    let items : c.as_slice-ns-items.result.now ≡ keys_of c.args.longest.now.entries = search rules in
    all_told w places c.args.longest.now.entries c.namespaces.ns-index refl (omega (arith, ap length items, c.namespaces-test.false))
    (subst (λ xs. IsToldOf w places (map namespace_bytes xs) c.namespaces.ns-index) items c.namespaces.invariant)
