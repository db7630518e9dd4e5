use Rattle.std.proofs.Common.{◌≡◌, ◌∙◌, ap, sym, refl, [], option_map, length, map, get_or, slice_index_or}
use Rattle.std.proofs.lemmas.Option.{get_or_from_slice_get, slice_get-map, slice_get_read}
use Rattle.rng_model.specs.names.NameViews.{name_of}
use Rattle.rng_names.specs.plain.Holding.{pair}
use Rattle.rng_names.specs.views.KeyTables.{places_in}
use Rattle.rng_names.specs.plain.WrittenNames.{seen_numbers}
use Rattle.rng_names.proofs.OwnKeys.{own_place}
use Rattle.rng_names.proofs.ServingKeys.{name_led}
use Rattle.rng_names.proofs.key_tables.Tables.name.Goals as goal

pub returns-clause-name : goal.returns-clause-name
returns-clause-name c =
    let t = c.args.self.now in
    let names = t.places.names.keys in
    let p = c.leader.result in
    let n = c.index-as_slice-leader.result in
    let read : n ≡ get_or names p n = c.index-as_slice-leader.is ∙ ap (λ xs. get_or xs p n) c.as_slice.ensures.keys in
    let at = slice_get_read names (length names) p n refl c.leader.ensures.inside read in
    sym (name_led (places_in t.places) c.requires.tables.places t.shared c.requires.tables.shared c.args.key p c.leader.ensures.at
    ∙ get_or_from_slice_get (map name_of names) p (name_of n) (pair [] []) (slice_get-map name_of names p ∙ ap (option_map name_of) at))

pub returns-clause-own : goal.returns-clause-own
returns-clause-own c =
    let t = c.args.self.now in
    let names = t.places.names.keys in
    let keys = t.shared.keys.items in
    let p = c.leader.result in
    let n = c.index-as_slice-leader.result in
    let read : n ≡ get_or names p n = c.index-as_slice-leader.is ∙ ap (λ xs. get_or xs p n) c.as_slice.ensures.keys in
    let at = slice_get_read names (length names) p n refl c.leader.ensures.inside read in
    ap (λ j. slice_index_or keys j 0) (own_place names c.as_slice.ensures.unique p n at (seen_numbers t.places.namespaces.entries))
    ∙ get_or_from_slice_get keys p c.args.key 0 (c.requires.tables.shared.own c.args.key p c.leader.ensures.at)
