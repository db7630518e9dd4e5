use Rattle.std.proofs.Common.{◌≡◌, ◌∙◌, [], ◌∷◌, ◌++◌, ap, map, length, arith}
use Rattle.std.proofs.lemmas.List.{map-append, map-set}
use Rattle.rng_model.specs.schema.Schema.{Definition}
use Rattle.rng_model.specs.views.SchemaView.{place_of, schema_component_of}
use Rattle.rng_simple.specs.views.ComponentTable.{table_of}
use Rattle.rng_simple.specs.plain.Graph.{number_of}
use Rattle.rng_simple.specs.views.Definitions.{definition_of}
use Rattle.rng_simple.specs.plain.Resolving.{with_definition}
use Rattle.rng_simple.proofs.BuiltGraphs.ComponentTables.{all_seen, list_at, list_within, one_component_more, seen}
use Rattle.rng_simple.proofs.graph.components.ComponentTable.add.Goals as goal

pub index_mut-requires : goal.index_mut-requires
index_mut-requires c =
    let ds = (table_of c.args.self.now).definitions in
    let d = definition_of (record { place = c.args.place; name = c.as_deref-name.result }) in
    let t = c.number.new.self in
    let within = list_within all_seen t.components.items d ds c.in_ok-number.ensures.number c.in_ok-number.ensures.numbered c.in_ok-number.ensures.table in
    omega (arith, within, t.components.ok.0)

pub returns-clause-components : goal.returns-clause-components
returns-clause-components c =
    let ds = (table_of c.args.self.now).definitions in
    let one = schema_component_of c.args.component.now in
    let e : Definition = record { place = place_of c.args.place.now; name = one.name } in
    let d = definition_of (record { place = c.args.place; name = c.as_deref-name.result }) in
    let is : d ≡ e = ap (λ y. record { place = place_of c.args.place.now; name = y }) c.as_deref-name.ensures.value in
    let items = c.number.new.self.components.items in
    let n = c.in_ok-number.number in
    let numbered = c.in_ok-number.ensures.numbered in
    let inside = list_within all_seen items d ds c.in_ok-number.ensures.number numbered c.in_ok-number.ensures.table in
    let own : all_seen c.push.new.self ≡ all_seen c.index_mut.result.now ++ one ∷ [] =
    ap (map seen) c.in_ok-push.ensures.items
    ∙ map-append seen c.index_mut.result.now.items (c.args.component ∷ []) in
    one_component_more ds e one (table_of c.args.self.now).components (map all_seen items) c.requires c.in_ok-number.ensures.components
    (c.in_ok-number.ensures.table ∙ ap length numbered ∙ ap (λ z. length (with_definition ds z)) is)
    (c.in_ok-number.ensures.number ∙ ap (number_of ds) is)
    (numbered ∙ ap (with_definition ds) is)
    (own ∙ ap (λ z. z ++ one ∷ []) (list_at all_seen items n c.index_mut.result.now inside c.index_mut.ensures.value))
    (map-set all_seen items n c.push.new.self)
