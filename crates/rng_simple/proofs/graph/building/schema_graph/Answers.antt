use Rattle.std.proofs.Common.{◌≡◌, ◌∙◌, ap, sym, subst, arith, rules, [], ◌∷◌, ◌+◌, length, length-append, map, slice_get, Some, None}
use Rattle.std.proofs.lemmas.List.{length-map}
use Rattle.rng_model.proofs.Places.{ends_before}
use Rattle.rng_load.specs.views.PlacedGrammars.{schema_of}
use Rattle.rng_simple.specs.views.ComponentTable.{table_of}
use Rattle.rng_simple.specs.views.Definitions.{definition_of, numbering_of}
use Rattle.rng_simple.specs.views.GraphView.{graph_body_of}
use Rattle.rng_simple.proofs.BuiltGraphs.GraphSteps.{IsGraphSoFar, started}
use Rattle.rng_simple.proofs.BuiltGraphs.ReadySchemas.{ready}
use Rattle.rng_simple.proofs.BuiltGraphs.SchemaGraphs.{built, room, step}
use Rattle.rng_simple.proofs.graph.building.schema_graph.Goals as goal

pub definitions-init : goal.definitions-init
definitions-init c =
    let v = numbering_of c.in_ok-numbering.numbering in
    subst (λ bodies. IsGraphSoFar (schema_of c.args.schema.now) v (map graph_body_of bodies)) (sym c.in_ok-bodies.ensures.items)
    (started (schema_of c.args.schema.now) (ready (schema_of c.args.schema.now) c.main.ensures.placed c.requires.starts c.requires.refs) v (ap (λ v. v.definitions) c.in_ok-numbering.ensures
    ∙ ap (λ z. record { place = z; name = None } ∷ []) c.main.ensures.main) (ap (λ v. v.elements) c.in_ok-numbering.ensures))

pub definitions-smaller : goal.definitions-smaller
definitions-smaller c =
    let here : slice_get c.definitions.numbering.definitions.keys (length c.definitions.bodies.items) ≡ Some c.in-Some.definition.now = search rules in
    let grown : length c.push.new.self.items ≡ length c.definitions.bodies.items + 1 =
    ap length c.in_ok-push.ensures.items ∙ length-append c.definitions.bodies.items (c.in_ok-body.field-0 ∷ []) in
    let less = room (schema_of c.args.schema.now) (ready (schema_of c.args.schema.now) c.main.ensures.placed c.requires.starts c.requires.refs) (table_of c.in_ok-table.table) c.in_ok-table.ensures.table c.in_ok-table.ensures.components
    c.definitions.numbering c.definitions.bodies.items c.in-Some.definition.now c.definitions.invariant here in
    omega (arith, less, grown)

pub definitions-preserved : goal.definitions-preserved
definitions-preserved c =
    let here : slice_get c.definitions.numbering.definitions.keys (length c.definitions.bodies.items) ≡ Some c.in-Some.definition.now = search rules in
    step (schema_of c.args.schema.now) (ready (schema_of c.args.schema.now) c.main.ensures.placed c.requires.starts c.requires.refs) c.definitions.numbering c.definitions.bodies.items c.in-Some.definition.now c.definitions.invariant here
    c.body.new.numbering c.in_ok-body.field-0 c.push.new.self.items c.in_ok-body.ensures.body c.in_ok-body.ensures.numbering c.in_ok-push.ensures.items

pub returns : goal.returns
returns c =
    let none : slice_get c.definitions.numbering.definitions.keys (length c.definitions.bodies.items) ≡ None = search rules in
    built (schema_of c.args.schema.now) (ready (schema_of c.args.schema.now) c.main.ensures.placed c.requires.starts c.requires.refs) c.definitions.numbering (map graph_body_of c.definitions.bodies.items) c.definitions.invariant
    (omega (
      arith,
      ends_before c.definitions.numbering.definitions.keys (length c.definitions.bodies.items) none,
      length-map c.definitions.bodies.items graph_body_of,
      length-map c.definitions.numbering.definitions.keys definition_of,
    ))
    (record { bodies = c.shrink_to_fit.new.self; elements = c.shrink_to_fit-2.new.self })
    (ap (map graph_body_of) c.shrink_to_fit.ensures.items) c.shrink_to_fit-2.ensures.items
