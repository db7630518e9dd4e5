use Rattle.std.proofs.Common.{◌∙◌, ap, sym, subst, map, option_map, drop, ◌+◌}
use Rattle.rng_model.specs.views.SchemaView.{place_of, schema_component_of}
use Rattle.rng_load.specs.views.PlacedGrammars.{schema_of}
use Rattle.rng_simple.specs.views.ComponentTable.{components_of, table_of}
use Rattle.rng_simple.specs.views.Definitions.{definition_of}
use Rattle.rng_simple.proofs.BuiltGraphs.ComponentTables.{all_seen, Gathers, no_grammar, none_at, one_grammar_more, these_at}
use Rattle.rng_simple.proofs.graph.components.ComponentTable.of_schema.Goals as goal
use Rattle.rng_simple.proofs.graph.components.ComponentTable.of_schema.Goals.{in-Some+in_ok-add_grammar, in_default}

pub loop-place-init : goal.loop-place-init
loop-place-init c =
    no_grammar (schema_of c.args.schema.now) (map place_of c.places-place-items.result.now)
    (table_of (record { definitions = c.new.result; components = c.new-2.result })) c.places-place-items.ensures (ap (map definition_of) c.new.ensures.empty)
    (ap (map all_seen) c.new-2.ensures.items)

pub loop-place-preserved : goal.loop-place-preserved
loop-place-preserved c =
    let s = schema_of c.args.schema.now in
    let places = c.places-place-items.result.now in
    let x = place_of c.place-item.result in
    let i = c.loop-place.place-index in
    let old = table_of c.loop-place.table in
    elim c.match-components.branch [
      | in-Some+in_ok-add_grammar w ↦
          let there = sym (ap (option_map (λ cs. map schema_component_of cs.now)) w.in-Some.is) ∙ c.components.ensures in
          subst (λ t. Gathers s (map place_of (drop (i + 1) places)) (table_of t)) (sym w.table-is)
          (one_grammar_more s place_of places i c.place-item.result old (table_of w.add_grammar.new.self) c.loop-place-test.true c.place-item.is
          w.in_ok-add_grammar.ensures.table
          (λ d. these_at s d x (map schema_component_of w.in-Some.components.now) (components_of old d) (components_of (table_of w.add_grammar.new.self) d)
          there (w.in_ok-add_grammar.ensures.components d))
          c.loop-place.invariant)
      | in_default w ↦
          subst (λ t. Gathers s (map place_of (drop (i + 1) places)) (table_of t)) (sym w.table-is)
          (one_grammar_more s place_of places i c.place-item.result old old c.loop-place-test.true c.place-item.is c.loop-place.invariant.0
          (λ d. none_at s d x (components_of old d) w.in_default.ensures)
          c.loop-place.invariant)
    ]
