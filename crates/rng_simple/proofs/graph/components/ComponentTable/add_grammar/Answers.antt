use Rattle.std.proofs.Common.{◌++◌, map}
use Rattle.rng_model.specs.views.SchemaView.{place_of, schema_component_of}
use Rattle.rng_simple.specs.views.ComponentTable.{components_of, table_of, those_at}
use Rattle.rng_simple.proofs.BuiltGraphs.ComponentTables.{one_less}
use Rattle.rng_simple.proofs.graph.components.ComponentTable.add_grammar.Goals as goal

pub loop-component-preserved : goal.loop-component-preserved
loop-component-preserved c = (
  c.in_ok-add.ensures.table,
  λ d.
      let x = place_of c.args.place.now in
      let cs = c.args.components.now in
      one_less schema_component_of d x cs c.loop-component.component-index c.component-item.result
      (components_of (table_of c.loop-component.self) d) (components_of (table_of c.add.new.self) d)
      (components_of (table_of c.args.self.now) d ++ those_at d x (map schema_component_of cs))
      c.loop-component-test.true c.component-item.is (c.in_ok-add.ensures.components d) (c.loop-component.invariant.1 d),
)
