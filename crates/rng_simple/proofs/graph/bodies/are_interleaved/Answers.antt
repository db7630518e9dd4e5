use Rattle.std.proofs.Common.{◌∙◌, sym, ap, ◌||◌, ◌+◌, map, drop}
use Rattle.std.specs.List.{list_any}
use Rattle.rng_model.specs.schema.Schema.{is_interleaved}
use Rattle.rng_model.specs.views.SchemaView.{schema_component_of}
use Rattle.rng_simple.proofs.BuiltGraphs.ResolvedMembers.{next_any}
use Rattle.rng_simple.proofs.graph.bodies.are_interleaved.Goals as goal

pub loop-component-preserved : goal.loop-component-preserved
loop-component-preserved c =
    let rest = list_any (λ c. is_interleaved c.method) (map (λ c. schema_component_of c.now)
    (drop (c.loop-component.component-index + 1) c.args.components.now)) in
    c.loop-component.invariant
    ∙ next_any (λ c. is_interleaved c.method) (λ c. schema_component_of c.now) c.args.components.now c.loop-component.component-index c.component-item.result
    c.loop-component-test.true c.component-item.is ∙ ap (λ b. b || rest) (sym c.is_interleaved.ensures ∙ c.if-is_interleaved.false)

pub returns-then-is_interleaved : goal.returns-then-is_interleaved
returns-then-is_interleaved c =
    let rest = list_any (λ c. is_interleaved c.method) (map (λ c. schema_component_of c.now)
    (drop (c.loop-component.component-index + 1) c.args.components.now)) in
    sym (c.loop-component.invariant
    ∙ next_any (λ c. is_interleaved c.method) (λ c. schema_component_of c.now) c.args.components.now c.loop-component.component-index c.component-item.result
    c.loop-component-test.true c.component-item.is ∙ ap (λ b. b || rest) (sym c.is_interleaved.ensures ∙ c.if-is_interleaved.true))
