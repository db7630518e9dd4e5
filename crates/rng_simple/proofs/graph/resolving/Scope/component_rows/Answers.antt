use Rattle.std.proofs.Common.{◌∙◌, [], ap, sym, subst, map, option_map}
use Rattle.rng_model.specs.views.SchemaView.{place_of, schema_component_of}
use Rattle.rng_simple.specs.views.Definitions.{numbering_of}
use Rattle.rng_simple.specs.views.GraphView.{forest}
use Rattle.rng_simple.proofs.Forests.{no_rows}
use Rattle.rng_simple.proofs.BuiltGraphs.ResolvedMembers.{AreResolved, all_numbered, all_patterns, goes_on, none_resolved}
use Rattle.rng_simple.proofs.graph.resolving.Scope.component_rows.Goals as goal

pub loop-component-init : goal.loop-component-init
loop-component-init c =
    let x = place_of c.args.self.place.now in
    let outer = option_map (λ z. place_of z.now) c.args.self.outer in
    let ps = map (λ c. (schema_component_of c.now).pattern) c.args.components.now in
    let v = numbering_of c.args.numbering.now in
    subst (λ ts. AreResolved x outer [] ps v ps ts v) (sym (ap forest c.in_ok-rows.ensures.items ∙ no_rows)) none_resolved

pub loop-component-preserved : goal.loop-component-preserved
loop-component-preserved c =
    goes_on (λ c. (schema_component_of c.now).pattern) c.args.components.now c.loop-component.component-index c.component-item.result
    (forest c.loop-component.rows.items) (forest c.pattern.new.rows.items) (numbering_of c.loop-component.numbering) (numbering_of c.pattern.new.numbering)
    c.loop-component-test.true c.component-item.is c.loop-component.invariant c.in_ok-pattern.ensures.pattern c.in_ok-pattern.ensures.numbering

pub returns-clause-patterns : goal.returns-clause-patterns
returns-clause-patterns c =
    ap forest c.shrink_to_fit.ensures.items
    ∙ all_patterns (λ c. (schema_component_of c.now).pattern) c.args.components.now c.loop-component.component-index
    (forest c.loop-component.rows.items) (numbering_of c.loop-component.numbering) c.loop-component-test.false c.loop-component.invariant

pub returns-clause-numbering : goal.returns-clause-numbering
returns-clause-numbering c =
    all_numbered (λ c. (schema_component_of c.now).pattern) c.args.components.now c.loop-component.component-index
    (forest c.loop-component.rows.items) (numbering_of c.loop-component.numbering) c.loop-component-test.false c.loop-component.invariant
