use Rattle.std.proofs.Common.{◌∙◌, ap, take, option_map, ◌≤◌, min, arith}
use Rattle.std.proofs.lemmas.Result.{on_ok_weaker}
use Rattle.rng_model.specs.views.SchemaView.{patterns_in, place_of}
use Rattle.rng_simple.specs.views.Definitions.{numbering_of}
use Rattle.rng_simple.specs.views.GraphView.{forest}
use Rattle.rng_simple.proofs.BuiltGraphs.ResolvedRows.{all_numbers, all_trees, next_resolved, no_rows_resolved, one, there}
use Rattle.rng_simple.proofs.graph.resolving.Scope.pattern.Goals as goal

pub loop-row-init : goal.loop-row-init
loop-row-init c = no_rows_resolved _ _ c.first_pattern-first.result.now

pub row-requires-clause-there : goal.row-requires-clause-there
row-requires-clause-there c =
    let x = place_of c.args.self.now.place.now in
    let outer = option_map (λ z. place_of z.now) c.args.self.now.outer in
    let few : c.min-children.result ≤ c.loop-row.count = omega (arith, c.min-children.ensures) in
    there x outer c.first_pattern-first.result.now c.loop-row.row-index c.loop-row.count c.min-children.result (forest c.loop-row.rows.items)
    (numbering_of c.loop-row.numbering) c.loop-row.invariant few

pub loop-row-preserved : goal.loop-row-preserved
loop-row-preserved c =
    let x = place_of c.args.self.now.place.now in
    let outer = option_map (λ z. place_of z.now) c.args.self.now.outer in
    let children = c.min-children.ensures ∙ ap (λ n. min n c.loop-row.count) c.arity.ensures in
    next_resolved x outer c.first_pattern-first.result.now c.loop-row.row-index c.row-item.result c.loop-row.count c.min-children.result
    (forest c.loop-row.rows.items) (forest c.row.new.rows.items) (numbering_of c.loop-row.numbering) (numbering_of c.row.new.numbering) c.loop-row-test.true
    c.row-item.is c.loop-row.invariant children c.in_ok-row.ensures.patterns c.in_ok-row.ensures.numbering

pub put_missing-requires-clause-there : goal.put_missing-requires-clause-there
put_missing-requires-clause-there c =
    let x = place_of c.args.self.now.place.now in
    let outer = option_map (λ z. place_of z.now) c.args.self.now.outer in
    there x outer c.first_pattern-first.result.now c.loop-row.row-index c.loop-row.count c.loop-row.count (forest c.loop-row.rows.items)
    (numbering_of c.loop-row.numbering) c.loop-row.invariant (omega arith)

pub put_missing-requires-clause-single : goal.put_missing-requires-clause-single
put_missing-requires-clause-single c =
    let x = place_of c.args.self.now.place.now in
    let outer = option_map (λ z. place_of z.now) c.args.self.now.outer in
    let first = c.first_pattern-first.ensures ∙ ap (λ rows. take 1 (patterns_in rows)) c.as_slice.ensures.value in
    one x outer c.first_pattern-first.result.now (patterns_in c.args.pattern.now.rows.items) first c.loop-row.row-index c.loop-row.count
    (forest c.loop-row.rows.items) (numbering_of c.loop-row.numbering) c.loop-row-test.false c.loop-row.invariant

pub returns-clause-pattern : goal.returns-clause-pattern
returns-clause-pattern c =
    let x = place_of c.args.self.now.place.now in
    let outer = option_map (λ z. place_of z.now) c.args.self.now.outer in
    let first = c.first_pattern-first.ensures ∙ ap (λ rows. take 1 (patterns_in rows)) c.as_slice.ensures.value in
    let all = all_trees x outer c.first_pattern-first.result.now (patterns_in c.args.pattern.now.rows.items) first c.loop-row.row-index c.loop-row.count
    (forest c.loop-row.rows.items) (numbering_of c.loop-row.numbering) c.loop-row-test.false c.loop-row.invariant in
    on_ok_weaker c.put_missing.result (λ put. all (forest c.put_missing.new.rows.items) put) c.put_missing.ensures

pub returns-clause-numbering : goal.returns-clause-numbering
returns-clause-numbering c =
    let x = place_of c.args.self.now.place.now in
    let outer = option_map (λ z. place_of z.now) c.args.self.now.outer in
    let first = c.first_pattern-first.ensures ∙ ap (λ rows. take 1 (patterns_in rows)) c.as_slice.ensures.value in
    let all = all_numbers x outer c.first_pattern-first.result.now (patterns_in c.args.pattern.now.rows.items) first c.loop-row.row-index c.loop-row.count
    (forest c.loop-row.rows.items) (numbering_of c.loop-row.numbering) c.loop-row-test.false c.loop-row.invariant in
    on_ok_weaker c.put_missing.result (λ put. all) c.put_missing.ensures
