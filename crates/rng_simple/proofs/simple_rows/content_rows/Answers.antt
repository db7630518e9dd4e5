use Rattle.std.proofs.Common.{◌≡◌, ◌<◌, inl, inr, [], ◌∷◌, ◌∙◌, ap, sym, length, get_or, length-append, arith}
use Rattle.std.proofs.lemmas.Bool.{cases_lt}
use Rattle.std.proofs.lemmas.List.{length-map, get_or-map}
use Rattle.rng_model.specs.simple.Tree.{empty}
use Rattle.rng_simple.specs.views.GraphView.{child, forest, graph_pattern_of, graph_of}
use Rattle.rng_simple.specs.plain.GrammarBy.{spot_simple, content_simple}
use Rattle.rng_simple.specs.views.RowTable.{tree_of}
use Rattle.rng_simple.specs.plain.SimpleParts.{values_in}
use Rattle.rng_simple.proofs.Tables.SimpleParts.{grown_twice, push_below, values_stay}
use Rattle.rng_simple.proofs.Tables.SimpleRows.{contents_next, contents_past}
use Rattle.rng_simple.proofs.simple_rows.content_rows.Goals as goal

pub elements-preserved : goal.elements-preserved
elements-preserved c =
    let g = graph_of c.args.graph.now in
    let elements = c.args.graph.now.elements.items in
    let n = c.elements.element-index in
    let t = c.elements.table in
    let u = c.simple_pattern.new.table in
    let rows = c.elements.rows.items in
    let new = c.push.new.self.items in
    let id = c.in_ok-simple_pattern.field-0 in
    let grown = c.in_ok-simple_pattern.ensures.grown in
    let start = c.args.table.now in
    let definitions = c.args.definitions.now in
    let values = values_in start definitions in
    let more = c.in_ok-push.ensures.items in
    let inside : n < length elements = omega (arith, c.elements-test.true) in
    let body = graph_pattern_of c.element-item.result.content in
    let item : content_simple g values n ≡ spot_simple values body =
    ap (spot_simple values) (get_or-map (λ e. graph_pattern_of e.content) elements n c.element-item.result empty inside
    ∙ ap (λ e. graph_pattern_of e.content) (sym (c.element-item.is ∙ ap (λ xs. get_or xs n c.element-item.result) c.deref-element-items.ensures.value))) in
    let tree : tree_of u id ≡ content_simple g values n =
    c.in_ok-simple_pattern.ensures.tree ∙ ap (λ rows. spot_simple (values_in t definitions) (child (forest rows))) c.deref.ensures.value
    ∙ values_stay start t definitions c.elements.invariant.grown c.requires.definitions body ∙ sym item in
    record {
      grown = grown_twice start t u c.elements.invariant.grown grown;
      long = omega (arith, ap length more, length-append rows (id ∷ []), c.elements.invariant.long);
      below = push_below rows new id n more c.elements.invariant.long t u grown c.elements.invariant.below c.in_ok-simple_pattern.ensures.there;
      contents = contents_next t u grown rows new id n more c.elements.invariant.long c.elements.invariant.below
          (content_simple g values) c.elements.invariant.contents tree;
    }

pub returns-clause-contents : goal.returns-clause-contents
returns-clause-contents c =
    let g = graph_of c.args.graph.now in
    let elements = c.args.graph.now.elements.items in
    let n = c.elements.element-index in
    let all : length g.contents ≡ n = omega (
      arith,
      length-map elements (λ e. graph_pattern_of e.content),
      c.elements-test.false,
      c.elements.auto.element-index-end,
    ) in
    λ k. elim (cases_lt k n) [
      | inl h ↦ c.elements.invariant.contents k h
      | inr h ↦ contents_past g (values_in c.args.table.now c.args.definitions.now) c.elements.table c.elements.rows.items n k c.elements.invariant.grown.table
          c.elements.invariant.long all h
    ]
