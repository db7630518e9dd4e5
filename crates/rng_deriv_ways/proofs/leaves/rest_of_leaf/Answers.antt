use Rattle.std.proofs.Common.{◌∙◌, sym, ap}
use Rattle.std.proofs.lemmas.Result.{IfOk-weaker as if_ok}
use Rattle.rng_deriv_table.specs.views.PatternTable.{Adds}
use Rattle.rng_deriv_table.specs.views.Trees.{tree_of}
use Rattle.rng_model.specs.simple.Tree.{s_empty}
use Rattle.rng_deriv_ways.specs.plain.Kinds.{rest_of_leaf}
use Rattle.rng_deriv_ways.proofs.PatternNodes.{is_over, rest_is_empty}
use Rattle.rng_deriv_ways.proofs.leaves.rest_of_leaf.Goals as goal

pub returns-in-Text-clause-tree : goal.returns-in-Text-clause-tree
returns-in-Text-clause-tree c = record {
  inside = c.requires;
  is = λ t.
      let e = is_over t c.args.table.now c.args.number.0 c.pattern.result.now _ c.pattern.ensures.table c.pattern.ensures.found c.in-Text.is in
      e ∙ sym (ap rest_of_leaf e);
}

pub returns : goal.returns
returns c = record {
  longer = c.empty.ensures.longer;
  tree = if_ok c.empty.result (λ n. Adds c.args.table.now c.empty.new.self n.0 (λ t. s_empty))
      (λ n. Adds c.args.table.now c.empty.new.self n.0 (λ t. rest_of_leaf (tree_of t c.args.table.now c.args.number.0)))
      (λ n h. record {
        inside = h.inside;
        is = λ t. h.is t ∙ sym (rest_is_empty t c.args.table.now c.args.number.0 c.pattern.result.now c.pattern.ensures.table c.pattern.ensures.found
            c.in_default.not-Text);
      }) c.empty.ensures.tree;
}
