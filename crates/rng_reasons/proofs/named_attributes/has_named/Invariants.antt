use Rattle.std.proofs.Common.{◌-◌, ◌+◌, ◌≤◌, length}
use Rattle.rng_model.specs.names.NameViews.{name_of}
use Rattle.rng_deriv_table.specs.views.Trees.{tree_of}
use Rattle.rng_reasons.specs.NamedAttributes.{AreTests}
use Rattle.rng_reasons.proofs.named_attributes.has_named.Given as goal

abbrev pub invariant-rows : goal.invariant-rows
invariant-rows l = record {
  within : length l.tests.items ≤ l.number.0 + 1;
  tests : AreTests (name_of l.name) (tree_of l.context.grammar.now l.table) l.tests.items;
}

abbrev pub decreases-rows : goal.decreases-rows
decreases-rows l = l.number.0 + 1 - length l.tests.items
