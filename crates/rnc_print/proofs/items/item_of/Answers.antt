use Rattle.std.proofs.Common.{◌≡◌, Some, rules, slice_get}
use Rattle.rng_model.specs.declared.simple.Simple.TheVariants as simple
use Rattle.rnc_print.proofs.ItemTables.{leaf_listed}
use Rattle.rnc_print.proofs.items.item_of.Goals as goal

pub returns-in-Element-clause-inside : goal.returns-in-Element-clause-inside
returns-in-Element-clause-inside c =
    let is : slice_get c.args.grammar.now.patterns c.args.id.0 ≡ Some (simple.Element c.in-Element.element) = search rules in
    leaf_listed c.args.grammar.now c.requires.table c.args.id.0 _ is
