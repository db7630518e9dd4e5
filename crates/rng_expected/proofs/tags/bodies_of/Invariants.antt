use Rattle.std.proofs.Common.{All, take}
use Rattle.rng_model.specs.names.NameViews.{name_of}
use Rattle.rng_deriv_laws.specs.plain.Restricted.{IsRestricted}
use Rattle.rng_deriv_table.specs.views.Trees.{tree_of}
use Rattle.rng_deriv_ways.specs.plain.Starting.{HasRestrictedBodies}
use Rattle.rng_expected.specs.plain.TagLeaves.{AreBodiesOf}
use Rattle.rng_expected.proofs.tags.bodies_of.Given as goal

abbrev pub invariant-starts : goal.invariant-starts
invariant-starts l = AreBodiesOf l.context.grammar.now l.table (name_of l.name) (take l.leaf-index l.starts) l.bodies.items
    × (HasRestrictedBodies l.context.grammar.now l.table l.context.numbers.now → All (λ b. IsRestricted (tree_of l.context.grammar.now l.table b.0)) l.bodies.items)
