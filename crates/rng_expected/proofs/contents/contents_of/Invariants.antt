use Rattle.std.proofs.Common.{take}
use Rattle.rng_model.specs.names.NameViews.{name_of}
use Rattle.rng_expected.specs.plain.TagLeaves.{AreContentsOf}
use Rattle.rng_expected.proofs.contents.contents_of.Given as goal

abbrev pub invariant-attributes : goal.invariant-attributes
invariant-attributes l = AreContentsOf l.context.grammar.now l.table (name_of l.name) (take l.leaf-index l.attributes) l.contents.items
