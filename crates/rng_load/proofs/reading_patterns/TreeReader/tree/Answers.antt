use Rattle.rng_load.proofs.Overriding.BrokenIncludes.{tree_of_name}
use Rattle.rng_load.proofs.reading_patterns.TreeReader.tree.Goals as goal

pub returns : goal.returns
returns c = tree_of_name c.args.self.trees.now.entries c.args.name.now c.get.result c.get.ensures.value
