use Rattle.std.proofs.Common.{map, take}
use Rattle.rnc_grammar.specs.views.View.{file_of}
use Rattle.rng_load.specs.views.FilesView.{taken_files_of}
use Rattle.rnc_model.specs.loading.Loading.{HasBrokenInclude}
use Rattle.rng_load.proofs.Overriding.BrokenIncludes.{OneOf}
use Rattle.rng_load.proofs.includes.breaks_includes.Given as goal

abbrev pub invariant-loop-tree : goal.invariant-loop-tree
invariant-loop-tree l = ¬ (OneOf (HasBrokenInclude (taken_files_of l.trees)) (map file_of (take l.tree-index l.tree-items)))
