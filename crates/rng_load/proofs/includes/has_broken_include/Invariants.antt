use Rattle.std.proofs.Common.{map, take}
use Rattle.rnc_grammar.specs.views.View.{mentioned_file_of}
use Rattle.rng_load.specs.views.FilesView.{taken_files_of}
use Rattle.rnc_model.specs.loading.Loading.{IsBrokenInclude}
use Rattle.rng_load.proofs.Overriding.BrokenIncludes.{OneOf}
use Rattle.rng_load.proofs.includes.has_broken_include.Given as goal

abbrev pub invariant-loop-file : goal.invariant-loop-file
invariant-loop-file l = ¬ (OneOf (IsBrokenInclude (taken_files_of l.trees)) (map mentioned_file_of (take l.file-index l.file-items)))
