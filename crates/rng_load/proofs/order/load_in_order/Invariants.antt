use Rattle.std.proofs.Common.{◌-◌, length}
use Rattle.rng_load.specs.views.FilesView.{names_of, taken_files_of}
use Rattle.rnc_model.specs.loading.SchemaFile.{named_files}
use Rattle.rng_load.proofs.LoadOrder.TakenFiles.{IsFirm}
use Rattle.rng_load.proofs.order.load_in_order.Given as goal

abbrev pub invariant-files : goal.invariant-files
invariant-files l = IsFirm (named_files l.files) l.main (taken_files_of l.trees) (names_of l.names)

abbrev pub decreases-files : goal.decreases-files
decreases-files l = length l.files - length l.trees.entries
