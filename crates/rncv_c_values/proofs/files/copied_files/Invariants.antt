use Rattle.std.proofs.Common.{◌≡◌, take}
use Rattle.rnc_model.specs.loading.SchemaFile.{named_files}
use Rattle.rncv_c_values.specs.views.Files.{files_of}
use Rattle.rncv_c_values.proofs.files.copied_files.Given as goal

abbrev pub invariant-loop-file : goal.invariant-loop-file
invariant-loop-file l = named_files l.copy.items ≡ files_of (take l.file-index l.files)
