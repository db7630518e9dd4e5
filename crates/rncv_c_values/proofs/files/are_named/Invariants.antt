use Rattle.std.proofs.Common.{All, IsUtf8, take}
use Rattle.rncv_c_values.proofs.files.are_named.Given as goal

abbrev pub invariant-loop-file : goal.invariant-loop-file
invariant-loop-file l = All (λ f. IsUtf8 f.name.now) (take l.file-index l.files)
