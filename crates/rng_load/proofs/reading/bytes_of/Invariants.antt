use Rattle.std.proofs.Common.{take}
use Rattle.std.specs.Prelude.{MatchOption}
use Rattle.rnc_model.specs.loading.SchemaFile.{named_files, IsHandedIn, IsMissing}
use Rattle.rng_load.proofs.reading.bytes_of.Given as goal

abbrev pub invariant-loop-other : goal.invariant-loop-other
invariant-loop-other l = MatchOption l.found (IsMissing (named_files (take l.other-index l.files)) l.name) (λ bytes. IsHandedIn (named_files
    (take l.other-index l.files)) l.name bytes.now)
