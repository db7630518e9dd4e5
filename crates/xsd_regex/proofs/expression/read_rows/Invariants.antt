use Rattle.std.proofs.Common.{length}
use Rattle.std.specs.Str.{chars}
use Rattle.xsd_regex.specs.views.Steps.{kept_of}
use Rattle.xsd_regex.proofs.Progress.{Reached}
use Rattle.xsd_regex.proofs.expression.read_rows.Given as goal

abbrev pub invariant-loop-rest : goal.invariant-loop-rest
invariant-loop-rest l = Reached l.text l.rest (kept_of l.reader)

abbrev pub decreases-loop-rest : goal.decreases-loop-rest
decreases-loop-rest l = length (chars l.rest)
