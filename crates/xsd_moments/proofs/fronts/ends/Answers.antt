use Rattle.std.proofs.Common.{◌∙◌, sym}
use Rattle.xsd_moments.proofs.FrontRuns.{ends-run}
use Rattle.xsd_moments.proofs.fronts.ends.Goals as goal

pub returns : goal.returns
returns c = c.is_blank.ensures ∙ sym (ends-run c.args.bytes.now)
