use Rattle.xsd_moments.proofs.FrontRuns.{too_short}
use Rattle.xsd_moments.proofs.fronts.two_digits.Goals as goal

pub returns-in_default-clause-front : goal.returns-in_default-clause-front
returns-in_default-clause-front c = too_short c.args.least c.args.greatest c.args.bytes.now c.in_default.len_below
