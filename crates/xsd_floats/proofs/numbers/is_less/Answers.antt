use Rattle.xsd_floats.proofs.Comparisons.{same_order}
use Rattle.xsd_floats.proofs.numbers.is_less.Goals as goal

pub returns : goal.returns
returns c = same_order c.args.a c.args.b
