use Rattle.xsd_decimals.proofs.Signs.{total_is}
use Rattle.xsd_decimals.proofs.number.has_total_digits.Goals as goal

pub returns : goal.returns
returns c = let n = c.args.n.now in total_is n.negative n.whole.now n.fraction.now c.args.total c.requires
