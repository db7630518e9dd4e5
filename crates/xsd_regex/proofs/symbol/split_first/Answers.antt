use Rattle.std.proofs.Common.{rules}
use Rattle.xsd_regex.proofs.Spelled.{first_is}
use Rattle.xsd_regex.proofs.symbol.split_first.Goals as goal

pub returns : goal.returns
returns c = first_is c.args.text.now c.as_str.result.now c.in_ok-first.first c.utf8.text (search rules)
