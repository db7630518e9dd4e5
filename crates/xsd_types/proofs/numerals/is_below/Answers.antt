use Rattle.std.proofs.Common.{ap, ◌∙◌}
use Rattle.std.specs.Ordering.{is_lt}
use Rattle.xsd_types.specs.plain.Digits.{value_of}
use Rattle.xsd_types.proofs.Values.{less_is}
use Rattle.xsd_types.proofs.numerals.is_below.Goals as goal

pub returns : goal.returns
returns c = c.is_lt.ensures ∙ ap is_lt c.compare.ensures ∙ less_is (value_of c.args.a.now) (value_of c.args.b.now)
