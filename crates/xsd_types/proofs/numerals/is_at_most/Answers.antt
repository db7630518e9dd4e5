use Rattle.std.proofs.Common.{not, ap, ◌∙◌}
use Rattle.std.specs.Ordering.{is_lt}
use Rattle.xsd_types.specs.plain.Digits.{value_of}
use Rattle.xsd_types.proofs.Values.{at_most_is}
use Rattle.xsd_types.proofs.numerals.is_at_most.Goals as goal

pub returns : goal.returns
returns c = ap not (c.is_lt.ensures ∙ ap is_lt c.compare.ensures) ∙ at_most_is (value_of c.args.a.now) (value_of c.args.b.now)
