use Rattle.std.proofs.Common.{not, ap, ◌∙◌}
use Rattle.std.specs.Ordering.{is_lt}
use Rattle.rng_model.specs.xsd.primitives.Decimals.{scaled}
use Rattle.xsd_decimals.specs.plain.Numbers.{value_of}
use Rattle.xsd_decimals.proofs.Signs.{at_most_is}
use Rattle.xsd_decimals.proofs.number.is_at_most.Goals as goal

pub returns : goal.returns
returns c = ap not (c.is_lt.ensures ∙ ap is_lt c.compare.ensures) ∙ at_most_is (scaled (value_of c.args.a.now) (value_of c.args.b.now)) (scaled (value_of c.args.b.now) (value_of c.args.a.now))
