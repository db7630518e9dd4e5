-- The types and the values of the code, in the words of the definitions.
use Rattle.std.specs.Float.{Float, Format, binary32, binary64}
use Rattle.rng_model.specs.xsd.primitives.Floats.{one_zero}
use Rattle.xsd_floats.specs.declared.kind.FloatKind.{FloatKind}
use Rattle.xsd_floats.specs.declared.kind.FloatKind.TheVariants as kinds
use Rattle.xsd_floats.specs.declared.value.FloatValue.{FloatValue}

abbrev pub format_of : FloatKind → Format
format_of kinds.Float = binary32
format_of kinds.Double = binary64

-- both zeros of the code are the one of the type
abbrev pub number_of : FloatValue → Float
number_of v = one_zero v.number
