use Rattle.std.proofs.Common.{Some, ap, ◌∙◌, sym}
use Rattle.rng_model.specs.datatypes.Facets.{named}
use Rattle.rng_model.specs.xsd.Datatypes.{number_types}
use Rattle.xsd_types.proofs.kind.find_number.Goals as goal

pub returns-in-long : goal.returns-in-long
returns-in-long c = ap Some c.from_to.ensures ∙ ap (λ n. named n number_types) (sym c.in-long.is)

pub returns-in-int : goal.returns-in-int
returns-in-int c = ap Some c.from_to-in-int.ensures ∙ ap (λ n. named n number_types) (sym c.in-int.is)

pub returns-in-short : goal.returns-in-short
returns-in-short c = ap Some c.from_to-in-short.ensures ∙ ap (λ n. named n number_types) (sym c.in-short.is)

pub returns-in-byte : goal.returns-in-byte
returns-in-byte c = ap Some c.from_to-in-byte.ensures ∙ ap (λ n. named n number_types) (sym c.in-byte.is)

pub returns-in-unsignedLong : goal.returns-in-unsignedLong
returns-in-unsignedLong c = ap Some c.from_to-in-unsignedLong.ensures ∙ ap (λ n. named n number_types) (sym c.in-unsignedLong.is)

pub returns-in-unsignedInt : goal.returns-in-unsignedInt
returns-in-unsignedInt c = ap Some c.from_to-in-unsignedInt.ensures ∙ ap (λ n. named n number_types) (sym c.in-unsignedInt.is)

pub returns-in-unsignedShort : goal.returns-in-unsignedShort
returns-in-unsignedShort c = ap Some c.from_to-in-unsignedShort.ensures ∙ ap (λ n. named n number_types) (sym c.in-unsignedShort.is)

pub returns-in-unsignedByte : goal.returns-in-unsignedByte
returns-in-unsignedByte c = ap Some c.from_to-in-unsignedByte.ensures ∙ ap (λ n. named n number_types) (sym c.in-unsignedByte.is)
