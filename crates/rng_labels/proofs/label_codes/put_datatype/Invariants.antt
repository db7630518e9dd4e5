use Rattle.std.proofs.Common.{◌≡◌, ◌++◌, map, drop}
use Rattle.rng_model.specs.datatypes.DatatypeViews.{datatype_of, parameter_of}
use Rattle.rng_labels.specs.plain.LabelCodes.{datatype_code, parameters_code, part_of}
use Rattle.rng_labels.proofs.label_codes.put_datatype.Given as goal

abbrev pub invariant-parameters : goal.invariant-parameters
invariant-parameters l =
    map part_of l.code.items ++ parameters_code (map parameter_of (drop l.name-index l.datatype.parameters.items))
    ≡ map part_of l.fn.code.items ++ datatype_code (datatype_of l.datatype)
