use Rattle.std.proofs.Common.{◌≡◌, ◌++◌, flat_map, map, string_bytes, take}
use Rattle.rng_model.specs.datatypes.DatatypeViews.{parameter_of}
use Rattle.expected_text.specs.ExpectationText.{parameter_fields}
use Rattle.expected_text.proofs.lines.write_parameters.Given as goal

abbrev pub invariant-parameters : goal.invariant-parameters
invariant-parameters l =
    string_bytes l.text ≡ string_bytes l.fn.text ++ flat_map parameter_fields (map parameter_of (take l.parameter-index l.parameters))
