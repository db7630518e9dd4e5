use Rattle.std.proofs.Common.{◌≡◌, ◌++◌, flat_map, map, take, codes}
use Rattle.rng_model.specs.datatypes.DatatypeViews.{parameter_of}
use Rattle.rncv_model.specs.printed.Words.{parameter_text}
use Rattle.rnc_print.proofs.datatype.write_parameters.Given as goal

-- the parameters so far are written
abbrev pub invariant-parameters : goal.invariant-parameters
invariant-parameters l = l.text.items ≡ l.fn.text.items ++ (codes " { " ++ flat_map parameter_text (map parameter_of (take l.name-index l.parameters)))
