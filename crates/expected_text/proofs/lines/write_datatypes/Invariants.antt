use Rattle.std.proofs.Common.{◌≡◌, ◌++◌, flat_map, map, string_bytes, take}
use Rattle.rng_model.specs.datatypes.DatatypeViews.{datatype_of}
use Rattle.expected_text.specs.ExpectationText.{datatype_line}
use Rattle.expected_text.proofs.lines.write_datatypes.Given as goal

abbrev pub invariant-datatypes : goal.invariant-datatypes
invariant-datatypes l =
    string_bytes l.text ≡ string_bytes l.fn.text ++ flat_map datatype_line (map (λ d. datatype_of d.now) (take l.datatype-index l.datatypes))
