use Rattle.std.proofs.Common.{◌≡◌, ◌++◌, flat_map, map, string_bytes, take}
use Rattle.rng_model.specs.names.NameViews.{class_of}
use Rattle.expected_text.specs.ExpectationText.{attribute_lines}
use Rattle.expected_text.proofs.tag_lines.write_attributes.Given as goal

abbrev pub invariant-attributes : goal.invariant-attributes
invariant-attributes l =
    string_bytes l.text ≡ string_bytes l.fn.text ++ flat_map attribute_lines (map (λ c. class_of c.now) (take l.class-index l.attributes))
