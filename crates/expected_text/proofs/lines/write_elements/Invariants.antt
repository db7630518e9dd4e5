use Rattle.std.proofs.Common.{◌≡◌, ◌++◌, flat_map, map, string_bytes, take}
use Rattle.rng_model.specs.names.NameViews.{class_of}
use Rattle.expected_text.specs.ExpectationText.{element_lines}
use Rattle.expected_text.proofs.lines.write_elements.Given as goal

abbrev pub invariant-elements : goal.invariant-elements
invariant-elements l = string_bytes l.text ≡ string_bytes l.fn.text ++ flat_map element_lines (map (λ c. class_of c.now) (take l.class-index l.elements))
