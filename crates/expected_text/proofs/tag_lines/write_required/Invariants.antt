use Rattle.std.proofs.Common.{◌≡◌, ◌++◌, flat_map, map, string_bytes, take}
use Rattle.rng_model.specs.names.NameViews.{name_of}
use Rattle.expected_text.specs.ExpectationText.{required_line}
use Rattle.expected_text.proofs.tag_lines.write_required.Given as goal

abbrev pub invariant-names : goal.invariant-names
invariant-names l = string_bytes l.text ≡ string_bytes l.fn.text ++ flat_map required_line (map (λ n. name_of n.now) (take l.name-index l.names))
