use Rattle.std.proofs.Common.{◌≡◌, ◌++◌, flat_map, map, string_bytes, take}
use Rattle.rng_expected.specs.views.Next.{value_of}
use Rattle.expected_text.specs.ExpectationText.{value_line}
use Rattle.expected_text.proofs.lines.write_values.Given as goal

abbrev pub invariant-values : goal.invariant-values
invariant-values l = string_bytes l.text ≡ string_bytes l.fn.text ++ flat_map value_line (map value_of (take l.value-index l.values))
