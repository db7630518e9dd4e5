use Rattle.std.proofs.Common.{◌≡◌, ◌++◌, flat_map, string_bytes}
use Rattle.expected_text.specs.plain.Fields.{escaped_char}
use Rattle.expected_text.proofs.fields.write_field.Given as goal

abbrev pub invariant-loop-c : goal.invariant-loop-c
invariant-loop-c l = string_bytes l.text ≡ string_bytes l.fn.text ++ flat_map escaped_char l.yielded
