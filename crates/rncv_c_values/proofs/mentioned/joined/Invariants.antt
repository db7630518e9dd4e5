use Rattle.std.proofs.Common.{◌≡◌, map, string_bytes, take}
use Rattle.rncv_c_values.specs.views.Mentions.{with_ends}
use Rattle.rncv_c_values.proofs.mentioned.joined.Given as goal

abbrev pub invariant-loop-name : goal.invariant-loop-name
invariant-loop-name l = l.text.items ≡ with_ends (map string_bytes (take l.name-index l.names))
