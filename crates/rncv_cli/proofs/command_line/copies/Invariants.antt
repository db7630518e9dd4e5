use Rattle.std.proofs.Common.{◌≡◌, take, map, string_bytes}
use Rattle.rncv_cli.proofs.command_line.copies.Given as goal

abbrev pub invariant-loop-text : goal.invariant-loop-text
invariant-loop-text l = map string_bytes l.all.items ≡ map (λ t. t.now) (take l.text-index l.texts)
