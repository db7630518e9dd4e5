use Rattle.std.proofs.Common.{◌≡◌, ◌<◌, ◌≤◌, ℕ, length, get_or}
use Rattle.xsd_automaton.specs.plain.Sets.{no_set}
use Rattle.xsd_automaton.proofs.sets.SetRow.new.Given as goal

abbrev pub invariant-loop-byte : goal.invariant-loop-byte
invariant-loop-byte l = record {
  long : length l.targets ≡ 256;
  front : (b : ℕ) → b < l.byte → get_or l.targets b no_set ≡ get_or l.ascii b l.own;
  back : (b : ℕ) → 192 ≤ b → b < 256 → get_or l.targets b no_set ≡ l.past;
}
