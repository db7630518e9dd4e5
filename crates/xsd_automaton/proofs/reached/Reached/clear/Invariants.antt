use Rattle.std.proofs.Common.{◌≡◌, ◌<◌, ℕ, length, false, true, get_or}
use Rattle.xsd_automaton.specs.plain.Closures.{has_number}
use Rattle.xsd_automaton.proofs.reached.Reached.clear.Given as goal

abbrev pub invariant-loop-number : goal.invariant-loop-number
invariant-loop-number l = record {
  as_many : length l.self-inside.marks ≡ 12289;
  within : (i : ℕ) → has_number l.self-inside.numbers.items i ≡ true → i < 12289;
  marked : (i : ℕ) → get_or l.self-inside.marks i false ≡ true → has_number l.self-inside.numbers.items i ≡ true;
}

abbrev pub decreases-loop-number : goal.decreases-loop-number
decreases-loop-number l = length l.self-inside.numbers.items
