use Rattle.std.proofs.Common.{◌≡◌, ℕ, length, slice_get, Some}
use Rattle.rng_rules.proofs.names_meet_rows.no_marks.Given as goal

abbrev pub invariant-loop : goal.invariant-loop
invariant-loop l = record {
  long : length l.marks.items ≡ l.counter;
  none : (k m : ℕ) → slice_get l.marks.items k ≡ Some m → m ≡ 0;
}
