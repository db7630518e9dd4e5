use Rattle.std.proofs.Common.{◌≡◌, ℕ, length}
use Rattle.rng_deriv_table.specs.plain.AskedFor.{IsOwn}
use Rattle.rng_deriv_table.proofs.GrammarUses.{AreBodiesOwn}
use Rattle.rng_deriv_table.proofs.uses.add_bodies.Given as goal

abbrev pub invariant-bodies : goal.invariant-bodies
invariant-bodies l = record {
  long : length l.uses.items ≡ length l.fn.uses.items;
  stays : (k : ℕ) → IsOwn l.fn.uses.items k → IsOwn l.uses.items k;
  bodies : AreBodiesOwn l.grammar l.uses.items l.number;
}
