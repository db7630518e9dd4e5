use Rattle.std.proofs.Common.{◌≡◌, take}
use Rattle.rng_deriv_table.specs.views.Taking.{numbers_at}
use Rattle.rng_deriv_table.proofs.grammar.numbers_at.Given as goal

abbrev pub invariant-loop-position : goal.invariant-loop-position
invariant-loop-position l = l.all.items ≡ numbers_at l.numbers (take l.position-index l.positions)
