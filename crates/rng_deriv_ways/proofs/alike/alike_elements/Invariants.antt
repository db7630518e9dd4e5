use Rattle.std.proofs.Common.{◌≡◌, length}
use Rattle.rng_deriv_ways.specs.plain.Alike.{AreAlike}
use Rattle.rng_deriv_ways.proofs.alike.alike_elements.Given as goal

abbrev pub invariant-elements : goal.invariant-elements
invariant-elements l = record { count : length l.all.items ≡ l.number; alike : AreAlike l.grammar l.all.items }
