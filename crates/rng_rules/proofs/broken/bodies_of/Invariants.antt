use Rattle.std.proofs.Common.{◌≡◌, ◌-◌, ◌≤◌, length, map, take}
use Rattle.rng_rules.proofs.broken.bodies_of.Given as goal

abbrev pub invariant-elements : goal.invariant-elements
invariant-elements l = record {
  within : length l.bodies.items ≤ length l.grammar.elements;
  so_far : l.bodies.items ≡ map (λ e. e.1) (take (length l.bodies.items) l.grammar.elements);
}

abbrev pub decreases-elements : goal.decreases-elements
decreases-elements l = length l.grammar.elements - length l.bodies.items
