use Rattle.std.proofs.Common.{◌≡◌, ◌-◌, length, map, take}
use Rattle.rng_rules.proofs.names_meet_rows.bodies.Given as goal

abbrev pub invariant-bodies : goal.invariant-bodies
invariant-bodies l = l.rows.items ≡ take (length l.rows.items) (map (λ e. e.1.0) l.grammar.elements)

abbrev pub decreases-bodies : goal.decreases-bodies
decreases-bodies l = length l.grammar.elements - length l.rows.items
