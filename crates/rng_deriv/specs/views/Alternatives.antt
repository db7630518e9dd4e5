-- What is left, in a table of which something is known.
use Rattle.std.specs.Prelude.{ℕ, List, [], Bool, true, false}
use Rattle.rng_model.specs.simple.Tree.{Simple}
use Rattle.rng_deriv_table.specs.declared.pattern.PatternNumber.{PatternNumber}
use Rattle.rng_deriv_events.specs.declared.innermost.Innermost.{Innermost}
use Rattle.rng_reasons.specs.Reasons.{Alternatives}
use Rattle.rng_reasons.specs.declared.reasons.LeftHere.{LeftHere}

-- the alternatives; none after a call ran out of memory
abbrev pub unless_lost : Bool → List PatternNumber → List PatternNumber
unless_lost true now = []
unless_lost false now = now

-- the alternatives in place of the string since the last tag, or behind it
abbrev pub alternatives_at : Bool → Alternatives → List (Simple ℕ)
alternatives_at true left = left.in_place
alternatives_at false left = left.behind

abbrev pub numbers_at : Bool → Innermost → List PatternNumber
numbers_at true left = left.in_place.now
numbers_at false left = left.alternatives.now

abbrev pub left_here : Innermost → LeftHere
left_here left = record { behind = left.alternatives; in_place = left.in_place; has_text = left.has_text }
