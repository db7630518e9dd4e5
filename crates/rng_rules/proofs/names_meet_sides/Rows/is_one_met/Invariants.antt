use Rattle.std.proofs.Common.{All, IsFalse, take}
use Rattle.rng_rules.specs.views.NamesMeetSides.{are_marked, row_sides}
use Rattle.rng_rules.proofs.names_meet_sides.Rows.is_one_met.Given as goal

abbrev pub invariant-loop-row : goal.invariant-loop-row
invariant-loop-row l = All (λ row. IsFalse (are_marked l.marks.first.items l.marks.second.items l.round (row_sides l.self row))) (take l.row-index l.reached)
