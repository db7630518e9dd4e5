use Rattle.std.proofs.Common.{Contains, take}
use Rattle.rng_model.specs.simple.Table.{Table}
use Rattle.rng_deriv_table.specs.views.Choices.{IsAllowed}
use Rattle.rng_deriv_table.specs.views.Trees.{tree_of}
use Rattle.rng_deriv_table.proofs.OnlyMember.{StandsAlone}
use Rattle.rng_deriv_table.proofs.pattern_table.PatternTable.only_member.Given as goal

abbrev pub invariant-loop-member : goal.invariant-loop-member
invariant-loop-member l = record {
  member : Contains l.members l.only;
  allowed : (t : Table) → IsAllowed l.allowed (tree_of t l.self l.only.0);
  alone : StandsAlone l.self (take l.member-index l.members) l.only;
}
