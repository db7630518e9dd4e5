use Rattle.std.proofs.Common.{◌<◌, ◌↔◌, All, ℕ, length, take}
use Rattle.rng_model.specs.simple.Table.{Table}
use Rattle.rng_model.specs.simple.Tree.{Simple}
use Rattle.rng_deriv_table.specs.views.Choices.{IsAlternativeOf}
use Rattle.rng_deriv_table.specs.plain.Reduced.{MayBeMember}
use Rattle.rng_deriv_table.specs.views.Trees.{tree_of}
use Rattle.rng_deriv_table.proofs.pattern_table.PatternTable.alternatives.Given as goal

abbrev pub invariant-loop-member : goal.invariant-loop-member
invariant-loop-member l = record {
  inside : All (λ m. m.0 < length l.self) l.all.items;
  members : (t : Table) → All (λ m. MayBeMember (tree_of t l.self m.0)) l.all.items;
  same : (t : Table) (s : Simple ℕ) → IsAlternativeOf (tree_of t l.self) l.all.items s ↔ IsAlternativeOf (tree_of t l.self) (take l.member-index l.members) s;
}
