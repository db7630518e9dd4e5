use Rattle.std.proofs.Common.{List, take}
use Rattle.std.specs.List.{Contains}
use Rattle.rng_model.specs.matching.Document.{Attribute, Item}
use Rattle.rng_model.specs.simple.Table.{Table}
use Rattle.rng_model.specs.matching.GrammarMatching.{Reading}
use Rattle.rng_deriv_table.specs.views.Choices.{SomeTakes}
use Rattle.rng_deriv_table.specs.views.Trees.{tree_of}
use Rattle.rng_deriv_table.specs.declared.pattern.PatternNumber.{PatternNumber}
use Rattle.rng_deriv_table.proofs.pattern_table.PatternTable.without_covered.Given as goal

abbrev pub invariant-loop-alternative : goal.invariant-loop-alternative
invariant-loop-alternative l = record {
  within : (m : PatternNumber) → Contains l.left.items m → Contains l.alternatives m;
  takes : (t : Table) (g : Reading) (xs : List Attribute) (is : List Item) → SomeTakes g (tree_of t l.self) (take l.alternative-index l.alternatives) xs is
      → SomeTakes g (tree_of t l.self) l.left.items xs is;
}
