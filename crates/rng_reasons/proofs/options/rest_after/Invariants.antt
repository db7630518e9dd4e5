use Rattle.std.proofs.Common.{map, take}
use Rattle.rng_model.specs.documents.EventViews.{attribute_of}
use Rattle.rng_model.specs.matching.GrammarMatching.{reading_of}
use Rattle.rng_deriv_table.specs.views.Choices.{SomeTakes}
use Rattle.rng_deriv_table.specs.views.PatternTable.{Longer}
use Rattle.rng_deriv_table.specs.views.Trees.{tree_of}
use Rattle.rng_deriv_ways.specs.views.KnownWays.{AreAllKnown}
use Rattle.rng_reasons.proofs.LeftPatterns.{IsBehind}
use Rattle.rng_reasons.proofs.options.rest_after.Given as goal

abbrev pub invariant-attrs : goal.invariant-attrs
invariant-attrs l = record {
  longer : Longer l.fn.table l.table;
  behind : IsBehind (SomeTakes (reading_of l.context.grammar.now) (tree_of l.context.grammar.now l.fn.table) l.bodies) l.context.grammar.now l.table
      (take l.attr-index (map attribute_of l.attrs)) l.left;
  known : AreAllKnown l.context.grammar.now l.context.keys.now l.table l.known;
}
