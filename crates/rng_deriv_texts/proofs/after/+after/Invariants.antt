use Rattle.std.proofs.Common.{◌≡◌, ◌+◌, ◌↔◌, ◌<◌, [], length, map, take}
use Rattle.rng_model.specs.datatypes.Texts.{pieces}
use Rattle.rng_model.specs.matching.Document.{a_text}
use Rattle.rng_model.specs.views.PiecesView.{pieces_left}
use Rattle.rng_deriv_laws.specs.plain.Taking.{Takes}
use Rattle.rng_deriv_table.specs.views.PatternTable.{Longer}
use Rattle.rng_deriv_table.specs.views.Taking.{tree_by}
use Rattle.rng_deriv_table.specs.views.Trees.{tree_of}
use Rattle.rng_deriv_texts.specs.plain.After.{AreRests}
use Rattle.rng_deriv_texts.specs.plain.Asking.{AreTests}
use Rattle.rng_deriv_ways.specs.views.KnownWays.{AreAllKnown}
use Rattle.rng_deriv_ways.specs.plain.Kinds.{Obeys}
use Rattle.rng_model.specs.matching.GrammarMatching.{reading_of}
use Rattle.rng_deriv_ways.specs.declared.way.Place.TheVariants as places
use Rattle.rng_deriv_texts.proofs.RestsOfWays.{rank}
use Rattle.rng_deriv_texts.proofs.after.+after.Given as goal

abbrev pub decreases-after : goal.decreases-after
decreases-after l = rank l.first + 9

abbrev pub decreases-after_leaf : goal.decreases-after_leaf
decreases-after_leaf l = rank l.first + 3

abbrev pub decreases-after_ways : goal.decreases-after_ways
decreases-after_ways l = rank l.first + 8

abbrev pub decreases-after_new_ways : goal.decreases-after_new_ways
decreases-after_new_ways l = rank l.first + 6

abbrev pub decreases-after_taken_plan : goal.decreases-after_taken_plan
decreases-after_taken_plan l = rank l.first + 5

abbrev pub decreases-after_plan : goal.decreases-after_plan
decreases-after_plan l = rank l.first + 4

abbrev pub decreases-tests : goal.decreases-tests
decreases-tests l = rank l.first + 3

abbrev pub decreases-rests : goal.decreases-rests
decreases-rests l = rank l.first + 3

abbrev pub decreases-takes : goal.decreases-takes
decreases-takes l = rank l.first + 2

abbrev pub decreases-list_takes : goal.decreases-list_takes
decreases-list_takes l = 10

abbrev pub decreases-attribute_takes : goal.decreases-attribute_takes
decreases-attribute_takes l = 21

abbrev pub decreases-value_takes : goal.decreases-value_takes
decreases-value_takes l = 20

abbrev pub invariant-rests-ways : goal.invariant-rests-ways
invariant-rests-ways l = record {
  longer : Longer l.fn.table l.table;
  known : AreAllKnown l.context.grammar.now l.context.keys.now l.table l.known;
  rests : AreRests l.context.grammar.now l.fn.table l.table l.first (take l.way-index l.ways) l.rests.items;
}

abbrev pub invariant-tests-leaves : goal.invariant-tests-leaves
invariant-tests-leaves l = record {
  longer : Longer l.fn.table l.table;
  known : AreAllKnown l.context.grammar.now l.context.keys.now l.table l.known;
  count : length l.taken.items ≡ l.leaf-index;
  tests : AreTests l.context.grammar.now l.fn.table l.first l.leaves l.taken.items;
}

abbrev pub invariant-list_takes-pieces : goal.invariant-list_takes-pieces
invariant-list_takes-pieces l =
    let g = reading_of l.context.grammar.now in
    let whole = tree_by l.context.grammar.now l.fn.table l.context.numbers.now l.fn.body in record {
      longer : Longer l.fn.table l.table;
      known : AreAllKnown l.context.grammar.now l.context.keys.now l.table l.known;
      inside : l.rest.0 < length l.table;
      kept : Obeys places.List whole → Obeys places.List (tree_of l.context.grammar.now l.table l.rest.0);
      takes : Obeys places.List whole → Takes g (tree_of l.context.grammar.now l.table l.rest.0) [] (map a_text (pieces_left l.piece-iterator))
          ↔ Takes g whole [] (map a_text (pieces l.text));
    }
