use Rattle.std.proofs.Common.{◌+◌, ◌*◌, ◌-◌, ◌≤◌, length, map, take}
use Rattle.rng_model.specs.simple.Tree.{group, s_joined}
use Rattle.rng_deriv_laws.proofs.SameWays.{choice_all}
use Rattle.rng_deriv_table.specs.views.PatternTable.{Longer}
use Rattle.rng_deriv_table.specs.views.Skips.{members_at}
use Rattle.rng_deriv_table.specs.views.Trees.{choice_over, tree_of}
use Rattle.rng_deriv_ways.specs.plain.Kinds.{connector_of, weight}
use Rattle.rng_deriv_ways.specs.views.KnownWays.{AreKnown}
use Rattle.rng_deriv_ways.specs.plain.Ways.{AreWaysOf}
use Rattle.rng_deriv_ways.proofs.ways.+ways.Given as goal

abbrev pub decreases-ways : goal.decreases-ways
decreases-ways l = 4 * weight (tree_of l.search.now.grammar.now l.table.now l.number.0) + 3

abbrev pub decreases-new_ways : goal.decreases-new_ways
decreases-new_ways l = 4 * weight (tree_of l.search.now.grammar.now l.table.now l.number.0) + 2

abbrev pub decreases-ways_of_choice : goal.decreases-ways_of_choice
decreases-ways_of_choice l = 4 * weight (choice_over (tree_of l.search.now.grammar.now l.table.now) (members_at l.table.now l.number.0))

abbrev pub decreases-ways_of_group : goal.decreases-ways_of_group
decreases-ways_of_group l =
    4 * weight (s_joined group (tree_of l.search.now.grammar.now l.table.now l.first.0) (tree_of l.search.now.grammar.now l.table.now l.second.0)) + 1

abbrev pub decreases-item_ways_of_group : goal.decreases-item_ways_of_group
decreases-item_ways_of_group l =
    4 * weight (s_joined group (tree_of l.search.now.grammar.now l.table.now l.first.0) (tree_of l.search.now.grammar.now l.table.now l.second.0))

abbrev pub decreases-ways_of_both : goal.decreases-ways_of_both
decreases-ways_of_both l =
    4 * weight (s_joined (connector_of l.sides.joint) (tree_of l.search.now.grammar.now l.table.now l.sides.first.0)
    (tree_of l.search.now.grammar.now l.table.now l.sides.second.0))

abbrev pub decreases-ways_of_copies : goal.decreases-ways_of_copies
decreases-ways_of_copies l = 4 * weight (tree_of l.search.now.grammar.now l.table.now l.number.0)

abbrev pub invariant-ways_of_choice-members : goal.invariant-ways_of_choice-members
invariant-ways_of_choice-members l = record {
  longer : Longer l.fn.table l.table;
  known : AreKnown l.search.grammar.now l.table l.search.kind l.known;
  within : l.next ≤ length (members_at l.fn.table l.fn.number.0);
  ways : AreWaysOf l.search.grammar.now l.table l.search.kind (choice_all (map (tree_of l.search.grammar.now l.fn.table) (take l.next (members_at l.fn.table
      l.fn.number.0)))) l.all.items;
}

abbrev pub decreases-ways_of_choice-members : goal.decreases-ways_of_choice-members
decreases-ways_of_choice-members l = length (members_at l.fn.table l.fn.number.0) - l.next
