use Rattle.std.proofs.Common.{◌≡◌, ◌<◌, ◌+◌, ℕ, [], slice_index_or}
use Rattle.rng_rules.specs.plain.NamesMeetReach.{lists}
use Rattle.rng_rules.specs.views.NamesMeetSearch.{IsSearch}
use Rattle.rng_rules.specs.views.NamesMeetSides.{MeetBetween}
use Rattle.rng_rules.proofs.names_meet_search.groups_meet.Given as goal

abbrev pub invariant-loop-group : goal.invariant-loop-group
invariant-loop-group l = record {
  search : IsSearch l.rows l.round l.search;
  round : l.round ≡ l.group-index + 1;
  none : (k : ℕ) → k < l.group-index → ¬ (MeetBetween l.rows.of l.rows.grammar.now (lists l.rows.above.items) (slice_index_or (lists l.groups) k [])
      (slice_index_or (lists l.groups) k []));
}
