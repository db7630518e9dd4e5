use Rattle.std.proofs.Common.{◌≡◌, ◌+◌, length, map, take, Contains}
use Rattle.rng_names.specs.views.PlainNames.{IsPlain}
use Rattle.rng_rules.specs.views.NamesMeetLabels.{ready_label_of}
use Rattle.rng_rules.specs.plain.NamesMeetReach.{lists}
use Rattle.rng_rules.specs.views.NamesMeetSearch.{Meeting}
use Rattle.rng_rules.specs.views.NamesMeetSides.{AreMarks}
use Rattle.rng_rules.proofs.names_meet_search.ready_meet.Given as goal

abbrev pub invariant-loop-label : goal.invariant-loop-label
invariant-loop-label l = record {
  marks : AreMarks (length l.rows.standing.items) l.round l.marks;
  round : l.round ≡ l.label-index + 1;
  none : (m : Meeting l.rows.of l.rows.grammar.now (lists l.rows.above.items) (map ready_label_of l.labels))
      → Contains (take l.label-index (map ready_label_of l.labels)) m.first → IsPlain m.first.1;
}
