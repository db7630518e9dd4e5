use Rattle.std.proofs.Common.{◌≡◌, length, take}
use Rattle.rng_labels.specs.plain.Queues.{Adds}
use Rattle.rng_rules.specs.plain.NamesMeetReach.{IsMarked}
use Rattle.rng_rules.proofs.names_meet_reach.add.Given as goal

abbrev pub invariant-loop-k : goal.invariant-loop-k
invariant-loop-k l = record {
  marked : IsMarked l.round l.marks.items l.rows.items;
  long : length l.marks.items ≡ length l.fn.marks.items;
  adds : Adds l.fn.rows.items (take l.k-index l.numbers) l.rows.items;
}
