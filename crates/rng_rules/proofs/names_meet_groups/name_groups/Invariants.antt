use Rattle.std.proofs.Common.{map, take}
use Rattle.rng_rules.specs.views.NamesMeetLabels.{AreGroups, label_of, plain_name_of}
use Rattle.rng_rules.specs.plain.NamesMeetReach.{lists}
use Rattle.rng_rules.proofs.names_meet_groups.name_groups.Given as goal

abbrev pub invariant-loop-label : goal.invariant-loop-label
invariant-loop-label l = AreGroups (take l.label-index (map label_of l.labels)) (map plain_name_of l.groups.names.keys) (lists l.groups.rows.items)
