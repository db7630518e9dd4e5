use Rattle.std.proofs.Common.{◌≡◌, map, take}
use Rattle.rng_rules.specs.views.NamesMeetLabels.{label_of, ready_label_of}
use Rattle.rng_rules.proofs.names_meet_labels.ready_labels.Given as goal

-- the labels so far are there
abbrev pub invariant-loop-label : goal.invariant-loop-label
invariant-loop-label l = map ready_label_of l.all.items ≡ take l.label-index (map label_of l.labels)
