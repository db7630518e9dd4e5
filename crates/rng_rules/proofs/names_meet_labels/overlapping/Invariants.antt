use Rattle.std.proofs.Common.{◌↔◌, ℕ, Contains, map, take}
use Rattle.rng_model.specs.names.Names.{Overlap}
use Rattle.rng_model.specs.names.NameViews.{class_of}
use Rattle.rng_model.specs.declared.name.NameClass.{NameClass}
use Rattle.rng_rules.specs.views.NamesMeetLabels.{ready_label_of}
use Rattle.rng_rules.proofs.names_meet_labels.overlapping.Given as goal

abbrev pub invariant-loop-label : goal.invariant-loop-label
invariant-loop-label l = (row : ℕ) → Contains l.rows.items row
    ↔ ((c : NameClass) × Contains (take l.label-index (map ready_label_of l.labels)) (row, c) × Overlap (class_of l.class) (class_of c))
