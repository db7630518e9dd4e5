use Rattle.std.proofs.Common.{◌≡◌, ◌↔◌, ◌<◌, ℕ, Some, Contains, map}
use Rattle.rng_model.specs.declared.name.NameClass.{NameClass}
use Rattle.rng_rules.specs.views.NamesMeetLabels.{judged_class, label_of}
use Rattle.rng_rules.proofs.names_meet_labels.labels.Given as goal

abbrev pub invariant-loop-row : goal.invariant-loop-row
invariant-loop-row l = (row : ℕ) (c : NameClass) → Contains (map label_of l.labels.items) (row, c)
    ↔ ((row < l.row) × (judged_class l.rows.of l.rows.grammar.now l.under.items row ≡ Some c))
