use Rattle.std.proofs.Common.{◌≡◌, ℕ, List, true}
use Rattle.rng_model.specs.names.NameViews.{class_of}
use Rattle.rng_names.specs.views.Namespaces.{has_ns}
use Rattle.rng_names.proofs.CoveredNames.{CoversFirst}
use Rattle.rng_names.proofs.namespaces.Namespaces.+add.Given as goal

-- none is lost, and the names of the members so far are covered
abbrev pub invariant-members : goal.invariant-members
invariant-members l = record {
  kept : (u : List ℕ) → has_ns l.fn.self u ≡ true → has_ns l.self u ≡ true;
  covers : CoversFirst class_of l.member-items l.self l.member-index;
}
