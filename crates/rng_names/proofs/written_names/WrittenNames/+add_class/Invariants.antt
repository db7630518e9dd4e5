use Rattle.std.proofs.Common.{map, Some}
use Rattle.rng_model.specs.names.NameViews.{class_of}
use Rattle.rng_names.specs.plain.Regions.{HasBegun, sorted_in}
use Rattle.rng_names.specs.plain.WrittenNames.{written_in}
use Rattle.rng_names.proofs.CollectedNames.{AreAdded}
use Rattle.rng_names.proofs.Regions.{AreParts}
use Rattle.rng_names.proofs.written_names.WrittenNames.+add_class.Given as goal

-- what is written in the members so far is collected
abbrev pub invariant-members : goal.invariant-members
invariant-members l =
    AreAdded (written_in l.fn.self) (written_in l.self) (map (λ c. Some (class_of c)) l.member-items) l.member-index
    × (HasBegun (sorted_in l.fn.self.names) l.region
    → AreParts l.region (sorted_in l.fn.self.names) (sorted_in l.self.names) (map (λ c. Some (class_of c)) l.member-items) l.member-index)
