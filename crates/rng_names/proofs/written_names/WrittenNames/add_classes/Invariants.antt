use Rattle.std.proofs.Common.{map}
use Rattle.rng_names.specs.views.GrammarClasses.{seen_class}
use Rattle.rng_names.specs.plain.Regions.{HasBegun, sorted_in}
use Rattle.rng_names.specs.plain.WrittenNames.{written_in}
use Rattle.rng_names.proofs.CollectedNames.{AreAdded}
use Rattle.rng_names.proofs.Regions.{AreParts}
use Rattle.rng_names.proofs.written_names.WrittenNames.add_classes.Given as goal

-- what is written in the classes so far is collected
abbrev pub invariant-classes : goal.invariant-classes
invariant-classes l =
    AreAdded (written_in l.fn.self) (written_in l.self) (map seen_class l.classes) l.class-index
    × (HasBegun (sorted_in l.fn.self.names) 0
    → AreParts 0 (sorted_in l.fn.self.names) (sorted_in l.self.names) (map seen_class l.classes) l.class-index)
