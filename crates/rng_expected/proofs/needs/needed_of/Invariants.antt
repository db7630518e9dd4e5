use Rattle.std.proofs.Common.{map, take}
use Rattle.rng_model.specs.names.NameViews.{class_of, name_of}
use Rattle.rng_expected.specs.plain.TagLeaves.{AreNeeded}
use Rattle.rng_expected.proofs.needs.needed_of.Given as goal

abbrev pub invariant-classes : goal.invariant-classes
invariant-classes l =
    AreNeeded l.grammar l.table l.bodies (map (λ c. class_of c.now) (take l.class-index l.classes)) (map (λ n. name_of n.now) l.needed.items)
