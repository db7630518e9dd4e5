use Rattle.std.proofs.Common.{take}
use Rattle.rng_model.specs.names.NameViews.{name_of}
use Rattle.rng_expected.specs.plain.TagLeaves.{AllNeed}
use Rattle.rng_expected.proofs.needs.is_needed.Given as goal

abbrev pub invariant-bodies : goal.invariant-bodies
invariant-bodies l = AllNeed l.grammar l.table (name_of l.name) (take l.body-index l.bodies)
