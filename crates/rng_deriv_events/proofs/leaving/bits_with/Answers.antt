use Rattle.std.proofs.Common.{◌∙◌, sym}
use Rattle.std.proofs.lemmas.Option.{IfSome_then}
use Rattle.rng_deriv_events.specs.views.LevelTable.{levels_in, numbers_in}
use Rattle.rng_deriv_events.specs.views.KeptLevels.{nullable_in}
use Rattle.rng_deriv_events.proofs.KeptLevels.{good_is}
use Rattle.rng_deriv_events.proofs.LevelTests.{tests_long}
use Rattle.rng_deriv_events.proofs.leaving.bits_with.Goals as goal

pub returns : goal.returns
returns c =
    let table = c.args.table.now in
    let content = c.args.content.now in
    let now = numbers_in (levels_in table) content.level.0 in
    let after = numbers_in (levels_in table) content.string.after.0 in
    IfSome_then c.either_bits.result c.either_bits.ensures (λ bits says trees all. says (nullable_in trees now) (nullable_in trees after)
    (tests_long trees now ∙ c.requires.string.1 ∙ sym (tests_long trees after))
    (good_is trees (levels_in table) content.level.0 c.level-2.result.now c.in_ok-now.now all c.level-2.ensures c.in_ok-now.was)
    (good_is trees (levels_in table) content.string.after.0 c.level.result.now c.in_ok-after.after all c.level.ensures c.in_ok-after.was))
