use Rattle.std.proofs.Common.{arith}
use Rattle.rng_rules.proofs.NamesMeetHeads.{head_above}
use Rattle.rng_rules.proofs.names_meet_heads.head.Goals as goal

pub returns-in-Some : goal.returns-in-Some
returns-in-Some c =
    let only = c.in-Some.ensures in
    head_above c.args.rows.now c.requires.rows only
    (c.requires.after c.in-Some.above (omega (arith, only.after)) (omega (arith, only.below, c.requires.long)))
