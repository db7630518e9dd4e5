use Rattle.std.proofs.Common.{◌-◌, arith}
use Rattle.std.proofs.lemmas.List.{length-set}
use Rattle.rng_rules.proofs.NamesMeetHeads.{heads_more}
use Rattle.rng_rules.proofs.names_meet_heads.heads.Goals as goal

pub rows-preserved : goal.rows-preserved
rows-preserved c =
    let heads = c.rows.heads.items in
    let row = c.rows.row - 1 in
    let long = length-set heads row c.head.result in record {
      long = omega (arith, long, c.rows.invariant.long);
      within = omega (arith, long, c.rows.invariant.within);
      heads = heads_more c.args.rows.now heads row c.head.result (omega (arith, c.rows.invariant.within, c.rows-test.true))
          (λ k h w. c.rows.invariant.heads k (omega (arith, h, c.rows-test.true)) w) c.head.ensures;
    }
