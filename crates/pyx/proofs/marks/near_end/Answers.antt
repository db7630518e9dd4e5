use Rattle.std.proofs.Common.{arith}
use Rattle.std.proofs.lemmas.Bool.{leb-true}
use Rattle.pyx.proofs.Lines.ByteMasks.{first_there, none_below}
use Rattle.pyx.proofs.marks.near_end.Goals as goal

pub returns-then-end-lt-BLOCK-clause-end : goal.returns-then-end-lt-BLOCK-clause-end
returns-then-end-lt-BLOCK-clause-end c =
    let bytes = c.args.bytes.now in
    let from = c.ends.from in
    let end = c.lowest-end.result in (
      record {
        low = omega arith;
        high = omega (arith, c.if-end-lt-BLOCK.true, c.ends-test.true, c.min-near.ensures);
        before = none_below 10 bytes from _ end (omega (arith, c.if-end-lt-BLOCK.true)) c.mask_of.ensures c.lowest-end.ensures.below c.ends.invariant.end;
      },
      first_there 10 bytes from _ end (omega (arith, c.if-end-lt-BLOCK.true)) c.mask_of.ensures c.lowest-end.ensures.set,
    )

pub returns-then-end-lt-BLOCK-clause-literal : goal.returns-then-end-lt-BLOCK-clause-literal
returns-then-end-lt-BLOCK-clause-literal c few =
    none_below 92 c.args.bytes.now c.ends.from _ c.lowest-end.result (omega (arith, c.if-end-lt-BLOCK.true)) c.mask_of-in-ends.ensures
    (λ k l. c.lowest-escape.ensures.below k (omega (arith, l, leb-true _ _ few))) c.ends.invariant.literal

pub ends-preserved : goal.ends-preserved
ends-preserved c = record {
  end = none_below 10 c.args.bytes.now c.ends.from _ 16 (omega arith) c.mask_of.ensures
      (λ k l. c.lowest-end.ensures.below k (omega (arith, l, c.if-end-lt-BLOCK.false))) c.ends.invariant.end;
  literal = none_below 92 c.args.bytes.now c.ends.from _ 16 (omega arith) c.mask_of-in-ends.ensures
      (λ k l. c.lowest-escape.ensures.below k (omega (arith, l, c.if-escape-lt-BLOCK.false))) c.ends.invariant.literal;
  near = omega (arith, c.ends-test.true, c.min-near.ensures);
}
