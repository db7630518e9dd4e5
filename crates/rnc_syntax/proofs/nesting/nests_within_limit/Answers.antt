use Rattle.std.proofs.Common.{Bool, ap, arith, subst, sym}
use Rattle.rnc_model.specs.grammar.Sentence.{nesting_limit, BreaksNesting, NestsWithin}
use Rattle.rnc_syntax.proofs.Lexemes.{all_lexemes}
use Rattle.rnc_syntax.proofs.NestingSteps.{began, broken, keeps_back, breaks_back, exceeds_now, stays_few}
use Rattle.rnc_syntax.proofs.nesting.nests_within_limit.Goals as goal

pub loop-token-init : goal.loop-token-init
loop-token-init c = let e = sym (all_lexemes c.args.tokens.now) in record {
  keeps = λ w. subst (NestsWithin nesting_limit) e (began _ w);
  breaks = λ w. subst BreaksNesting e (broken _ w);
  small = omega arith;
  opened = omega arith;
  closed = omega arith;
}

pub returns-then-saturating_sub-from : goal.returns-then-saturating_sub-from
returns-then-saturating_sub-from c =
    let l = c.loop-token in
    l.invariant.breaks (breaks_back _ _ _ c.loop-token-test.true _ _ _ _ _ _ (ap (λ (x : Bool × Bool). x.0) c.bracket-opens.ensures) (ap (λ (x : Bool × Bool). x.1) c.bracket-opens.ensures) c.from-opened.ensures c.from-closed.ensures
    (exceeds_now _ _ _ (omega (arith, c.if-saturating_sub-from.true, c.from.ensures, c.saturating_sub.ensures))))

pub loop-token-preserved : goal.loop-token-preserved
loop-token-preserved c = record {
  keeps = λ w. c.loop-token.invariant.keeps (keeps_back _ _ _ c.loop-token-test.true _ _ _ _ _ _ (ap (λ (x : Bool × Bool). x.0) c.bracket-opens.ensures) (ap (λ (x : Bool × Bool). x.1) c.bracket-opens.ensures) c.from-opened.ensures
      c.from-closed.ensures c.loop-token.invariant.small w);
  breaks = λ w. c.loop-token.invariant.breaks (breaks_back _ _ _ c.loop-token-test.true _ _ _ _ _ _ (ap (λ (x : Bool × Bool). x.0) c.bracket-opens.ensures) (ap (λ (x : Bool × Bool). x.1) c.bracket-opens.ensures) c.from-opened.ensures
      c.from-closed.ensures w);
  small = omega (arith, c.if-saturating_sub-from.false, c.from.ensures, c.saturating_sub.ensures);
  opened = stays_few _ _ _ _ c.from-opened.ensures c.loop-token.invariant.opened;
  closed = stays_few _ _ _ _ c.from-closed.ensures c.loop-token.invariant.closed;
}
