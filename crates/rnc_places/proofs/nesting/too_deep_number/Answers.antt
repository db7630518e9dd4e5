use Rattle.std.proofs.Common.{◌+◌, List, suc, arith, subst, sym}
use Rattle.rnc_model.specs.grammar.Sentence.{nesting_limit, NestsWithin}
use Rattle.rnc_model.specs.loading.FaultPlaces.{IsTooDeepAt}
use Rattle.rnc_model.specs.tokens.CutTokens.{tokens_of}
use Rattle.rnc_model.specs.tokens.Cut.{Lexeme, lexemes}
use Rattle.rnc_syntax.proofs.Lexemes.{all_lexemes}
use Rattle.rnc_syntax.proofs.NestingSteps.{began, first_back, first_here, keeps_back, stays_few}
use Rattle.rnc_places.proofs.NestingNumber.{leads_from}
use Rattle.rnc_places.proofs.nesting.too_deep_number.Goals as goal

pub loop-index-init : goal.loop-index-init
loop-index-init c = let e = sym (all_lexemes c.args.tokens.now) in record {
  keeps = λ w. subst (NestsWithin nesting_limit) e (began _ w);
  leads = λ k h. subst (λ (ts : List Lexeme). IsTooDeepAt ts (0 + k)) e (leads_from _ k h);
  small = omega arith;
  opened = omega arith;
  closed = omega arith;
}

pub returns-then-saturating_sub-gt-NESTING_LIMIT : goal.returns-then-saturating_sub-gt-NESTING_LIMIT
returns-then-saturating_sub-gt-NESTING_LIMIT c = λ broken.
    c.loop-index.invariant.leads 1 (first_here _ _ _ c.loop-index-test.true _ _ _ _ _ _ c.opens.ensures c.closes.ensures c.from-opened.ensures
    c.from-closed.ensures c.loop-index.invariant.small (omega (arith, c.if-saturating_sub-gt-NESTING_LIMIT.true, c.saturating_sub.ensures)))

pub loop-index-preserved : goal.loop-index-preserved
loop-index-preserved c = record {
  keeps = λ w. c.loop-index.invariant.keeps (keeps_back _ _ _ c.loop-index-test.true _ _ _ _ _ _ c.opens.ensures c.closes.ensures c.from-opened.ensures
      c.from-closed.ensures c.loop-index.invariant.small w);
  leads = λ k h. subst (IsTooDeepAt (lexemes (tokens_of c.args.tokens.now))) (omega arith) (c.loop-index.invariant.leads (suc k) (first_back _ _ _
      c.loop-index-test.true _ _ _ _ _ _ c.opens.ensures c.closes.ensures c.from-opened.ensures c.from-closed.ensures k c.loop-index.invariant.small h));
  small = omega (arith, c.if-saturating_sub-gt-NESTING_LIMIT.false, c.saturating_sub.ensures);
  opened = stays_few _ _ _ _ c.from-opened.ensures c.loop-index.invariant.opened;
  closed = stays_few _ _ _ _ c.from-closed.ensures c.loop-index.invariant.closed;
}
