use Rattle.std.proofs.Common.{get_or, inl, inr, refl, subst, sym, ◌∙◌}
use Rattle.std.proofs.lemmas.List.{take_all}
use Rattle.std.proofs.lemmas.List.Elements.{Contains-get_or}
use Rattle.rng_deriv_table.specs.views.Choices.{IsAllowed}
use Rattle.rng_deriv_table.specs.views.Trees.{tree_of}
use Rattle.rng_deriv_table.proofs.OnlyMember.{StandsAlone, alone_more, alone_other, is_reduced, number_is}
use Rattle.rng_deriv_table.proofs.pattern_table.PatternTable.only_member.Goals as goal
use Rattle.rng_deriv_table.proofs.pattern_table.PatternTable.only_member.Goals.{then-eq-via-then-eq, then-eq-via-else-eq+then-not-is_allowed}

pub loop-member-preserved-then-eq : goal.loop-member-preserved-then-eq
loop-member-preserved-then-eq c =
    let ms = c.args.members.now in
    let i = c.loop-member.member-index in
    record {
      member = c.loop-member.invariant.member;
      allowed = c.loop-member.invariant.allowed;
      alone = alone_more c.args.self.now ms i (record { 0 = 0 }) c.loop-member.only c.loop-member-test.true c.loop-member.invariant.alone
          (λ t. elim c.then-eq.branch [
            | then-eq-via-then-eq w ↦ inl (number_is (get_or ms i (record { 0 = 0 })) c.loop-member.only (sym c.eq.ensures ∙ w.if-eq.true))
            | then-eq-via-else-eq+then-not-is_allowed w ↦ inr (w.if-not-is_allowed.ensures t)
          ]);
    }

pub loop-member-preserved : goal.loop-member-preserved
loop-member-preserved c =
    let ns = c.args.self.now in
    let ms = c.args.members.now in
    let i = c.loop-member.member-index in
    let member = get_or ms i (record { 0 = 0 }) in
    record {
      member = Contains-get_or ms i (record { 0 = 0 }) c.loop-member-test.true;
      allowed = λ t. c.if-not-is_allowed.ensures t;
      alone = alone_more ns ms i (record { 0 = 0 }) member c.loop-member-test.true
          (alone_other ns _ c.loop-member.only member c.loop-member.invariant.alone
          (λ t. subst (λ b. IsAllowed b (tree_of t ns c.loop-member.only.0)) c.if-allowed.false (c.loop-member.invariant.allowed t)))
          (λ t. inl refl);
    }

pub returns : goal.returns
returns c = record {
  member = c.loop-member.invariant.member;
  others = subst (λ ms. StandsAlone c.args.self.now ms c.loop-member.only) (take_all c.loop-member.member-index c.args.members.now c.loop-member-test.false)
      c.loop-member.invariant.alone;
  reduced = λ t. is_reduced c.loop-member.allowed _ (c.loop-member.invariant.allowed t);
}
