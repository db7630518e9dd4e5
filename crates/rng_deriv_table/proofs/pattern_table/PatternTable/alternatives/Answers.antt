use Rattle.std.proofs.Common.{◌↔◌, List, subst}
use Rattle.std.proofs.lemmas.List.{take_all}
use Rattle.rng_deriv_table.specs.views.Choices.{IsAlternativeOf}
use Rattle.rng_deriv_table.specs.views.Trees.{tree_of}
use Rattle.rng_deriv_table.specs.declared.pattern.PatternNumber.{PatternNumber}
use Rattle.rng_deriv_table.proofs.Choices.{member_more}
use Rattle.rng_deriv_table.proofs.pattern_table.PatternTable.alternatives.Goals as goal

pub loop-member-preserved : goal.loop-member-preserved
loop-member-preserved c = record {
  inside = c.in_ok-add_alternatives.ensures.inside c.loop-member.invariant.inside;
  members = λ t. c.in_ok-add_alternatives.ensures.members t (c.loop-member.invariant.members t);
  same = λ t s.
      member_more (tree_of t c.args.self.now) c.loop-member.all.items c.add_alternatives.new.all.items c.args.members.now c.loop-member.member-index _ s
      c.loop-member-test.true (c.in_ok-add_alternatives.ensures.joined t s) (c.loop-member.invariant.same t s);
}

pub returns-clause-same : goal.returns-clause-same
returns-clause-same c = λ t s.
    let Same : List PatternNumber
    → Type 0 = λ ms. IsAlternativeOf (tree_of t c.args.self.now) c.loop-member.all.items s ↔ IsAlternativeOf (tree_of t c.args.self.now) ms s in
    subst Same (take_all c.loop-member.member-index c.args.members.now c.loop-member-test.false) (c.loop-member.invariant.same t s)
