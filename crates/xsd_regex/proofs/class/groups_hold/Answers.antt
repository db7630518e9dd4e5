use Rattle.xsd_regex.specs.declared.class.Member.TheVariants as members
use Rattle.xsd_regex.specs.views.Classes.{leaf_class}
use Rattle.xsd_regex.proofs.Groups.{stops_there, passes_mark, past_all, member_step, end_step, kept_true, other_is}
use Rattle.xsd_regex.proofs.class.groups_hold.Goals as goal
use Rattle.xsd_regex.proofs.class.groups_hold.Goals.{in-Leaf+then-is_held, in-Leaf+else-is_held, in-End+else-is_held-negated}

pub returns-then-is_held-negated : goal.returns-then-is_held-negated
returns-then-is_held-negated c =
    stops_there c.args.members.now c.loop-member.member-index _ c.in-End.negated _ _ c.args.c c.loop-member-test.true c.in-End.is
    c.if-is_held-negated.true c.loop-member.invariant

pub loop-member-preserved : goal.loop-member-preserved
loop-member-preserved c =
    elim c.match-member.branch [
      | in-Leaf+then-is_held w ↦
          passes_mark c.args.members.now c.loop-member.member-index _ (members.Leaf w.in-Leaf.leaf) c.loop-member.is_held c.loop-member.is_subtracted
          c.match-member.is_held c.match-member.is_subtracted c.args.c c.loop-member-test.true w.in-Leaf.is
          (λ rest. member_step c.loop-member.is_held c.match-member.is_held c.loop-member.is_subtracted c.match-member.is_subtracted
          (leaf_class w.in-Leaf.leaf) c.args.c rest (kept_true _ _ _ w.is_held-is w.if-is_held.true) w.is_subtracted-is) c.loop-member.invariant
      | in-Leaf+else-is_held w ↦
          passes_mark c.args.members.now c.loop-member.member-index _ (members.Leaf w.in-Leaf.leaf) c.loop-member.is_held c.loop-member.is_subtracted
          c.match-member.is_held c.match-member.is_subtracted c.args.c c.loop-member-test.true w.in-Leaf.is
          (λ rest. member_step c.loop-member.is_held c.match-member.is_held c.loop-member.is_subtracted c.match-member.is_subtracted
          (leaf_class w.in-Leaf.leaf) c.args.c rest (other_is _ _ _ _ w.is_held-is w.holds-is_held.ensures w.if-is_held.false) w.is_subtracted-is)
          c.loop-member.invariant
      | in-End+else-is_held-negated w ↦
          passes_mark c.args.members.now c.loop-member.member-index _ (members.End w.in-End.negated) c.loop-member.is_held c.loop-member.is_subtracted
          c.match-member.is_held c.match-member.is_subtracted c.args.c c.loop-member-test.true w.in-End.is
          (λ rest. end_step c.loop-member.is_held w.in-End.negated c.match-member.is_held c.loop-member.is_subtracted c.match-member.is_subtracted
          c.args.c rest w.if-is_held-negated.false w.is_held-is w.is_subtracted-is) c.loop-member.invariant
    ]

pub returns : goal.returns
returns c = past_all c.args.members.now c.loop-member.member-index _ _ c.args.c c.loop-member-test.false c.loop-member.invariant
