use Rattle.std.proofs.Common.{◌≡◌, drop}
use Rattle.rng_simple.specs.plain.DepthWith.{nested_depth}
use Rattle.rng_simple.specs.plain.MemberDepths.{members_depth}
use Rattle.rng_simple.proofs.graph.depth.members_depth.Given as goal

abbrev pub invariant-loop-member : goal.invariant-loop-member
invariant-loop-member l = nested_depth l.depth (drop l.member-index l.rest) ≡ members_depth l.depths
