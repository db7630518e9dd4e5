use Rattle.std.proofs.Common.{◌≡◌, map, drop}
use Rattle.rng_model.specs.names.Names.{class_list, some_of}
use Rattle.rng_model.specs.simple.Leaves.{class_depth}
use Rattle.rng_model.specs.names.NameViews.{class_of}
use Rattle.rng_simple.specs.plain.InTwos.{nested}
use Rattle.rng_simple.specs.plain.DepthWith.{cut_off}
use Rattle.rng_simple.specs.plain.MemberDepths.{nested_class_depth}
use Rattle.rng_simple.proofs.graph.depth.+classes.Given as goal

abbrev pub invariant-choice_depth-loop-member : goal.invariant-choice_depth-loop-member
invariant-choice_depth-loop-member l =
    nested_class_depth l.depth (class_list (map class_of (drop l.member-index l.rest))) ≡ cut_off (class_depth (nested (some_of (map class_of l.members))))
