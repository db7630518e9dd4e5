use Rattle.rng_expected.specs.plain.Leaves.{side}
use Rattle.rng_expected.proofs.Marks.{more_marks}
use Rattle.rng_expected.proofs.leaves.mark_two.Goals as goal

pub returns : goal.returns
returns c =
    more_marks c.args.marks.now.items c.mark_if.new.marks.items c.mark_if-2.new.marks.items (side c.args.marks_first c.args.first.0)
    (side c.args.marks_second c.args.second.0) c.mark_if.ensures c.mark_if-2.ensures
