use Rattle.xsd_positions.proofs.Steps.{copied_none, copied_more}
use Rattle.xsd_positions.proofs.drafts.put_copies.Goals as goal

pub copies-init : goal.copies-init
copies-init c = copied_none _ _

pub copies-preserved : goal.copies-preserved
copies-preserved c = rw (c.in_ok-extend_from_slice.ensures.items, c.copies.invariant) (copied_more _ _ _)
