use Rattle.xsd_positions.proofs.Steps.{at_least_put}
use Rattle.xsd_positions.proofs.drafts.put_at_least.Goals as goal

pub returns : goal.returns
returns c =
    at_least_put _ _ _ _ _ _ _ _ c.in_ok-put_copies.ensures c.in_ok-extend_from_slice.ensures.items c.in_ok-push.ensures.items
    c.in_ok-put_copies-2.ensures c.as_slice.ensures
