use Rattle.rnc_text.proofs.Held.{nothing_kept}
use Rattle.rnc_text.proofs.text.Text.new.Goals as goal

pub returns : goal.returns
returns c = (nothing_kept _ _ c.new.ensures.bytes c.new-2.ensures.items).0

pub invariant_of-result : goal.invariant_of-result
invariant_of-result c = (nothing_kept _ _ c.new.ensures.bytes c.new-2.ensures.items).1
