use Rattle.rnc_text.proofs.Cursors.{past_shorter}
use Rattle.rnc_text.proofs.ScanResults.{looks_none, looks_on, looks_found, looks_end}
use Rattle.rnc_text.proofs.scanning.until_three.Goals as goal

pub characters-init : goal.characters-init
characters-init c = looks_none _ _

pub returns-in-Some-behind_three : goal.returns-in-Some-behind_three
returns-in-Some-behind_three c =
    looks_found _ _ _ c.in-Some.next _ _ c.characters.invariant c.in-Some.ensures c.in-Some-behind_three.ensures.0 c.in-Some-behind_three.ensures.1

pub characters-smaller : goal.characters-smaller
characters-smaller c = past_shorter _ _ _ c.in-Some.ensures

pub characters-preserved : goal.characters-preserved
characters-preserved c = looks_on _ _ _ _ _ c.characters.invariant c.in-Some.ensures c.in_default-behind_three.ensures

pub returns : goal.returns
returns c = looks_end _ _ _ c.characters.invariant c.in_default.ensures
