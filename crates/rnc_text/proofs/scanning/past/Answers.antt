use Rattle.std.proofs.Common.{sym, ◌∙◌}
use Rattle.rnc_text.proofs.Cursors.{past_shorter}
use Rattle.rnc_text.proofs.ScanResults.{walks_on, walks_out, walks_end}
use Rattle.rnc_text.proofs.scanning.past.Goals as goal

pub characters-init : goal.characters-init
characters-init c = c.past_ascii-to.ensures

pub returns-then-not-is_in-clause-past : goal.returns-then-not-is_in-clause-past
returns-then-not-is_in-clause-past c =
    (walks_out _ _ _ c.in-Some.next _ c.characters.invariant c.in-Some.ensures (sym c.is_in.ensures ∙ c.if-not-is_in.true)).past

pub returns-then-not-is_in-clause-rest : goal.returns-then-not-is_in-clause-rest
returns-then-not-is_in-clause-rest c =
    (walks_out _ _ _ c.in-Some.next _ c.characters.invariant c.in-Some.ensures (sym c.is_in.ensures ∙ c.if-not-is_in.true)).rest

pub characters-smaller : goal.characters-smaller
characters-smaller c = past_shorter _ _ _ c.in-Some.ensures

pub characters-preserved : goal.characters-preserved
characters-preserved c = walks_on _ _ _ _ _ c.characters.invariant c.in-Some.ensures (sym c.is_in.ensures ∙ c.if-not-is_in.false)

pub returns-clause-past : goal.returns-clause-past
returns-clause-past c = (walks_end _ _ _ c.characters.invariant c.in_default.ensures).past

pub returns-clause-rest : goal.returns-clause-rest
returns-clause-rest c = (walks_end _ _ _ c.characters.invariant c.in_default.ensures).rest
