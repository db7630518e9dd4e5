use Rattle.std.proofs.Common.{[], ◌∷◌, ◌++◌}
use Rattle.rnc_text.specs.plain.CutSteps.{front}
use Rattle.rnc_text.specs.plain.Cursors.{remaining}
use Rattle.rnc_model.specs.declared.character.Character.TheVariants.{Ordinary}
use Rattle.rnc_text.specs.declared.scanning.Class.TheVariants as classes
use Rattle.rnc_model.specs.declared.token.TokenKind.TheVariants as kinds
use Rattle.rnc_text.proofs.Cursors.{past_then}
use Rattle.rnc_text.proofs.ScanResults.{segment_none, segment_some, finds_token, token_told}
use Rattle.rnc_text.proofs.scanning.segment.Goals as goal

pub returns-in_err-after : goal.returns-in_err-after
returns-in_err-after c = λ from p. rw c.from_residual.ensures (segment_none _ _ _ c.past-end.ensures.rest c.in_err-after.ensures)

pub returns : goal.returns
returns c = λ from p.
    let q = Ordinary c.args.quote in
    let content = front (classes.Segment c.args.quote) (remaining c.args.content) in
    finds_token from c.in_ok-after.after _ _ kinds.Segment content (q ∷ (content ++ q ∷ []))
    (segment_some _ _ _ _ c.past-end.ensures.rest c.in_ok-after.ensures.0)
    (past_then from c.args.content _ (q ∷ []) (content ++ q ∷ []) p
    (past_then c.args.content c.past-end.result _ content (q ∷ []) c.past-end.ensures.past c.in_ok-after.ensures.1))
    (token_told _ _ _ (c.text_to.ensures content c.past-end.ensures.past))
