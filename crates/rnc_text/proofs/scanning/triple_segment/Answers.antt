use Rattle.std.proofs.Common.{[], ◌∷◌, ◌++◌}
use Rattle.rnc_model.specs.tokens.Tokens.{three}
use Rattle.rnc_model.specs.declared.character.Character.TheVariants.{Ordinary}
use Rattle.rnc_model.specs.declared.token.TokenKind.TheVariants as kinds
use Rattle.rnc_text.proofs.Cursors.{past_then}
use Rattle.rnc_text.proofs.ScanResults.{triple_no_second, triple_no_third, triple_no_end, triple_some, finds_token, token_told}
use Rattle.rnc_text.proofs.scanning.triple_segment.Goals as goal

pub returns-in_err-third : goal.returns-in_err-third
returns-in_err-third c = λ from p. rw c.from_residual.ensures (triple_no_second _ _ c.in_err-third.ensures)

pub returns-in_err-content : goal.returns-in_err-content
returns-in_err-content c = λ from p. rw c.from_residual-in_err-content.ensures (triple_no_third _ _ _ c.in_ok-third.ensures.0 c.in_err-content.ensures)

pub returns-in_err-end : goal.returns-in_err-end
returns-in_err-end c =
    λ from p. rw c.from_residual-in_err-end.ensures (triple_no_end _ _ _ _ c.in_ok-third.ensures.0 c.in_ok-content.ensures.0 c.in_err-end.ensures)

pub text_to-requires : goal.text_to-requires
text_to-requires c = record { taken = c.in_ok-end.ensures.content; past = c.in_ok-end.ensures.past }

pub returns : goal.returns
returns c = λ from p.
    let f = c.in_ok-end.ensures in
    let q = Ordinary c.args.quote in
    let end = past_then c.in_ok-content.content _ _ f.content (three c.args.quote []) f.past f.quotes in
    finds_token from c.in_ok-end.after _ _ kinds.TripleSegment f.content (three c.args.quote (f.content ++ three c.args.quote []))
    (triple_some _ _ _ _ f.content _ c.in_ok-third.ensures.0 c.in_ok-content.ensures.0 f.is)
    (past_then from c.args.second _ (q ∷ []) _ p
    (past_then c.args.second c.in_ok-third.third _ (q ∷ []) _ c.in_ok-third.ensures.1
    (past_then c.in_ok-third.third c.in_ok-content.content _ (q ∷ []) _ c.in_ok-content.ensures.1 end)))
    (token_told _ _ _ (c.text_to.ensures f.content f.past))
