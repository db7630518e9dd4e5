use Rattle.std.proofs.Common.{[], ◌∷◌, sym, ◌∙◌}
use Rattle.rnc_text.specs.plain.CutSteps.{front}
use Rattle.rnc_text.specs.plain.Cursors.{remaining}
use Rattle.rnc_model.specs.declared.character.Character.TheVariants.{Ordinary}
use Rattle.rnc_text.specs.declared.scanning.Class.TheVariants as classes
use Rattle.rnc_model.specs.declared.token.TokenKind.TheVariants as kinds
use Rattle.rnc_text.proofs.Cursors.{past_then}
use Rattle.rnc_text.proofs.ScanResults.{quoted_none, quoted_name, finds_token, token_told}
use Rattle.rnc_text.proofs.scanning.quoted_identifier.Goals as goal

pub returns-then-not-begins_ncname : goal.returns-then-not-begins_ncname
returns-then-not-begins_ncname c = λ from p. quoted_none _ (sym c.begins_ncname.ensures ∙ c.if-not-begins_ncname.true)

pub returns : goal.returns
returns c = λ from p.
    let name = front classes.Ncname (remaining c.args.name) in
    finds_token from c.past-end.result _ _ kinds.QuotedIdentifier name (Ordinary 0x5C ∷ name)
    (quoted_name _ _ (sym c.begins_ncname.ensures ∙ c.if-not-begins_ncname.false) c.past-end.ensures.rest)
    (past_then from c.args.name c.past-end.result (Ordinary 0x5C ∷ []) name p c.past-end.ensures.past)
    (token_told _ _ _ (c.text_to.ensures name c.past-end.ensures.past))
