use Rattle.std.proofs.Common.{[], ◌∷◌}
use Rattle.rnc_model.specs.declared.character.Character.TheVariants.{Ordinary}
use Rattle.rnc_model.specs.declared.token.TokenKind.TheVariants as kinds
use Rattle.rnc_text.proofs.ScanResults.{sign_found, finds_token, token_told}
use Rattle.rnc_text.proofs.scanning.sign.Goals as goal

pub text_to-requires : goal.text_to-requires
text_to-requires c = record { taken = Ordinary c.args.first ∷ []; past = c.requires }

pub returns-in_ok-sign-in-None : goal.returns-in_ok-sign-in-None
returns-in_ok-sign-in-None c =
    let all = Ordinary c.args.first ∷ [] in
    finds_token c.args.from c.args.after _ _ (kinds.Sign c.in_ok-sign-in-None.sign) all all
    (sign_found c.args.first c.in_ok-sign-in-None.sign _ c.in-None.ensures c.in_ok-sign-in-None.ensures) c.requires
    (token_told (kinds.Sign c.in_ok-sign-in-None.sign) _ all (c.text_to.ensures all c.requires))
