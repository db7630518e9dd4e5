use Rattle.std.proofs.Common.{[], ◌∷◌}
use Rattle.rnc_model.specs.declared.character.Character.TheVariants.{Ordinary}
use Rattle.rnc_model.specs.declared.token.TokenKind.TheVariants as kinds
use Rattle.rnc_text.proofs.Cursors.{past_then}
use Rattle.rnc_text.proofs.ScanResults.{long_found, finds_token, token_told}
use Rattle.rnc_text.proofs.scanning.long_sign.Goals as goal

pub text_to-requires : goal.text_to-requires
text_to-requires c =
    record {
      taken = Ordinary c.args.first ∷ c.in_ok-second.second ∷ [];
      past = past_then c.args.from c.args.after c.in_ok-second.end (Ordinary c.args.first ∷ []) (c.in_ok-second.second ∷ []) c.requires c.in_ok-second.ensures;
    }

pub returns : goal.returns
returns c =
    let all = Ordinary c.args.first ∷ c.in_ok-second.second ∷ [] in
    let past =
    past_then c.args.from c.args.after c.in_ok-second.end (Ordinary c.args.first ∷ []) (c.in_ok-second.second ∷ []) c.requires c.in_ok-second.ensures in
    finds_token c.args.from c.in_ok-second.end _ _ (kinds.Sign c.in_ok-sign.sign) all all
    (long_found c.args.first c.in_ok-second.second c.in_ok-sign.sign _ _ c.in_ok-second.ensures.rest (rw c.plain.ensures at c.in_ok-sign.ensures)) past
    (token_told (kinds.Sign c.in_ok-sign.sign) _ all (c.text_to.ensures all past))
