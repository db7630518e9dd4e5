use Rattle.std.proofs.Common.{[], ◌∷◌, ◌++◌, sym, ap, ◌∙◌}
use Rattle.rnc_model.specs.tokens.Tokens.{word_kind}
use Rattle.rnc_text.specs.plain.CutSteps.{front, star_at}
use Rattle.rnc_text.specs.plain.Cursors.{remaining}
use Rattle.rnc_model.specs.declared.character.Character.TheVariants.{Ordinary}
use Rattle.rnc_text.specs.declared.scanning.Class.TheVariants as classes
use Rattle.rnc_model.specs.declared.token.TokenKind.TheVariants as kinds
use Rattle.rnc_text.proofs.ScanResults.{colon_past, local_found, local_none, finds_token, finds_at, token_told}
use Rattle.rnc_text.proofs.scanning.qualified.Goals as goal

pub text_to-requires : goal.text_to-requires
text_to-requires c =
    record {
      taken = c.requires.name.taken ++ Ordinary 0x3A ∷ Ordinary 0x2A ∷ [];
      past = colon_past c.args.from c.args.end c.args.local c.requires.name.taken c.requires.name.past c.requires.colon c.in-Some.after
          (Ordinary 0x2A ∷ []) c.in-Some.ensures.1;
    }

pub returns-in-Some : goal.returns-in-Some
returns-in-Some c = λ name p.
    let all = name ++ Ordinary 0x3A ∷ Ordinary 0x2A ∷ [] in
    let past = colon_past c.args.from c.args.end c.args.local name p c.requires.colon c.in-Some.after (Ordinary 0x2A ∷ []) c.in-Some.ensures.1 in
    finds_token c.args.from c.in-Some.after _ _ kinds.NsName all all
    (ap (star_at name (remaining c.args.end) (remaining c.args.local)) c.in-Some.ensures.0) past (token_told _ _ _ (c.text_to.ensures all past))

pub text_to-requires-then-begins_ncname : goal.text_to-requires-then-begins_ncname
text_to-requires-then-begins_ncname c =
    record {
      taken = c.requires.name.taken ++ Ordinary 0x3A ∷ front classes.Ncname (remaining c.args.local);
      past = colon_past c.args.from c.args.end c.args.local c.requires.name.taken c.requires.name.past c.requires.colon _
          (front classes.Ncname (remaining c.args.local)) c.past-after.ensures.past;
    }

pub returns-then-begins_ncname : goal.returns-then-begins_ncname
returns-then-begins_ncname c = λ name p.
    let all = name ++ Ordinary 0x3A ∷ front classes.Ncname (remaining c.args.local) in
    let past =
    colon_past c.args.from c.args.end c.args.local name p c.requires.colon c.past-after.result
    (front classes.Ncname (remaining c.args.local)) c.past-after.ensures.past in
    finds_token c.args.from c.past-after.result _ _ kinds.CName all all
    (local_found name _ _ _ c.in_default.ensures (sym c.begins_ncname.ensures ∙ c.if-begins_ncname.true) c.past-after.ensures.rest) past
    (token_told kinds.CName _ all (c.text_to-then-begins_ncname.ensures all past))

pub returns : goal.returns
returns c = λ name p.
    finds_at _ _ _ _ _ c.word.ensures.end
    (finds_token c.args.from c.args.end _ _ (word_kind name) name name
    (local_none name (remaining c.args.end) (remaining c.args.local) c.in_default.ensures (sym c.begins_ncname.ensures ∙ c.if-begins_ncname.false)) p
    (c.word.ensures.part name p))
