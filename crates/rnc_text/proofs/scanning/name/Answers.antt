use Rattle.rnc_model.specs.tokens.Tokens.{word_kind}
use Rattle.rnc_text.specs.plain.CutSteps.{front}
use Rattle.rnc_text.specs.plain.Cursors.{remaining}
use Rattle.rnc_text.specs.declared.scanning.Class.TheVariants as classes
use Rattle.rnc_text.proofs.ScanResults.{name_colon, name_word, finds_token, finds_at, finds_same}
use Rattle.rnc_text.proofs.scanning.name.Goals as goal

pub returns-in-Some : goal.returns-in-Some
returns-in-Some c = finds_same _ _ _ _ _ (name_colon _ _ _ c.past-end.ensures.rest c.in-Some.ensures.0) (c.qualified.ensures _ c.past-end.ensures.past)

pub returns-in-None : goal.returns-in-None
returns-in-None c =
    let name = front classes.Ncname (remaining c.args.from) in
    finds_at _ _ _ _ _ c.word.ensures.end
    (finds_token c.args.from c.past-end.result _ _ (word_kind name) name name (name_word _ _ c.past-end.ensures.rest c.in-None.ensures) c.past-end.ensures.past
    (c.word.ensures.part name c.past-end.ensures.past))
