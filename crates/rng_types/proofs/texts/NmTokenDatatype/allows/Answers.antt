use Rattle.std.proofs.Common.{ap, ◌∙◌, refl}
use Rattle.rng_model.specs.datatypes.Facets.{is_within}
use Rattle.rng_model.specs.datatypes.Datatypes.{is_nmtoken}
use Rattle.rng_types.specs.views.View.{lengths_of}
use Rattle.rng_types.proofs.TextValues.{word_passes, word_fails, no_word, nmtoken_space}
use Rattle.rng_types.proofs.WordsOfTexts.{nmtoken-word, word_allowed}
use Rattle.rng_types.proofs.texts.NmTokenDatatype.allows.Goals as goal

pub returns-then-is_nmtoken : goal.returns-then-is_nmtoken
returns-then-is_nmtoken c =
    let l = lengths_of c.args.self.now.lengths in
    word_passes is_nmtoken l c.args.text.now c.in-Some-only_piece.token.now _ _ c.in-Some-only_piece.ensures c.is_nmtoken.ensures c.if-is_nmtoken.true
    (c.allow-then-is_nmtoken.ensures ∙ ap (is_within l) c.char_count.ensures)

pub returns-else-is_nmtoken : goal.returns-else-is_nmtoken
returns-else-is_nmtoken c =
    let l = lengths_of c.args.self.now.lengths in
    word_fails is_nmtoken l c.args.text.now c.in-Some-only_piece.token.now _ c.in-Some-only_piece.ensures c.is_nmtoken.ensures c.if-is_nmtoken.false

pub returns-in-None : goal.returns-in-None
returns-in-None c = no_word is_nmtoken (lengths_of c.args.self.now.lengths) c.args.text.now refl nmtoken_space c.utf8.text c.in-None.ensures

pub returns-in-Some : goal.returns-in-Some
returns-in-Some c =
    let w = c.in-Some.word.now in
    c.allow.ensures
    ∙ word_allowed is_nmtoken (lengths_of c.args.self.now.lengths) c.args.text.now w c.in-Some.ensures (nmtoken-word w c.in-Some.ensures.some c.in-Some.ensures.bytes)
