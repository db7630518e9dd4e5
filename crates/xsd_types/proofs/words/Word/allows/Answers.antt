use Rattle.std.proofs.Common.{[], ◌∷◌, ◌++◌, ap, ◌∙◌}
use Rattle.std.proofs.lemmas.Bool.{and_left}
use Rattle.rng_model.specs.datatypes.Facets.{is_within, fits}
use Rattle.rng_types.specs.views.View.{lengths_of}
use Rattle.rng_types.proofs.TextValues.{passes_and, fails_and, allows-only, allows-other}
use Rattle.xsd_types.specs.views.View.{word_test}
use Rattle.xsd_types.proofs.SpacedWords.{is_good, word_empty, word_space}
use Rattle.xsd_types.proofs.AsciiWords.{word-ascii}
use Rattle.xsd_types.proofs.words.Word.allows.Goals as goal

pub returns-then-is_word : goal.returns-then-is_word
returns-then-is_word c =
    let k = c.args.self.now.kind in
    let l = lengths_of c.args.self.now.lengths in
    let w = c.in-Some-only_piece.word.now in
    passes_and _ (word_test k w) (fits l w) _ c.is_word.ensures c.if-is_word.true (c.allow-then-is_word.ensures ∙ ap (is_within l) c.char_count.ensures)
    ∙ allows-only (is_good k l) c.args.text.now w c.in-Some-only_piece.ensures

pub returns-else-is_word : goal.returns-else-is_word
returns-else-is_word c =
    let k = c.args.self.now.kind in
    let l = lengths_of c.args.self.now.lengths in
    let w = c.in-Some-only_piece.word.now in
    fails_and _ (word_test k w) (fits l w) c.is_word.ensures c.if-is_word.false ∙ allows-only (is_good k l) c.args.text.now w c.in-Some-only_piece.ensures

pub returns-in-None : goal.returns-in-None
returns-in-None c =
    let k = c.args.self.now.kind in
    let l = lengths_of c.args.self.now.lengths in
    allows-other (is_good k l) c.args.text.now (and_left (word_test k []) (fits l []) (word_empty k))
    (λ v w utf8. and_left (word_test k (v ++ 32 ∷ w)) (fits l (v ++ 32 ∷ w)) (word_space k v w utf8)) c.utf8.text c.in-None.ensures

pub returns : goal.returns
returns c =
    let w = c.in-Some.word.now in
    c.allow.ensures
    ∙ word-ascii c.args.self.now.kind (lengths_of c.args.self.now.lengths) c.args.text.now w c.in-Some.ensures
    (c.is_ascii.ensures c.if-is_ascii.true)
