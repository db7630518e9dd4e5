use Rattle.std.proofs.Common.{◌≡◌, ap, sym, ◌∙◌, refl, true}
use Rattle.rng_model.specs.names.Names.{is_ncname}
use Rattle.rng_model.specs.datatypes.Facets.{is_within}
use Rattle.rng_types.specs.views.View.{lengths_of}
use Rattle.rng_types.proofs.TextValues.{word_passes, word_fails, no_word, ncname_space}
use Rattle.rng_types.specs.plain.Words.{starts_name}
use Rattle.rng_types.proofs.WordsOfTexts.{ncname-word, word_allowed}
use Rattle.rng_types.proofs.texts.NcNameDatatype.allows.Goals as goal

pub returns-then-is_ncname : goal.returns-then-is_ncname
returns-then-is_ncname c =
    let l = lengths_of c.args.self.now.lengths in
    word_passes is_ncname l c.args.text.now c.in-Some-only_piece.name.now _ _ c.in-Some-only_piece.ensures c.is_ncname.ensures c.if-is_ncname.true
    (c.allow-then-is_ncname.ensures ∙ ap (is_within l) c.char_count.ensures)

pub returns-else-is_ncname : goal.returns-else-is_ncname
returns-else-is_ncname c =
    let l = lengths_of c.args.self.now.lengths in
    word_fails is_ncname l c.args.text.now c.in-Some-only_piece.name.now _ c.in-Some-only_piece.ensures c.is_ncname.ensures c.if-is_ncname.false

pub returns-in-None : goal.returns-in-None
returns-in-None c = no_word is_ncname (lengths_of c.args.self.now.lengths) c.args.text.now refl ncname_space c.utf8.text c.in-None.ensures

pub returns : goal.returns
returns c =
    let w = c.in-Some.word.now in
    let starts : starts_name w ≡ true = sym c.starts_name.ensures ∙ c.if-starts_name.true in
    c.allow.ensures ∙ word_allowed is_ncname (lengths_of c.args.self.now.lengths) c.args.text.now w c.in-Some.ensures (ncname-word w starts c.in-Some.ensures.bytes)
