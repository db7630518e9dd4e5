-- Names and words of ASCII.
use Rattle.std.proofs.Common.{◌≡◌, ◌==◌, ℕ, List, [], ◌∷◌, length, true, not, ◌&&◌, is_some, refl, sym, ap, ◌∙◌, true≢false, one-add}
use Rattle.std.proofs.Common.{rules, tests, arith}
use Rattle.std.specs.List.{list_all, position_or_len}
use Rattle.std.specs.Str.{chars}
use Rattle.std.proofs.lemmas.Bool.{and_parts, and_from, not-true}
use Rattle.rng_model.specs.names.Names.{is_name_start, is_name_char, is_colon, is_ncname}
use Rattle.rng_model.specs.datatypes.Texts.{collapse}
use Rattle.rng_model.specs.datatypes.Facets.{Lengths, fits, is_within}
use Rattle.rng_model.specs.datatypes.Datatypes.{is_nmtoken}
use Rattle.rng_model.specs.xsd.Names.{is_name, is_qname}
use Rattle.rng_model.specs.xsd.Types.{xsd_word}
use Rattle.rng_types.specs.plain.Words.{IsWordOf, is_word_byte, starts_name}
use Rattle.rng_types.proofs.TextValues.{is_some-text_if}
use Rattle.rng_types.proofs.WordsOfTexts.{chars-word, ncname-word, nmtoken-word}
use Rattle.xsd_types.specs.declared.words.WordKind.{WordKind}
use Rattle.xsd_types.specs.views.View.{word_test}
use Rattle.xsd_types.proofs.NameParts.{qname-one}
use Rattle.xsd_types.proofs.SpacedWords.{is_good}

pub ncname-ascii : (s : List ℕ) → (starts_name s && list_all is_word_byte s) ≡ true → is_ncname (chars s) ≡ true
ncname-ascii s e =
    let both = and_parts (starts_name s) (list_all is_word_byte s) e in ap is_ncname (chars-word s both.1) ∙ ncname-word s both.0 both.1

pub nmtoken-ascii : (s : List ℕ) → (not (length s == 0) && list_all is_word_byte s) ≡ true → is_nmtoken (chars s) ≡ true
nmtoken-ascii s e =
    let both = and_parts (not (length s == 0)) (list_all is_word_byte s) e in
    ap is_nmtoken (chars-word s both.1) ∙ nmtoken-word s (not-true (length s == 0) both.0) both.1

-- an NCName begins as a Name does
starts : (b : ℕ) (w : List ℕ) → is_ncname (b ∷ w) ≡ true → is_name_start b ≡ true
starts b w e = (and_parts (is_name_start b) (not (is_colon b)) (and_parts _ (list_all (λ d. is_name_char d && not (is_colon d)) w) e).0).0

name_by : (w : List ℕ) → starts_name w ≡ true → list_all is_word_byte w ≡ true → is_name w ≡ true
name_by [] s e = absurd (true≢false (sym s))
name_by (b ∷ w) s e =
    let more : list_all is_name_char (b ∷ w) ≡ true = nmtoken-word (b ∷ w) (search rules) e in
    and_from _ _ (starts b w (ncname-word (b ∷ w) s e)) (and_parts (is_name_char b) (list_all is_name_char w) more).1

pub name_ascii : (w : List ℕ) → starts_name w ≡ true → list_all is_word_byte w ≡ true → is_name (chars w) ≡ true
name_ascii w s e = ap is_name (chars-word w e) ∙ name_by w s e

no_colon : (b : ℕ) → is_word_byte b ≡ true → not (is_colon b) ≡ true
no_colon b e = search (rules, tests, arith)

no_colons : (w : List ℕ) → list_all is_word_byte w ≡ true → position_or_len is_colon w ≡ length w
no_colons [] e = refl
no_colons (b ∷ w) e =
    let both = and_parts (is_word_byte b) (list_all is_word_byte w) e in
    rw (no_colon b both.0) (rw (no_colons w both.1, one-add) refl)

pub qname_ascii : (w : List ℕ) → starts_name w ≡ true → list_all is_word_byte w ≡ true → is_qname w ≡ true
qname_ascii w s e = qname-one w (no_colons w e) ∙ ap is_ncname (chars-word w e) ∙ ncname-word w s e

-- what is allowed of the texts that collapse to a word, by its bytes
pub word-ascii : (k : WordKind) (l : Lengths) (s w : List ℕ) → IsWordOf s w → word_test k w ≡ true
    → is_within l (length w) ≡ is_some (xsd_word (word_test k) l s)
word-ascii k l s w word passes =
    sym (
    is_some-text_if (is_good k l (collapse s)) (collapse s)
    ∙ ap (is_good k l) word.is
    ∙ ap (λ b. b && fits l w) passes
    ∙ ap (λ t. is_within l (length t)) (chars-word w word.bytes)
    )
