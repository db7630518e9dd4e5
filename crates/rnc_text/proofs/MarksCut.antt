-- Marks are cut into exactly their pieces.
use Rattle.std.proofs.Common.{◌≡◌, ◌∙◌, ◌⊎◌, inl, inr, ℕ, true, false, List, [], ◌∷◌, ◌++◌, refl, sym, ap, subst, Some, None, append_assoc}
use Rattle.std.specs.Prelude.{◌||◌, not, ◌==◌}
use Rattle.std.specs.List.{list_all}
use Rattle.std.proofs.lemmas.Bool.{and_parts, or_cases, not-true}
use Rattle.std.proofs.lemmas.List.{append-nil}
use Rattle.rng_model.specs.names.Names.{is_ncname, is_xml_char}
use Rattle.rnc_model.specs.declared.character.Character.{Character}
use Rattle.rnc_model.specs.declared.character.Character.TheVariants.{LineEnd, Ordinary}
use Rattle.rnc_text.specs.declared.scanning.Class.TheVariants as classes
use Rattle.rnc_model.specs.declared.token.Sign.{Sign}
use Rattle.rnc_model.specs.declared.token.Sign.TheVariants as signs
use Rattle.rnc_model.specs.declared.token.TokenKind.TheVariants as kinds
use Rattle.rnc_model.specs.characters.Decoding.{numbers_of}
use Rattle.rnc_model.specs.tokens.Tokens.{token, word_kind, sign_of, is_quote, IsNcname}
use Rattle.rnc_model.specs.tokens.Cut.{here, next_is}
use Rattle.rnc_text.specs.plain.CutSteps.{is_in, front, after, first_of, behind, triple_at, segment_at, long_sign, piece_of}
use Rattle.rnc_text.specs.plain.Marks.{Mark, space, line_end, word, cname, ns_name, segment, sign, sign_text, ordinary, characters_of_mark, characters_of_marks}
use Rattle.rnc_text.specs.plain.Marks.{piece_of_mark, is_within, IsMark, is_open, begins_apart, MarksAreCut}
use Rattle.std.proofs.lemmas.Bool.{false≢true}
use Rattle.rnc_text.proofs.LongestPiece.{named, prefixed, no_star, quote_cases}
use Rattle.rng_model.proofs.Truths.{number_itself}
use Rattle.rnc_text.proofs.CharacterClasses.{AllIn, front_out, after_out, front_append, after_append, name_all, name_begins}
use Rattle.rnc_text.proofs.QuoteRuns.{behind_is}
use Rattle.rnc_text.proofs.ScanResults.{piece_line, piece_blank, piece_quote, name_word, local_found, segment_some, triple_no_second}
use Rattle.rnc_text.proofs.ScanResults.{triple_no_third, or_right}
use Rattle.rnc_text.proofs.OneCut.{found_next}

-- ---- what may follow any mark

record Apart (rest : List Character) : Type 0 where
  front_is : front classes.Ncname rest ≡ []
  after_is : after classes.Ncname rest ≡ rest
  no_colon : behind 0x3A rest ≡ None
  no_mark : behind 0x22 rest ≡ None
  no_apostrophe : behind 0x27 rest ≡ None
  no_choice : long_sign (Ordinary 0x7C) (first_of rest) ≡ None
  no_interleave : long_sign (Ordinary 0x26) (first_of rest) ≡ None

apart : (ms : List Mark) → begins_apart ms ≡ true → Apart (characters_of_marks ms)
unfolding front after sign_of
apart [] e = record { front_is = refl; after_is = refl; no_colon = refl; no_mark = refl; no_apostrophe = refl; no_choice = refl; no_interleave = refl }
apart (space ∷ ms) e =
    record { front_is = refl; after_is = refl; no_colon = refl; no_mark = refl; no_apostrophe = refl; no_choice = refl; no_interleave = refl }
apart (line_end ∷ ms) e =
    record { front_is = refl; after_is = refl; no_colon = refl; no_mark = refl; no_apostrophe = refl; no_choice = refl; no_interleave = refl }
apart (sign signs.Comma ∷ ms) e =
    record { front_is = refl; after_is = refl; no_colon = refl; no_mark = refl; no_apostrophe = refl; no_choice = refl; no_interleave = refl }
apart (sign signs.Plus ∷ ms) e =
    record { front_is = refl; after_is = refl; no_colon = refl; no_mark = refl; no_apostrophe = refl; no_choice = refl; no_interleave = refl }
apart (sign signs.CloseParenthesis ∷ ms) e =
    record { front_is = refl; after_is = refl; no_colon = refl; no_mark = refl; no_apostrophe = refl; no_choice = refl; no_interleave = refl }
apart (_ ∷ ms) e = absurd (false≢true e)

-- ---- names

pub numbers_ordinary : (w : List ℕ) → numbers_of (ordinary w) ≡ w
numbers_ordinary [] = refl
numbers_ordinary (c ∷ w) = ap (λ (x : List ℕ). c ∷ x) (numbers_ordinary w)

pub ncname_is : (w : List ℕ) → is_ncname w ≡ true → IsNcname (ordinary w)
ncname_is w h = ap is_ncname (numbers_ordinary w) ∙ h

-- the NCName at the front, if no more name characters follow
front_word : (w rest : List Character) → IsNcname w → front classes.Ncname rest ≡ [] → front classes.Ncname (w ++ rest) ≡ w
front_word w rest h e = front_append classes.Ncname w rest (name_all w h) ∙ ap (λ (x : List Character). w ++ x) e ∙ append-nil w

after_word : (w rest : List Character) → IsNcname w → after classes.Ncname rest ≡ rest → after classes.Ncname (w ++ rest) ≡ rest
after_word w rest h e = after_append classes.Ncname w rest (name_all w h) ∙ e

word_piece : (w rest : List Character) → IsNcname w → Apart rest → piece_of (w ++ rest) ≡ Some (token (word_kind w) w w, rest)
word_piece w rest h a =
    named w rest h
    ∙ name_word (w ++ rest) rest (sym (after_word w rest h a.after_is)) a.no_colon
    ∙ ap (λ (x : List Character). Some (token (word_kind x) x x, rest)) (front_word w rest h a.front_is)

-- after a prefix
colon_front : (rest : List Character) → front classes.Ncname (Ordinary 0x3A ∷ rest) ≡ []
colon_front rest = front_out classes.Ncname (Ordinary 0x3A) rest refl

colon_after : (rest : List Character) → after classes.Ncname (Ordinary 0x3A ∷ rest) ≡ Ordinary 0x3A ∷ rest
colon_after rest = after_out classes.Ncname (Ordinary 0x3A) rest refl

cname_piece : (p l rest : List Character) → IsNcname p → IsNcname l → Apart rest
    → piece_of (p ++ Ordinary 0x3A ∷ (l ++ rest)) ≡ Some (token kinds.CName (p ++ Ordinary 0x3A ∷ l) (p ++ Ordinary 0x3A ∷ l), rest)
cname_piece p l rest h i a =
    prefixed p (l ++ rest) h
    ∙ local_found p (Ordinary 0x3A ∷ (l ++ rest)) (l ++ rest) rest (no_star l rest i) (name_begins l rest i) (sym (after_word l rest i a.after_is))
    ∙ ap (λ (x : List Character). Some (token kinds.CName (p ++ Ordinary 0x3A ∷ x) (p ++ Ordinary 0x3A ∷ x), rest)) (front_word l rest i a.front_is)

ns_piece : (p rest : List Character) → IsNcname p
    → piece_of (p ++ Ordinary 0x3A ∷ Ordinary 0x2A ∷ rest)
    ≡ Some (token kinds.NsName (p ++ Ordinary 0x3A ∷ Ordinary 0x2A ∷ []) (p ++ Ordinary 0x3A ∷ Ordinary 0x2A ∷ []), rest)
ns_piece p rest h = prefixed p (Ordinary 0x2A ∷ rest) h

-- ---- segments

within_class : (q : ℕ) (w : List ℕ) → list_all (is_within q) w ≡ true → AllIn (classes.Segment q) (ordinary w)
within_class q [] h = refl
within_class q (c ∷ w) h =
    let p = and_parts (is_within q c) (list_all (is_within q) w) h in
    let r = and_parts (is_xml_char c) (not (c == q)) p.0 in
    rw r.1 (within_class q w p.1)

-- a quote ends the text between two quotes
quote_out : (q : ℕ) → is_in (classes.Segment q) (Ordinary q) ≡ false
quote_out q = rw (number_itself q) refl

-- no two quotes follow the first quote of a segment
no_triple : (q : ℕ) (w : List ℕ) (rest : List Character) → list_all (is_within q) w ≡ true → behind q rest ≡ None
    → triple_at q (ordinary w ++ Ordinary q ∷ rest) ≡ None
no_triple q [] rest h e = triple_no_third q (Ordinary q ∷ rest) rest (behind_is q rest) e
no_triple q (c ∷ w) rest h e =
    let p = and_parts (is_within q c) (list_all (is_within q) w) h in
    let r = and_parts (is_xml_char c) (not (c == q)) p.0 in
    triple_no_second q _ (other c (ordinary w ++ Ordinary q ∷ rest) r.1)
  where
    other : (c : ℕ) (rest : List Character) → not (c == q) ≡ true → behind q (Ordinary c ∷ rest) ≡ None
    other c rest h = rw (not-true (c == q) h) refl

segment_piece : (q : ℕ) (w : List ℕ) (rest : List Character) → is_quote q ≡ true → list_all (is_within q) w ≡ true → behind q rest ≡ None
    → piece_of (Ordinary q ∷ (ordinary w ++ Ordinary q ∷ rest)) ≡ Some (token kinds.Segment (ordinary w) (Ordinary q ∷ (ordinary w ++ Ordinary q ∷ [])), rest)
segment_piece q w rest i h e =
    let all = within_class q w h in
    let at_front =
    front_append (classes.Segment q) (ordinary w) (Ordinary q ∷ rest) all
    ∙ ap (λ (x : List Character). ordinary w ++ x) (front_out (classes.Segment q) (Ordinary q) rest (quote_out q)) ∙ append-nil (ordinary w) in
    let behind_it = after_append (classes.Segment q) (ordinary w) (Ordinary q ∷ rest) all ∙ after_out (classes.Segment q) (Ordinary q) rest (quote_out q) in
    piece_quote q _ (ordinary w ++ Ordinary q ∷ rest) refl (quote_cases q i)
    ∙ or_right _ (segment_at q (ordinary w ++ Ordinary q ∷ rest)) (no_triple q w rest h e)
    ∙ segment_some q (ordinary w ++ Ordinary q ∷ rest) (Ordinary q ∷ rest) rest (sym behind_it) (behind_is q rest)
    ∙ ap (λ (x : List Character). Some (token kinds.Segment x (Ordinary q ∷ (x ++ Ordinary q ∷ [])), rest)) at_front

-- ---- signs

bar_piece : (rest : List Character) → long_sign (Ordinary 0x7C) (first_of rest) ≡ None
    → piece_of (Ordinary 0x7C ∷ rest) ≡ Some (token (kinds.Sign signs.Bar) (Ordinary 0x7C ∷ []) (Ordinary 0x7C ∷ []), rest)
unfolding piece_of sign_of
bar_piece rest e = rw e refl

and_piece : (rest : List Character) → long_sign (Ordinary 0x26) (first_of rest) ≡ None
    → piece_of (Ordinary 0x26 ∷ rest) ≡ Some (token (kinds.Sign signs.And) (Ordinary 0x26 ∷ []) (Ordinary 0x26 ∷ []), rest)
unfolding piece_of sign_of
and_piece rest e = rw e refl

sign_piece : (s : Sign) (rest : List Character) → (is_open (sign s) ≡ true) ⊎ Apart rest
    → piece_of (ordinary (sign_text s) ++ rest) ≡ Some (piece_of_mark (sign s), rest)
unfolding piece_of sign_of
sign_piece signs.Bar rest (inl e) = absurd (false≢true e)
sign_piece signs.Bar rest (inr a) = bar_piece rest a.no_choice
sign_piece signs.And rest (inl e) = absurd (false≢true e)
sign_piece signs.And rest (inr a) = and_piece rest a.no_interleave
sign_piece _ [] a = refl
sign_piece _ (c ∷ rest) a = refl

-- ---- any mark

piece_is : (m : Mark) (rest : List Character) → IsMark m → (is_open m ≡ true) ⊎ Apart rest
    → piece_of (characters_of_mark m ++ rest) ≡ Some (piece_of_mark m, rest)
piece_is space rest h a = piece_blank 0x20 (Ordinary 0x20 ∷ rest) rest refl (inr refl)
piece_is line_end rest h a = piece_line (LineEnd ∷ rest) rest refl
piece_is (word w) rest h (inl e) = absurd (false≢true e)
piece_is (word w) rest h (inr a) = word_piece (ordinary w) rest (ncname_is w h) a
piece_is (cname p l) rest h (inl e) = absurd (false≢true e)
piece_is (cname p l) rest h (inr a) =
    ap piece_of (append_assoc (ordinary p) (Ordinary 0x3A ∷ ordinary l) rest) ∙ cname_piece (ordinary p) (ordinary l) rest (ncname_is p h.0) (ncname_is l h.1) a
piece_is (ns_name p) rest h a = ap piece_of (append_assoc (ordinary p) (Ordinary 0x3A ∷ Ordinary 0x2A ∷ []) rest) ∙ ns_piece (ordinary p) rest (ncname_is p h)
piece_is (segment q w) rest h (inl e) = absurd (false≢true e)
piece_is (segment q w) rest h (inr a) =
    ap (λ (x : List Character). piece_of (Ordinary q ∷ x)) (append_assoc (ordinary w) (Ordinary q ∷ []) rest)
    ∙ segment_piece q w rest h.0 h.1 (no_quote q rest (quote_cases q h.0) a)
  where
    no_quote : (q : ℕ) (rest : List Character) → (q ≡ 0x22) ⊎ (q ≡ 0x27) → Apart rest → behind q rest ≡ None
    no_quote q rest (inl e) a = subst (λ (x : ℕ). behind x rest ≡ None) (sym e) a.no_mark
    no_quote q rest (inr e) a = subst (λ (x : ℕ). behind x rest ≡ None) (sym e) a.no_apostrophe
piece_is (sign s) rest h a = sign_piece s rest a

-- what follows a mark may follow it
stands_behind : (m : Mark) (ms : List Mark) → (is_open m || begins_apart ms) ≡ true → (is_open m ≡ true) ⊎ Apart (characters_of_marks ms)
stands_behind m ms e = elim (or_cases (is_open m) (begins_apart ms) e) [ inl o ↦ inl o | inr b ↦ inr (apart ms b) ]

-- marks are cut into their pieces, each the longest at its offset
pub marks_cut : MarksAreCut
marks_cut [] h = here refl
marks_cut (m ∷ ms) h =
    next_is (found_next (characters_of_mark m ++ characters_of_marks ms) (piece_of_mark m) (characters_of_marks ms)
    (piece_is m (characters_of_marks ms) h.0 (stands_behind m ms h.1))) (marks_cut ms h.2) refl
