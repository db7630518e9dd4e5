-- Marks in bytes, and the same marks in Unicode numbers.
use Rattle.std.proofs.Common.{◌≡◌, ◌∙◌, inl, inr, ℕ, suc, ◌+◌, ◌<◌, Bool, true, List, [], ◌∷◌, ◌++◌, map, flat_map, refl, sym, ap, subst, arith}
use Rattle.std.specs.Prelude.{◌||◌, encode_utf8_all}
use Rattle.std.specs.Char.{encode_utf8}
use Rattle.std.proofs.lemmas.Bool.{or_cases, or_right}
use Rattle.std.proofs.lemmas.List.{map-append}
use Rattle.std.proofs.lemmas.Str.{encodes-append, encode_ascii}
use Rattle.rnc_text.proofs.MarksCut.{numbers_ordinary}
use Rattle.rng_model.specs.names.Names.{is_ncname}
use Rattle.rnc_model.specs.declared.character.Character.TheVariants.{Ordinary}
use Rattle.rnc_model.specs.declared.token.Sign.{Sign}
use Rattle.rnc_model.specs.declared.token.Sign.TheVariants as signs
use Rattle.rnc_model.specs.declared.token.TokenKind.TheVariants as kinds
use Rattle.rnc_model.specs.characters.Decoding.{number_of, numbers_of, bytes_of, IsDecoded}
use Rattle.rnc_model.specs.tokens.Cut.{Token, tokens_at, HasTokens}
use Rattle.rnc_model.specs.tokens.Cut as grammar
use Rattle.rncv_model.specs.printed.Words.{escaped}
use Rattle.rnc_text.specs.plain.Marks.{Mark, space, line_end, word, cname, segment, sign, sign_text, mark_text, text_of_marks, ordinary}
use Rattle.rnc_text.specs.plain.Marks.{characters_of_marks, piece_of_mark, IsMark, is_open, is_apart, begins_apart, AreParted, MarksAreCut, MarksAreDecoded}
use Rattle.rnc_text.specs.plain.Marks as marks
use Rattle.rnc_print_laws.specs.plain.MarkLexemes.{word_at, lexemes_from}
use Rattle.rnc_print_laws.proofs.Marks.EscapedCharacters.{escaped_back}
use Rattle.rnc_print_laws.proofs.Marks.EncodedMarks.{escaped_all}
use Rattle.rnc_print_laws.proofs.Marks.Colons.{HasNoColon, ncname_no_colon, before_colon}

-- a mark in bytes, and the same mark in numbers
pub data Spells : Mark → Mark → Type 0 where
  a_space : Spells space space
  a_line_end : Spells line_end line_end
  a_word : {w n : List ℕ} → encode_utf8_all n ≡ w → Spells (word w) (word n)
  a_cname : {p l m n : List ℕ} → encode_utf8_all m ≡ p → encode_utf8_all n ≡ l → Spells (cname p l) (cname m n)
  an_ns_name : {p m : List ℕ} → encode_utf8_all m ≡ p → Spells (marks.ns_name p) (marks.ns_name m)
  a_segment : {q : ℕ} {w n : List ℕ} → q < 128 → encode_utf8_all n ≡ w → Spells (segment q w) (segment q n)
  a_sign : {s : Sign} → Spells (sign s) (sign s)

-- the marks are read back
pub data Reads : List Mark → List Mark → Type 0 where
  none : Reads [] []
  one : {m k : Mark} {ms ks : List Mark} → Spells m k → IsMark k → (is_open m || begins_apart ms) ≡ true → Reads ms ks → Reads (m ∷ ms) (k ∷ ks)

pub record Read (ms : List Mark) : Type 0 where
  pub numbers : List Mark
  pub reads : Reads ms numbers

-- ---- one after the other

open_same : {m k : Mark} → Spells m k → is_open m ≡ is_open k
open_same a_space = refl
open_same a_line_end = refl
open_same (a_word e) = refl
open_same (a_cname e f) = refl
open_same (an_ns_name e) = refl
open_same (a_segment l e) = refl
open_same a_sign = refl

apart_same : {m k : Mark} → Spells m k → is_apart m ≡ is_apart k
apart_same a_space = refl
apart_same a_line_end = refl
apart_same (a_word e) = refl
apart_same (a_cname e f) = refl
apart_same (an_ns_name e) = refl
apart_same (a_segment l e) = refl
apart_same a_sign = refl

begins_same : {ms ks : List Mark} → Reads ms ks → begins_apart ms ≡ begins_apart ks
begins_same none = refl
begins_same (one s i a r) = apart_same s

begins_both : (ms ns : List Mark) → begins_apart ms ≡ true → begins_apart ns ≡ true → begins_apart (ms ++ ns) ≡ true
begins_both [] ns e f = f
begins_both (m ∷ ms) ns e f = e

stands_both : (m : Mark) (ms ns : List Mark) → (is_open m || begins_apart ms) ≡ true → begins_apart ns ≡ true → (is_open m || begins_apart (ms ++ ns)) ≡ true
stands_both m ms ns e f = elim (or_cases (is_open m) (begins_apart ms) e) [ inl o ↦ rw o refl | inr b ↦ or_right (is_open m) _ (begins_both ms ns b f) ]

reads_both : {ms ks ns ls : List Mark} → Reads ms ks → begins_apart ns ≡ true → Reads ns ls → Reads (ms ++ ns) (ks ++ ls)
reads_both none b r = r
reads_both (one {m} {ms = ms} s i a h) b r = one s i (stands_both m ms _ a b) (reads_both h b r)

pub both : {ms ns : List Mark} → Read ms → begins_apart ns ≡ true → Read ns → Read (ms ++ ns)
both a b c = record { numbers = a.numbers ++ c.numbers; reads = reads_both a.reads b c.reads }

pub then : {m k : Mark} {ms : List Mark} → Spells m k → IsMark k → (is_open m || begins_apart ms) ≡ true → Read ms → Read (m ∷ ms)
then {k = k} s i a r = record { numbers = k ∷ r.numbers; reads = one s i a r.reads }

pub nothing : Read []
nothing = record { numbers = []; reads = none }

-- ---- they are marks

are_marks : {ms ks : List Mark} → Reads ms ks → AreParted ks
are_marks none = tt
are_marks (one {m} {k} {ms} {ks} s i a r) =
    (i, sym (ap (λ (b : Bool). b || begins_apart ks) (open_same s)) ∙ sym (ap (λ (b : Bool). is_open m || b) (begins_same r)) ∙ a, are_marks r)

-- ---- their bytes

sign_bytes : (s : Sign) → encode_utf8_all (sign_text s) ≡ sign_text s
unfolding encode_utf8
sign_bytes signs.Equal = refl
sign_bytes signs.BarEqual = refl
sign_bytes signs.AndEqual = refl
sign_bytes signs.Comma = refl
sign_bytes signs.Bar = refl
sign_bytes signs.And = refl
sign_bytes signs.Question = refl
sign_bytes signs.Star = refl
sign_bytes signs.Plus = refl
sign_bytes signs.Minus = refl
sign_bytes signs.OpenBrace = refl
sign_bytes signs.CloseBrace = refl
sign_bytes signs.OpenParenthesis = refl
sign_bytes signs.CloseParenthesis = refl
sign_bytes signs.OpenBracket = refl
sign_bytes signs.CloseBracket = refl
sign_bytes signs.Tilde = refl

small_bytes : (encode_utf8_all (0x20 ∷ []) ≡ 0x20 ∷ []) × (encode_utf8_all (0xA ∷ []) ≡ 0xA ∷ []) × (encode_utf8 0x3A ≡ 0x3A ∷ []) ×
    (encode_utf8_all (0x3A ∷ 0x2A ∷ []) ≡ 0x3A ∷ 0x2A ∷ [])
unfolding encode_utf8
small_bytes = (refl, refl, refl, refl)

prefixed_bytes : (m n : List ℕ) → encode_utf8_all (m ++ 0x3A ∷ n) ≡ encode_utf8_all m ++ 0x3A ∷ encode_utf8_all n
prefixed_bytes m n = encodes-append m (0x3A ∷ n) ∙ ap (λ (x : List ℕ). encode_utf8_all m ++ (x ++ encode_utf8_all n)) small_bytes.2

segment_bytes : (q : ℕ) (n : List ℕ) → q < 128 → encode_utf8_all (q ∷ (flat_map escaped n ++ q ∷ [])) ≡ q ∷ (flat_map escaped (encode_utf8_all n) ++ q ∷ [])
segment_bytes q n lt =
    ap (λ (x : List ℕ). x ++ encode_utf8_all (flat_map escaped n ++ q ∷ [])) (encode_ascii q lt)
    ∙ ap (λ (x : List ℕ). q ∷ x)
    (encodes-append (flat_map escaped n) (q ∷ []) ∙ ap (λ (x : List ℕ). encode_utf8_all (flat_map escaped n) ++ (x ++ [])) (encode_ascii q lt)
    ∙ ap (λ (x : List ℕ). x ++ q ∷ []) (sym (escaped_all n)))

mark_bytes : {m k : Mark} → Spells m k → encode_utf8_all (mark_text escaped k) ≡ mark_text escaped m
mark_bytes a_space = small_bytes.0
mark_bytes a_line_end = small_bytes.1
mark_bytes (a_word e) = e
mark_bytes (a_cname {m} {n} e f) = prefixed_bytes m n ∙ rw (e, f) refl
mark_bytes (an_ns_name {m} e) = encodes-append m (0x3A ∷ 0x2A ∷ []) ∙ rw (e, small_bytes.3) refl
mark_bytes (a_segment {q} {n} l e) = segment_bytes q n l ∙ rw e refl
mark_bytes (a_sign {s}) = sign_bytes s

text_bytes : {ms ks : List Mark} → Reads ms ks → encode_utf8_all (text_of_marks escaped ks) ≡ text_of_marks escaped ms
text_bytes none = refl
text_bytes (one {m} {k} {ms} {ks} s i a r) = encodes-append (mark_text escaped k) (text_of_marks escaped ks) ∙ rw (mark_bytes s, text_bytes r) refl

-- the bytes of marks decode to the characters of their numbers
pub marks_are_decoded : MarksAreDecoded → {ms ks : List Mark} → Reads ms ks → IsDecoded (text_of_marks escaped ms) (characters_of_marks ks)
marks_are_decoded law {ms} {ks} r =
    subst (λ (x : List ℕ). IsDecoded x (characters_of_marks ks)) (text_bytes r) (law escaped escaped_back ks (are_marks r))

-- ---- their tokens

bytes_ordinary : (n w : List ℕ) → encode_utf8_all n ≡ w → bytes_of (ordinary n) ≡ w
bytes_ordinary n w e = ap encode_utf8_all (numbers_ordinary n) ∙ e

prefixed_numbers : (m n : List ℕ) → numbers_of (ordinary m ++ Ordinary 0x3A ∷ ordinary n) ≡ m ++ 0x3A ∷ n
prefixed_numbers m n = map-append number_of (ordinary m) (Ordinary 0x3A ∷ ordinary n) ∙ rw (numbers_ordinary m, numbers_ordinary n) refl

cname_lexeme : (m n p l : List ℕ) (k : ℕ) → encode_utf8_all m ≡ p → encode_utf8_all n ≡ l → is_ncname m ≡ true
    → grammar.lexeme_at kinds.CName (bytes_of (ordinary m ++ Ordinary 0x3A ∷ ordinary n)) k ≡ grammar.cname p l
cname_lexeme m n p l k e f h =
    let w : bytes_of (ordinary m ++ Ordinary 0x3A ∷ ordinary n) ≡ p ++ 58 ∷ l = ap encode_utf8_all (prefixed_numbers m n) ∙ prefixed_bytes m n
    ∙ rw (e, f) refl in
    let b = before_colon p l (subst HasNoColon e (ncname_no_colon m h)) in
    ap (λ (x : List ℕ). grammar.cname (grammar.prefix_in x) (grammar.local_in x)) w ∙ rw (b.0, b.1) refl

ns_lexeme : (m p : List ℕ) (k : ℕ) → encode_utf8_all m ≡ p → is_ncname m ≡ true
    → grammar.lexeme_at kinds.NsName (bytes_of (ordinary m ++ Ordinary 0x3A ∷ Ordinary 0x2A ∷ [])) k ≡ grammar.ns_name p
ns_lexeme m p k e h =
    let w : bytes_of (ordinary m ++ Ordinary 0x3A ∷ Ordinary 0x2A ∷ [])
    ≡ p ++ 58 ∷ 0x2A ∷ [] = ap encode_utf8_all
    (map-append number_of (ordinary m) (Ordinary 0x3A ∷ Ordinary 0x2A ∷ []) ∙ ap (λ (x : List ℕ). x ++ 0x3A ∷ 0x2A ∷ []) (numbers_ordinary m))
    ∙ encodes-append m (0x3A ∷ 0x2A ∷ []) ∙ rw (e, small_bytes.3) refl in
    let b = before_colon p (0x2A ∷ []) (subst HasNoColon e (ncname_no_colon m h)) in
    ap (λ (x : List ℕ). grammar.ns_name (grammar.prefix_in x)) w ∙ rw b.0 refl

both_same : (x y : grammar.Lexeme) (xs ys : List grammar.Lexeme) → x ≡ y → xs ≡ ys → x ∷ xs ≡ y ∷ ys
both_same x y xs ys e f = cc

-- the number of the next token
next_number : (n : ℕ) (ts : List Token) (xs : List grammar.Lexeme) → grammar.numbered (suc n) ts ≡ xs → grammar.numbered (n + 1) ts ≡ xs
next_number n ts xs e = ap (λ (k : ℕ). grammar.numbered k ts) (omega arith) ∙ e

-- the tokens of the pieces are those of the marks
pub tokens_are : {ms ks : List Mark} → Reads ms ks → (start n : ℕ) → grammar.numbered n (tokens_at start (map piece_of_mark ks)) ≡ lexemes_from n ms
tokens_are none start n = refl
tokens_are (one a_space i a r) start n = tokens_are r _ n
tokens_are (one a_line_end i a r) start n = tokens_are r _ n
tokens_are (one (a_word {w} {n = m} e) i a r) start n =
    both_same _ _ _ _ (ap (λ (x : List ℕ). word_at x n) (bytes_ordinary m w e)) (next_number n _ _ (tokens_are r _ (suc n)))
tokens_are (one (a_cname {p} {l} {m} {n = k} e f) i a r) start n =
    both_same _ _ _ _ (cname_lexeme m k p l n e f i.0) (next_number n _ _ (tokens_are r _ (suc n)))
tokens_are (one (an_ns_name {p} {m} e) i a r) start n = both_same _ _ _ _ (ns_lexeme m p n e i) (next_number n _ _ (tokens_are r _ (suc n)))
tokens_are (one (a_segment {q} {w} {n = m} l e) i a r) start n =
    both_same _ _ _ _ (ap grammar.segment (bytes_ordinary m w e)) (next_number n _ _ (tokens_are r _ (suc n)))
tokens_are (one (a_sign {s}) i a r) start n = both_same _ _ _ _ refl (next_number n _ _ (tokens_are r _ (suc n)))

-- marks that are read are the tokens of their text
pub marks_have_tokens : MarksAreCut → {ms ks : List Mark} → Reads ms ks → HasTokens (characters_of_marks ks) (tokens_at 0 (map piece_of_mark ks))
marks_have_tokens law {ms} {ks} r = record { pieces = map piece_of_mark ks; cut = law ks (are_marks r); are = refl }
