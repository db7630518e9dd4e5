-- Marks decode to exactly their characters: the only escapes that are read are the printed ones.
use Rattle.std.proofs.Common.{◌≡◌, ◌∙◌, ◌≢◌, ℕ, Bool, true, false, inl, inr, List, [], ◌∷◌, ◌++◌, flat_map, refl, sym, subst, append_assoc, arith}
use Rattle.std.specs.Prelude.{◌&&◌, not, ◌==◌, nat_le}
use Rattle.std.specs.List.{list_all, list_any}
use Rattle.std.proofs.lemmas.Bool.{and_parts, eqb-true, eqb-false, ne_eqb, not-true, or_cases, or_right}
use Rattle.rng_model.specs.names.Names.{is_ncname, is_xml_char, is_name_char, is_name_start, is_colon, is_in_ranges, xml_char_ranges, name_start_ranges}
use Rattle.rng_model.specs.names.Names.{more_name_ranges}
use Rattle.rnc_model.specs.declared.character.Character.{Character}
use Rattle.rnc_model.specs.declared.character.Character.TheVariants.{Ordinary}
use Rattle.rnc_model.specs.declared.token.Sign.{Sign}
use Rattle.rnc_model.specs.declared.token.Sign.TheVariants as signs
use Rattle.rnc_model.specs.tokens.Tokens.{is_quote}
use Rattle.rnc_model.specs.characters.Decoding.{OpensEscape, Begins, line_feed, other, Decodes, here, next_is}
use Rattle.rnc_text.specs.plain.Marks.{Mark, space, line_end, word, cname, ns_name, segment, sign, sign_text, mark_text, text_of_marks, IsReadBack, ordinary}
use Rattle.rnc_text.specs.plain.Marks.{characters_of_mark, characters_of_marks, is_within, IsMark, AreParted}
use Rattle.std.proofs.lemmas.Bool.{false≢true}

-- ---- a character other than a line end and a backslash decodes to itself

abbrev pub is_plain : ℕ → Bool
is_plain c = is_xml_char c && (not (c == 0xD) && (not (c == 0xA) && not (c == 0x5C)))

record Plain (c : ℕ) : Type 0 where
  is_char : is_xml_char c ≡ true
  no_return : c ≢ 0xD
  no_feed : c ≢ 0xA
  no_backslash : c ≢ 0x5C

differs : (c d : ℕ) → not (c == d) ≡ true → c ≢ d
differs c d h = eqb-false c d (not-true (c == d) h)

plain : (c : ℕ) → is_plain c ≡ true → Plain c
plain c h =
    let a = and_parts (is_xml_char c) _ h in
    let b = and_parts (not (c == 0xD)) _ a.1 in
    let d = and_parts (not (c == 0xA)) _ b.1 in
    record { is_char = a.0; no_return = differs c 0xD b.0; no_feed = differs c 0xA d.0; no_backslash = differs c 0x5C d.1 }

pub no_escape : (c : ℕ) (rest : List ℕ) → c ≢ 0x5C → ¬ (OpensEscape (c ∷ rest))
no_escape c rest n o = n (let e = o.is in cc)

plain_begins : (c : ℕ) (rest : List ℕ) → Plain c → Begins (c ∷ rest) (Ordinary c) rest
plain_begins c rest p = other p.no_return p.no_feed p.is_char (no_escape c rest p.no_backslash) refl

then_decodes : {ns after : List ℕ} {c : Character} {cs : List Character} → Begins ns c after → Decodes after cs [] → Decodes ns (c ∷ cs) []
then_decodes b d = next_is b d refl

plain_decodes : (w rest : List ℕ) (cs : List Character) → list_all is_plain w ≡ true → Decodes rest cs [] → Decodes (w ++ rest) (ordinary w ++ cs) []
plain_decodes [] rest cs h d = d
plain_decodes (c ∷ w) rest cs h d =
    let p = and_parts (is_plain c) (list_all is_plain w) h in
    then_decodes (plain_begins c (w ++ rest) (plain c p.0)) (plain_decodes w rest cs p.1 d)

-- ---- names are plain

-- each range is within one of these
abbrev covers : List (ℕ × ℕ) → ℕ × ℕ → Bool
covers wide r = list_any (λ x. nat_le x.0 r.0 && nat_le r.1 x.1) wide

wider : (x r : ℕ × ℕ) (c : ℕ) → (nat_le x.0 r.0 && nat_le r.1 x.1) ≡ true → (nat_le r.0 c && nat_le c r.1) ≡ true → (nat_le x.0 c && nat_le c x.1) ≡ true
wider x r c e h = grind (arith, and_parts (nat_le x.0 r.0) (nat_le r.1 x.1) e, and_parts (nat_le r.0 c) (nat_le c r.1) h)

-- one of the ranges has it
covered : (wide : List (ℕ × ℕ)) (r : ℕ × ℕ) (c : ℕ) → covers wide r ≡ true → (nat_le r.0 c && nat_le c r.1) ≡ true → is_in_ranges wide c ≡ true
covered [] r c e h = absurd (false≢true e)
covered (x ∷ wide) r c e h = elim (or_cases (nat_le x.0 r.0 && nat_le r.1 x.1) (covers wide r) e) [
  | inl e ↦ rw (wider x r c e h) refl
  | inr e ↦ or_right (nat_le x.0 c && nat_le c x.1) (is_in_ranges wide c) (covered wide r c e h)
]

pub all_covered : (wide rs : List (ℕ × ℕ)) (c : ℕ) → list_all (covers wide) rs ≡ true → is_in_ranges rs c ≡ true → is_in_ranges wide c ≡ true
all_covered wide [] c e h = absurd (false≢true h)
all_covered wide (r ∷ rs) c e h =
    let p = and_parts (covers wide r) (list_all (covers wide) rs) e in
    elim (or_cases (nat_le r.0 c && nat_le c r.1) (is_in_ranges rs c) h) [ inl a ↦ covered wide r c p.0 a | inr a ↦ all_covered wide rs c p.1 a ]

name_is_char : (c : ℕ) → is_name_char c ≡ true → is_xml_char c ≡ true
name_is_char c h = elim (or_cases (is_name_start c) (is_in_ranges more_name_ranges c) h) [
  | inl e ↦ all_covered xml_char_ranges name_start_ranges c refl e
  | inr e ↦ all_covered xml_char_ranges more_name_ranges c refl e
]

no_name : (c d : ℕ) → is_name_char d ≡ false → is_name_char c ≡ true → not (c == d) ≡ true
no_name c d e h = rw (ne_eqb c d (λ same. false≢true (sym e ∙ subst (λ (x : ℕ). is_name_char x ≡ true) same h))) refl

name_is_plain : (c : ℕ) → is_name_char c ≡ true → is_plain c ≡ true
name_is_plain c h = rw (name_is_char c h, no_name c 0xD refl h, no_name c 0xA refl h, no_name c 0x5C refl h) refl

names_are_plain : (w : List ℕ) → list_all (λ d. is_name_char d && not (is_colon d)) w ≡ true → list_all is_plain w ≡ true
names_are_plain [] h = refl
names_are_plain (c ∷ w) h =
    let p = and_parts (is_name_char c && not (is_colon c)) (list_all (λ d. is_name_char d && not (is_colon d)) w) h in
    let q = and_parts (is_name_char c) (not (is_colon c)) p.0 in
    rw (name_is_plain c q.0) (names_are_plain w p.1)

-- a character that may begin a name may occur in one
start_in_name : (c : ℕ) → is_name_start c ≡ true → is_name_char c ≡ true
start_in_name c h = rw h refl

pub ncname_plain : (w : List ℕ) → is_ncname w ≡ true → list_all is_plain w ≡ true
ncname_plain [] h = absurd (false≢true h)
ncname_plain (c ∷ w) h =
    let p = and_parts (is_name_start c && not (is_colon c)) (list_all (λ d. is_name_char d && not (is_colon d)) w) h in
    let q = and_parts (is_name_start c) (not (is_colon c)) p.0 in
    rw (name_is_plain c (start_in_name c q.0)) (names_are_plain w p.1)

-- ---- the text between quotes

within_decodes : (written : ℕ → List ℕ) → IsReadBack written → (q : ℕ) (w rest : List ℕ) (cs : List Character) → list_all (is_within q) w ≡ true
    → Decodes rest cs [] → Decodes (flat_map written w ++ rest) (ordinary w ++ cs) []
within_decodes written back q [] rest cs h d = d
within_decodes written back q (c ∷ w) rest cs h d =
    let p = and_parts (is_within q c) (list_all (is_within q) w) h in
    let r = and_parts (is_xml_char c) (not (c == q)) p.0 in
    subst (λ (x : List ℕ). Decodes x (Ordinary c ∷ (ordinary w ++ cs)) []) (sym (append_assoc (written c) (flat_map written w) rest))
    (then_decodes (back.begins c (flat_map written w ++ rest) r.0) (within_decodes written back q w rest cs p.1 d))

-- ---- marks

quote_begins : (q : ℕ) (rest : List ℕ) → is_quote q ≡ true → Begins (q ∷ rest) (Ordinary q) rest
quote_begins q rest h = elim (or_cases (q == 0x22) (q == 0x27) h) [
  | inl e ↦ quote_at 0x22 (eqb-true q 0x22 e) refl
  | inr e ↦ quote_at 0x27 (eqb-true q 0x27 e) refl
]
  where
    quote_at : (c : ℕ) → q ≡ c → is_plain c ≡ true → Begins (q ∷ rest) (Ordinary q) rest
    quote_at c e h = plain_begins q rest (plain q (subst (λ (x : ℕ). is_plain x ≡ true) (sym e) h))

pub sign_plain : (s : Sign) → list_all is_plain (sign_text s) ≡ true
sign_plain signs.Equal = refl
sign_plain signs.BarEqual = refl
sign_plain signs.AndEqual = refl
sign_plain signs.Comma = refl
sign_plain signs.Bar = refl
sign_plain signs.And = refl
sign_plain signs.Question = refl
sign_plain signs.Star = refl
sign_plain signs.Plus = refl
sign_plain signs.Minus = refl
sign_plain signs.OpenBrace = refl
sign_plain signs.CloseBrace = refl
sign_plain signs.OpenParenthesis = refl
sign_plain signs.CloseParenthesis = refl
sign_plain signs.OpenBracket = refl
sign_plain signs.CloseBracket = refl
sign_plain signs.Tilde = refl

prefixed_decodes : (p l rest : List ℕ) (cs : List Character) → list_all is_plain p ≡ true → list_all is_plain l ≡ true → Decodes rest cs []
    → Decodes ((p ++ l) ++ rest) ((ordinary p ++ ordinary l) ++ cs) []
prefixed_decodes p l rest cs h i d =
    rw (append_assoc p l rest, append_assoc (ordinary p) (ordinary l) cs) (plain_decodes p (l ++ rest) (ordinary l ++ cs) h (plain_decodes l rest cs i d))

mark_decodes : (written : ℕ → List ℕ) → IsReadBack written → (m : Mark) (rest : List ℕ) (cs : List Character) → IsMark m → Decodes rest cs []
    → Decodes (mark_text written m ++ rest) (characters_of_mark m ++ cs) []
mark_decodes written back space rest cs h d = plain_decodes (0x20 ∷ []) rest cs refl d
mark_decodes written back line_end rest cs h d = then_decodes (line_feed refl) d
mark_decodes written back (word w) rest cs h d = plain_decodes w rest cs (ncname_plain w h) d
mark_decodes written back (cname p l) rest cs h d = prefixed_decodes p (0x3A ∷ l) rest cs (ncname_plain p h.0) (ncname_plain l h.1) d
mark_decodes written back (ns_name p) rest cs h d = prefixed_decodes p (0x3A ∷ 0x2A ∷ []) rest cs (ncname_plain p h) refl d
mark_decodes written back (segment q w) rest cs h d =
    then_decodes (quote_begins q ((flat_map written w ++ q ∷ []) ++ rest) h.0)
    (rw (append_assoc (flat_map written w) (q ∷ []) rest, append_assoc (ordinary w) (Ordinary q ∷ []) cs)
    (within_decodes written back q w (q ∷ rest) (Ordinary q ∷ cs) h.1 (then_decodes (quote_begins q rest h.0) d)))
mark_decodes written back (sign s) rest cs h d = plain_decodes (sign_text s) rest cs (sign_plain s) d

-- marks decode to their characters
pub marks_decode : (written : ℕ → List ℕ) → IsReadBack written → (ms : List Mark) → AreParted ms → Decodes (text_of_marks written ms) (characters_of_marks ms) []
marks_decode written back [] h = here refl
marks_decode written back (m ∷ ms) h = mark_decodes written back m (text_of_marks written ms) (characters_of_marks ms) h.0 (marks_decode written back ms h.2)
