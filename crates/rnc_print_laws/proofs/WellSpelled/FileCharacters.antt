-- The characters of a file are Chars, and so are the texts that they spell: those of NCNames and of segments.
use Rattle.std.proofs.Common.{◌≡◌, ◌∙◌, inl, inr, refl, sym, subst, ap, ℕ, ◌≤◌, ◌<◌, Bool, true, false, ◌||◌, ◌&&◌, cond, arith, List, [], ◌∷◌, ◌++◌}
use Rattle.std.specs.Prelude.{nat_le, nat_lt}
use Rattle.std.specs.List.{list_all, AllByRecursion}
use Rattle.std.specs.Str.{all_scalars, IsUtf8, chars}
use Rattle.std.proofs.lemmas.Bool.{and_parts, or_cases, lt-ltb, le-ltb, le-leb, and_from}
use Rattle.std.proofs.lemmas.Str.{chars-encodes}
use Rattle.rnc_text.proofs.MarkScalars.{ends}
use Rattle.rng_model.proofs.Truths.{no_truth}
use Rattle.rng_model.specs.names.Names.{is_xml_char, is_ncname}
use Rattle.rnc_model.specs.characters.Decoding.{number_of, numbers_of, bytes_of, Begins, Decodes, IsDecoded}
use Rattle.rnc_model.specs.tokens.Cut.{Cuts}
use Rattle.rnc_model.specs.tokens.Cut as cut
use Rattle.rnc_model.specs.characters.Decoding as decoding
use Rattle.rnc_model.specs.tokens.Tokens.{Piece, characters_in, IsGapOrToken, IsNcname}
use Rattle.rnc_model.specs.declared.character.Character.{Character}
use Rattle.rnc_print_laws.specs.plain.Printable.{IsText, IsName}

-- ---- Chars are scalar values

abbrev scalar : ℕ → Bool
scalar c = cond (nat_lt c 55296) true (nat_le 57344 c && nat_lt c 1114112)

low_char : (c : ℕ) → c < 55296 → scalar c ≡ true
low_char c h = rw (lt-ltb c 55296 h) refl

high_char : (c : ℕ) → 57344 ≤ c → c < 1114112 → scalar c ≡ true
high_char c h i = rw (le-ltb c 55296 (omega (arith, h)), le-leb 57344 c h, lt-ltb c 1114112 i) refl

xml_scalar : (c : ℕ) → is_xml_char c ≡ true → scalar c ≡ true
xml_scalar c h = elim (or_cases (nat_le 0x9 c && nat_le c 0xA) _ h) [
  | inl e ↦ low_char c (let p = ends 0x9 0xA c e in omega (arith, p.1))
  | inr e ↦ second e
]
  where
    last : ((nat_le 0x10000 c && nat_le c 0x10FFFF) || false) ≡ true → scalar c ≡ true
    last h = elim (or_cases (nat_le 0x10000 c && nat_le c 0x10FFFF) false h) [
      | inl e ↦ high_char c (let p = ends 0x10000 0x10FFFF c e in omega (arith, p.0)) (let p = ends 0x10000 0x10FFFF c e in omega (arith, p.1))
      | inr e ↦ no_truth e
    ]

    fourth : ((nat_le 0xE000 c && nat_le c 0xFFFD) || ((nat_le 0x10000 c && nat_le c 0x10FFFF) || false)) ≡ true → scalar c ≡ true
    fourth h = elim (or_cases (nat_le 0xE000 c && nat_le c 0xFFFD) _ h) [
      | inl e ↦ high_char c (let p = ends 0xE000 0xFFFD c e in omega (arith, p.0)) (let p = ends 0xE000 0xFFFD c e in omega (arith, p.1))
      | inr e ↦ last e
    ]

    third : ((nat_le 0x20 c && nat_le c 0xD7FF) || ((nat_le 0xE000 c && nat_le c 0xFFFD) || ((nat_le 0x10000 c && nat_le c 0x10FFFF) || false))) ≡ true
        → scalar c ≡ true
    third h = elim (or_cases (nat_le 0x20 c && nat_le c 0xD7FF) _ h) [
      | inl e ↦ low_char c (let p = ends 0x20 0xD7FF c e in omega (arith, p.1))
      | inr e ↦ fourth e
    ]

    second : ((nat_le 0xD c && nat_le c 0xD)
        || ((nat_le 0x20 c && nat_le c 0xD7FF) || ((nat_le 0xE000 c && nat_le c 0xFFFD) || ((nat_le 0x10000 c && nat_le c 0x10FFFF) || false)))) ≡ true
        → scalar c ≡ true
    second h = elim (or_cases (nat_le 0xD c && nat_le c 0xD) _ h) [
      | inl e ↦ low_char c (let p = ends 0xD 0xD c e in omega (arith, p.1))
      | inr e ↦ third e
    ]

-- ---- characters that are Chars

abbrev pub AreChars : List Character → Type 0
AreChars cs = list_all is_xml_char (numbers_of cs) ≡ true

begins_char : {numbers : List ℕ} {c : Character} {rest : List ℕ} → Begins numbers c rest → is_xml_char (number_of c) ≡ true
begins_char (decoding.carriage_return_line_feed e) = refl
begins_char (decoding.carriage_return e n) = refl
begins_char (decoding.line_feed e) = refl
begins_char (decoding.escape d c-is x e) = x
begins_char (decoding.other n m x o e) = x

decodes_chars : {numbers rest : List ℕ} {cs : List Character} → Decodes numbers cs rest → AreChars cs
decodes_chars (decoding.here e) = refl
decodes_chars (decoding.next_is {numbers} {all} {rest} {c} {after} {cs} b d e) =
    subst AreChars (sym e) (and_from (is_xml_char (number_of c)) (list_all is_xml_char (numbers_of cs)) (begins_char b) (decodes_chars d))

pub decoded_chars : (bytes : List ℕ) (cs : List Character) → IsDecoded bytes cs → AreChars cs
decoded_chars bytes cs d = decodes_chars d.decoded

pub chars_parts : (xs ys : List Character) → AreChars (xs ++ ys) → AreChars xs × AreChars ys
chars_parts [] ys h = (refl, h)
chars_parts (x ∷ xs) ys h =
    let p = and_parts (is_xml_char (number_of x)) (list_all is_xml_char (numbers_of (xs ++ ys))) h in
    let q = chars_parts xs ys p.1 in
    (and_from (is_xml_char (number_of x)) (list_all is_xml_char (numbers_of xs)) p.0 q.0, q.1)

pub chars_behind : (x : Character) (xs : List Character) → AreChars (x ∷ xs) → AreChars xs
chars_behind x xs h = (and_parts (is_xml_char (number_of x)) (list_all is_xml_char (numbers_of xs)) h).1

scalars_of : (cs : List Character) → AreChars cs → all_scalars (numbers_of cs) ≡ true
scalars_of [] h = refl
scalars_of (c ∷ cs) h =
    let p = and_parts (is_xml_char (number_of c)) (list_all is_xml_char (numbers_of cs)) h in
    and_from (scalar (number_of c)) (all_scalars (numbers_of cs)) (xml_scalar (number_of c) p.0) (scalars_of cs p.1)

chars_of : (cs : List Character) → AreChars cs → chars (bytes_of cs) ≡ numbers_of cs
chars_of cs h = chars-encodes (numbers_of cs) (scalars_of cs h)

utf8_of : (cs : List Character) → AreChars cs → IsUtf8 (bytes_of cs)
utf8_of cs h = (numbers_of cs, (scalars_of cs h, refl))

pub text_of : (cs : List Character) → AreChars cs → IsText (bytes_of cs)
text_of cs h = (utf8_of cs h, ap (list_all is_xml_char) (chars_of cs h) ∙ h)

pub name_of : (cs : List Character) → AreChars cs → IsNcname cs → IsName (bytes_of cs)
name_of cs h n = (utf8_of cs h, ap is_ncname (chars_of cs h) ∙ n)

-- ---- pieces

-- the pieces are good and made of Chars
abbrev pub IsCharPiece : Piece → Type 0
IsCharPiece p = IsGapOrToken p × AreChars (characters_in p)

pub cut_pieces : {cs rest : List Character} {pieces : List Piece} → Cuts cs pieces rest → AreChars cs → AllByRecursion IsCharPiece pieces
cut_pieces (cut.here e) h = tt
cut_pieces (cut.next_is {cs} {all} {rest} {piece} {after} {pieces} n more e) h =
    let p = chars_parts (characters_in piece) after (subst AreChars n.parts h) in
    subst (AllByRecursion IsCharPiece) (sym e) ((n.is, p.0), cut_pieces more p.1)
