-- A sequence of characters: the decoding is unique, and so is the offset where it stops.
use Rattle.std.proofs.Common.{◌≡◌, ℕ, ◌+◌, ◌<◌, false, eqb, inl, inr, List, [], ◌∷◌, ◌++◌, length, Result, Ok, Err, refl, sym, ap, subst, ◌∙◌, arith}
use Rattle.std.proofs.Common.{append_assoc}
use Rattle.std.specs.Prelude.{IfOk, IfErr}
use Rattle.std.specs.Str.{chars, IsUtf8, encode_utf8_all}
use Rattle.std.proofs.lemmas.List.{length-append}
use Rattle.std.proofs.lemmas.Str.{encodes-chars, scalars-chars, encodes_same, utf8_valid_len-IsValidUpTo, length-le-encodes, encodes-append}
use Rattle.rnc_model.specs.characters.Decoding.{Begins, carriage_return_line_feed, carriage_return, line_feed, escape, other, Decodes, here, next_is, IsSpelling, IsDecoded}
use Rattle.rnc_model.specs.characters.Decoding.{BreaksCharactersAt}
use Rattle.rnc_model.specs.characters.BrokenTexts.{BreaksTextAt}
use Rattle.rnc_text.specs.views.Answers.{GivesOk, GivesFault, IfBroken}
use Rattle.rnc_text.proofs.FrontCharacter.{begins_one, begins_none}
use Rattle.rnc_model.specs.declared.character.Character.{Character}
use Rattle.rnc_text.specs.declared.fault.TextFault.{TextFault}
use Rattle.rnc_text.specs.declared.fault.TextFault.TheVariants.{At, Memory}

-- one more character
pub decodes_then : {ns : List ℕ} {cs : List Character} {mid : List ℕ} → Decodes ns cs mid → (c : Character) (all : List Character) (rest : List ℕ)
    → Begins mid c rest → all ≡ cs ++ c ∷ [] → Decodes ns all rest
decodes_then (here {numbers = ns} {rest = mid} e) c all rest is all-is = subst (λ (ns : List ℕ). Decodes ns all rest) (sym e) (next_is is (here refl) all-is)
decodes_then (next_is {c = d} {cs = cs} p q e) c all rest is all-is =
    next_is p (decodes_then q c (cs ++ c ∷ []) rest is refl) (all-is ∙ ap (λ (x : List Character). x ++ c ∷ []) e)

abbrev Stops : List ℕ → Type 0
Stops ns = (c : Character) (rest : List ℕ) → Begins ns c rest → ⊥

-- two decodings that go as far as possible are equal
pub one_decoding : {ns : List ℕ} {cs : List Character} {rest : List ℕ} → Decodes ns cs rest → Stops rest → (ds : List Character) (end : List ℕ)
    → Decodes ns ds end → Stops end → (cs ≡ ds) × (rest ≡ end)
one_decoding (here {numbers = ns} {rest = rest} e) stops ds end (here f) ends = (refl, sym e ∙ f)
one_decoding (here {numbers = ns} {rest = rest} e) stops ds end (next_is {c = c} {after = after} p q f) ends =
    absurd (stops c after (subst (λ (ns : List ℕ). Begins ns c after) e p))
one_decoding (next_is {c = c} {after = after} p q e) stops ds end (here f) ends = absurd (ends c after (subst (λ (ns : List ℕ). Begins ns c after) f p))
one_decoding (next_is {c = c} {after = after} {cs = cs} p q e) stops ds end (next_is {c = d} {after = after'} {cs = ds'} p' q' f) ends =
    let same = begins_one c d after after' p p' in
    let more = one_decoding q stops ds' end (subst (λ (ns : List ℕ). Decodes ns ds' end) (sym same.1) q') ends in
    (e ∙ ap (λ (c : Character). c ∷ cs) same.0 ∙ ap (λ (x : List Character). d ∷ x) more.0 ∙ sym f, more.1)

spelling_one : (bytes ns ms : List ℕ) → IsSpelling bytes ns → IsSpelling bytes ms → ns ≡ ms
spelling_one bytes ns ms p q = encodes_same ns ms (p.spelled ∙ sym q.spelled)

pub spelling_utf8 : (bytes ns : List ℕ) → IsSpelling bytes ns → IsUtf8 bytes
spelling_utf8 bytes ns p = (ns, (p.scalars, p.spelled))

pub decoded_one : (bytes : List ℕ) (cs ds : List Character) → IsDecoded bytes cs → IsDecoded bytes ds → cs ≡ ds
decoded_one bytes cs ds p q =
    let e = spelling_one bytes p.numbers q.numbers p.spelling q.spelling in
    (one_decoding p.decoded begins_none ds [] (subst (λ (ns : List ℕ). Decodes ns ds []) (sym e) q.decoded) begins_none).0

not_both : (bytes : List ℕ) (cs : List Character) (offset : ℕ) → IsDecoded bytes cs → BreaksCharactersAt bytes offset → ⊥
not_both bytes cs offset p q =
    let e = spelling_one bytes p.numbers q.numbers p.spelling q.spelling in
    let same = one_decoding p.decoded begins_none q.front q.rest (subst (λ (ns : List ℕ). Decodes ns q.front q.rest) (sym e) q.decoded) q.nothing in
    absurd (omega (arith, ap length same.1, q.some))

one_offset : (bytes : List ℕ) (offset second : ℕ) → BreaksCharactersAt bytes offset → BreaksCharactersAt bytes second → offset ≡ second
one_offset bytes offset second p q =
    let e = spelling_one bytes p.numbers q.numbers p.spelling q.spelling in
    let same = one_decoding p.decoded p.nothing q.front q.rest (subst (λ (ns : List ℕ). Decodes ns q.front q.rest) (sym e) q.decoded) q.nothing in
    omega (arith, p.offset_is, q.offset_is, ap (λ (x : List ℕ). length (encode_utf8_all x)) same.1)

not_decoded : (bytes : List ℕ) (cs : List Character) (clause offset : ℕ) → IsDecoded bytes cs → BreaksTextAt bytes clause offset → ⊥
not_decoded bytes cs clause offset p (inl q) = q.1.0 (spelling_utf8 bytes p.numbers p.spelling)
not_decoded bytes cs clause offset p (inr q) = not_both bytes cs offset p q.1

pub fault_one : (bytes : List ℕ) (c p d q : ℕ) → BreaksTextAt bytes c p → BreaksTextAt bytes d q → (c ≡ d) × (p ≡ q)
fault_one bytes c p d q (inl a) (inl b) = (a.0 ∙ sym b.0, sym (utf8_valid_len-IsValidUpTo bytes p a.1.1) ∙ utf8_valid_len-IsValidUpTo bytes q b.1.1)
fault_one bytes c p d q (inl a) (inr b) = absurd (a.1.0 (spelling_utf8 bytes b.1.numbers b.1.spelling))
fault_one bytes c p d q (inr a) (inl b) = absurd (b.1.0 (spelling_utf8 bytes a.1.numbers a.1.spelling))
fault_one bytes c p d q (inr a) (inr b) = (a.0 ∙ sym b.0, one_offset bytes p q a.1 b.1)

-- what a call returns, by what it found
pub gives_text : (bytes : List ℕ) (r : Result (List Character) TextFault) → IfOk r (IsDecoded bytes) → IfErr r (IfBroken (BreaksTextAt bytes))
    → (cs : List Character) → IsDecoded bytes cs → GivesOk (λ t. t) r cs
gives_text bytes (Ok t) found fault cs is = decoded_one bytes t cs found is
gives_text bytes (Err Memory) found fault cs is = tt
gives_text bytes (Err (At c p)) found fault cs is = not_decoded bytes cs c p is fault

pub gives_fault : (bytes : List ℕ) (r : Result (List Character) TextFault) → IfOk r (IsDecoded bytes) → IfErr r (IfBroken (BreaksTextAt bytes))
    → (clause offset : ℕ) → BreaksTextAt bytes clause offset → GivesFault r clause offset
gives_fault bytes (Ok t) found fault clause offset is = not_decoded bytes t clause offset found is
gives_fault bytes (Err Memory) found fault clause offset is = tt
gives_fault bytes (Err (At c p)) found fault clause offset is = fault_one bytes c p clause offset fault is

-- ---- at the characters of a text

pub text_spelling : (bs : List ℕ) → IsUtf8 bs → IsSpelling bs (chars bs)
text_spelling bs u = record { scalars = scalars-chars bs u; spelled = encodes-chars bs u }

pub text_decoded : (bs : List ℕ) (cs : List Character) (rest : List ℕ) → IsUtf8 bs → Decodes (chars bs) cs rest → rest ≡ [] → IsDecoded bs cs
text_decoded bs cs rest u d e = record { numbers = chars bs; spelling = text_spelling bs u; decoded = subst (λ (r : List ℕ). Decodes (chars bs) cs r) e d }

pub text_broken : (bs rest : List ℕ) (cs : List Character) (offset : ℕ) → IsUtf8 bs → IsUtf8 rest → Decodes (chars bs) cs (chars rest) → 0 < length (chars rest)
    → Stops (chars rest) → offset + length rest ≡ length bs → BreaksCharactersAt bs offset
text_broken bs rest cs offset u v d some stops is =
    record {
      numbers = chars bs;
      spelling = text_spelling bs u;
      front = cs;
      rest = chars rest;
      decoded = d;
      some = some;
      nothing = stops;
      offset_is = omega (arith, is, ap length (encodes-chars rest v));
    }

pub some_chars : (bs : List ℕ) → IsUtf8 bs → 0 < length bs → 0 < length (chars bs)
some_chars bs u lt = go (chars bs) (encodes-chars bs u)
  where
    go : (cs : List ℕ) → encode_utf8_all cs ≡ bs → 0 < length cs
    go [] e = absurd (omega (arith, ap length e))
    go (c ∷ cs) e = omega arith

pub no_chars : (bs : List ℕ) → IsUtf8 bs → length bs ≡ 0 → chars bs ≡ []
no_chars bs u e = go (chars bs) (encodes-chars bs u)
  where
    go : (cs : List ℕ) → encode_utf8_all cs ≡ bs → cs ≡ []
    go [] f = refl
    go (c ∷ cs) f = absurd (omega (arith, ap length f, length-le-encodes (c ∷ cs)))

-- ---- a character takes something

-- the numbers that a character consists of
pub record Parts (ns rest : List ℕ) : Type 0 where
  pub front : List ℕ
  pub is : ns ≡ front ++ rest
  pub some : 0 < length front

pub parts : {ns : List ℕ} {c : Character} {rest : List ℕ} → Begins ns c rest → Parts ns rest
parts (carriage_return_line_feed is) = record { front = 0xD ∷ 0xA ∷ []; is = is; some = omega arith }
parts (carriage_return is h) = record { front = 0xD ∷ []; is = is; some = omega arith }
parts (line_feed is) = record { front = 0xA ∷ []; is = is; some = omega arith }
parts (escape {rest = rest} {digits = digits} are c-is h is) =
    record {
      front = 0x5C ∷ 0x78 ∷ 0x7B ∷ (digits ++ 0x7D ∷ []);
      is = is ∙ ap (λ (x : List ℕ). 0x5C ∷ 0x78 ∷ 0x7B ∷ x) (sym (append_assoc digits (0x7D ∷ []) rest));
      some = omega arith;
    }
parts (other {c = c} h1 h2 h3 h4 is) = record { front = c ∷ []; is = is; some = omega arith }

pub front_shorter : (bs after : List ℕ) (c : Character) → IsUtf8 bs → IsUtf8 after → Begins (chars bs) c (chars after) → length after < length bs
front_shorter bs after c u v b =
    let p = parts b in
    let e : bs ≡ encode_utf8_all p.front ++ after = sym (encodes-chars bs u) ∙ ap encode_utf8_all p.is ∙ encodes-append p.front (chars after)
    ∙ ap (λ (x : List ℕ). encode_utf8_all p.front ++ x) (encodes-chars after v) in
    omega (arith, ap length e, length-append (encode_utf8_all p.front) after, length-le-encodes p.front, p.some)

pub not_empty : (bs : List ℕ) → eqb (length bs) 0 ≡ false → 0 < length bs
not_empty [] e = absurd cc
not_empty (b ∷ bs) e = omega arith
