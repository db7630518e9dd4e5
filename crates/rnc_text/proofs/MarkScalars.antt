-- The numbers of marks are scalar values. So their text has a UTF-8 form, which decodes to their characters.
use Rattle.std.proofs.Common.{◌≡◌, inl, inr, ℕ, ◌≤◌, ◌<◌, Bool, true, false, cond, List, [], ◌∷◌, ◌++◌, flat_map, refl, sym, subst, arith}
use Rattle.std.specs.Prelude.{◌&&◌, ◌||◌, ◌==◌, not, nat_lt, nat_le}
use Rattle.std.specs.List.{list_all}
use Rattle.std.specs.Str.{all_scalars}
use Rattle.std.specs.Char.{IsScalar}
use Rattle.std.proofs.lemmas.Bool.{eqb-true, and_parts, or_cases, leb-true, lt-ltb, le-ltb, le-leb, false≢true, and_from}
use Rattle.rng_model.specs.names.Names.{is_xml_char}
use Rattle.rnc_model.specs.tokens.Tokens.{is_quote}
use Rattle.rnc_text.specs.plain.Marks.{Mark, space, line_end, word, cname, ns_name, segment, sign, sign_text, mark_text, text_of_marks, IsReadBack, is_within}
use Rattle.rnc_text.specs.plain.Marks.{IsMark, AreParted, MarksAreDecoded}
use Rattle.rnc_text.proofs.MarksDecoded.{is_plain, ncname_plain, sign_plain, marks_decode}

low_char : (c : ℕ) → c < 55296 → IsScalar c
low_char c h = rw (lt-ltb c 55296 h) refl

high_char : (c : ℕ) → 57344 ≤ c → c < 1114112 → IsScalar c
high_char c h i = rw (le-ltb c 55296 (omega (arith, h)), le-leb 57344 c h, lt-ltb c 1114112 i) refl

-- the two ends of a range
pub ends : (a b c : ℕ) → (nat_le a c && nat_le c b) ≡ true → (a ≤ c) × (c ≤ b)
ends a b c h = let p = and_parts (nat_le a c) (nat_le c b) h in (leb-true a c p.0, leb-true c b p.1)

xml_scalar : (c : ℕ) → is_xml_char c ≡ true → IsScalar c
xml_scalar c h = elim (or_cases (nat_le 0x9 c && nat_le c 0xA) _ h) [
  | inl e ↦ low_char c (let p = ends 0x9 0xA c e in omega (arith, p.1))
  | inr e ↦ second e
]
  where
    last : ((nat_le 0x10000 c && nat_le c 0x10FFFF) || false) ≡ true → IsScalar c
    last h = elim (or_cases (nat_le 0x10000 c && nat_le c 0x10FFFF) false h) [
      | inl e ↦ high_char c (let p = ends 0x10000 0x10FFFF c e in omega (arith, p.0)) (let p = ends 0x10000 0x10FFFF c e in omega (arith, p.1))
      | inr e ↦ absurd (false≢true e)
    ]

    fourth : ((nat_le 0xE000 c && nat_le c 0xFFFD) || ((nat_le 0x10000 c && nat_le c 0x10FFFF) || false)) ≡ true → IsScalar c
    fourth h = elim (or_cases (nat_le 0xE000 c && nat_le c 0xFFFD) _ h) [
      | inl e ↦ high_char c (let p = ends 0xE000 0xFFFD c e in omega (arith, p.0)) (let p = ends 0xE000 0xFFFD c e in omega (arith, p.1))
      | inr e ↦ last e
    ]

    third : ((nat_le 0x20 c && nat_le c 0xD7FF) || ((nat_le 0xE000 c && nat_le c 0xFFFD) || ((nat_le 0x10000 c && nat_le c 0x10FFFF) || false))) ≡ true
        → IsScalar c
    third h = elim (or_cases (nat_le 0x20 c && nat_le c 0xD7FF) _ h) [
      | inl e ↦ low_char c (let p = ends 0x20 0xD7FF c e in omega (arith, p.1))
      | inr e ↦ fourth e
    ]

    second : ((nat_le 0xD c && nat_le c 0xD) ||
        ((nat_le 0x20 c && nat_le c 0xD7FF) || ((nat_le 0xE000 c && nat_le c 0xFFFD) || ((nat_le 0x10000 c && nat_le c 0x10FFFF) || false)))) ≡ true
        → IsScalar c
    second h = elim (or_cases (nat_le 0xD c && nat_le c 0xD) _ h) [
      | inl e ↦ low_char c (let p = ends 0xD 0xD c e in omega (arith, p.1))
      | inr e ↦ third e
    ]

abbrev scalar : ℕ → Bool
scalar c = cond (nat_lt c 55296) true (nat_le 57344 c && nat_lt c 1114112)

scalars_both : (xs ys : List ℕ) → all_scalars xs ≡ true → all_scalars ys ≡ true → all_scalars (xs ++ ys) ≡ true
scalars_both [] ys h i = i
scalars_both (x ∷ xs) ys h i = let p = and_parts (scalar x) (all_scalars xs) h in and_from (scalar x) (all_scalars (xs ++ ys)) p.0 (scalars_both xs ys p.1 i)

plain_scalars : (w : List ℕ) → list_all is_plain w ≡ true → all_scalars w ≡ true
plain_scalars [] h = refl
plain_scalars (c ∷ w) h =
    let p = and_parts (is_plain c) (list_all is_plain w) h in
    let x = and_parts (is_xml_char c) _ p.0 in
    and_from (scalar c) (all_scalars w) (xml_scalar c x.0) (plain_scalars w p.1)

within_scalars : (written : ℕ → List ℕ) → IsReadBack written → (q : ℕ) (w : List ℕ) → list_all (is_within q) w ≡ true → all_scalars (flat_map written w) ≡ true
within_scalars written back q [] h = refl
within_scalars written back q (c ∷ w) h =
    let p = and_parts (is_within q c) (list_all (is_within q) w) h in
    let r = and_parts (is_xml_char c) (not (c == q)) p.0 in
    scalars_both (written c) (flat_map written w) (back.scalars c (xml_scalar c r.0)) (within_scalars written back q w p.1)

quote_scalar : (q : ℕ) → is_quote q ≡ true → IsScalar q
quote_scalar q h = elim (or_cases (q == 0x22) (q == 0x27) h) [
  | inl e ↦ subst (λ (x : ℕ). IsScalar x) (sym (eqb-true q 0x22 e)) refl
  | inr e ↦ subst (λ (x : ℕ). IsScalar x) (sym (eqb-true q 0x27 e)) refl
]

mark_scalars : (written : ℕ → List ℕ) → IsReadBack written → (k : Mark) → IsMark k → all_scalars (mark_text written k) ≡ true
mark_scalars written back space h = refl
mark_scalars written back line_end h = refl
mark_scalars written back (word w) h = plain_scalars w (ncname_plain w h)
mark_scalars written back (cname p l) h = scalars_both p (0x3A ∷ l) (plain_scalars p (ncname_plain p h.0)) (plain_scalars l (ncname_plain l h.1))
mark_scalars written back (ns_name p) h = scalars_both p (0x3A ∷ 0x2A ∷ []) (plain_scalars p (ncname_plain p h)) refl
mark_scalars written back (segment q w) h =
    and_from (scalar q) _ (quote_scalar q h.0)
    (scalars_both (flat_map written w) (q ∷ []) (within_scalars written back q w h.1) (and_from (scalar q) true (quote_scalar q h.0) refl))
mark_scalars written back (sign s) h = plain_scalars (sign_text s) (sign_plain s)

text_scalars : (written : ℕ → List ℕ) → IsReadBack written → (ms : List Mark) → AreParted ms → all_scalars (text_of_marks written ms) ≡ true
text_scalars written back [] h = refl
text_scalars written back (m ∷ ms) h =
    scalars_both (mark_text written m) (text_of_marks written ms) (mark_scalars written back m h.0) (text_scalars written back ms h.2)

-- the bytes of marks decode to their characters
pub marks_decoded : MarksAreDecoded
marks_decoded written back ms h = record {
  numbers = text_of_marks written ms;
  spelling = record { scalars = text_scalars written back ms h; spelled = refl };
  decoded = marks_decode written back ms h;
}
