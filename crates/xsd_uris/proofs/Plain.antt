-- Expressions whose characters are all of ASCII, none of them `%`.
use Rattle.std.proofs.Common.{◌≡◌, ◌≤◌, ℕ, List, [], ◌∷◌, Bool, true, false, ◌&&◌, ◌||◌, sym, arith, ◌∙◌, inl, inr, leb-true, le-leb}
use Rattle.std.specs.Prelude.{nat_le}
use Rattle.std.specs.List.{list_all}
use Rattle.std.proofs.lemmas.Bool.{and_parts, or_cases, or_parts, and_cases, false≢true, agree_below, agree_below_at}
use Rattle.rng_model.specs.names.Names.{is_in_ranges}
use Rattle.rng_model.specs.regexes.Expressions.{ranges, Class, holds, Regex, nothing_more, one_of, both, either, times, Denotes, one_is}
use Rattle.xsd_uris.specs.plain.UriShapes.{is}
use Rattle.xsd_uris.proofs.Escapes.{IsText, text_of_char}
use Rattle.xsd_uris.proofs.Classes.{both_text, either_text, times_text, nothing_text}

abbrev pub is_plain_class : (ℕ → Bool) → Class → Bool
is_plain_class p (ranges rs) = list_all (λ r. nat_le r.1 127) rs && agree_below (λ c. is_in_ranges rs c && (p c || is 0x25 c)) (λ c. false) 128
is_plain_class p _ = false

-- no class has a character that passes the test
abbrev pub is_plain : (ℕ → Bool) → Regex → Bool
is_plain p nothing_more = true
is_plain p (one_of k) = is_plain_class p k
is_plain p (both a b) = is_plain p a && is_plain p b
is_plain p (either a b) = is_plain p a && is_plain p b
is_plain p (times n o a) = is_plain p a

pub in_ascii : (rs : List (ℕ × ℕ)) (c : ℕ) → list_all (λ r. nat_le r.1 127) rs ≡ true → is_in_ranges rs c ≡ true → c ≤ 127
in_ascii [] c a h = absurd (false≢true h)
in_ascii (r ∷ rs) c a h =
    let f = and_parts (nat_le r.1 127) (list_all (λ r. nat_le r.1 127) rs) a in
    elim (or_cases (nat_le r.0 c && nat_le c r.1) (is_in_ranges rs c) h) [
      | inl e ↦ let g = and_parts (nat_le r.0 c) (nat_le c r.1) e in omega (arith, leb-true c r.1 g.1, leb-true r.1 127 f.0)
      | inr e ↦ in_ascii rs c f.1 e
    ]

module _ (p : ℕ → Bool) where
  class_text : (k : Class) → is_plain_class p k ≡ true → (c : ℕ) → holds k c ≡ true → IsText p (c ∷ [])
  class_text (ranges rs) h c k =
      let f = and_parts (list_all (λ r. nat_le r.1 127) rs) (agree_below (λ c. is_in_ranges rs c && (p c || is 0x25 c)) (λ c. false) 128) h in
      let l : c ≤ 127 = in_ascii rs c f.0 k in
      by l (agree_below_at (λ c. is_in_ranges rs c && (p c || is 0x25 c)) (λ c. false) 128 c f.1 (omega arith)) where
        by : c ≤ 127 → (is_in_ranges rs c && (p c || is 0x25 c)) ≡ false → IsText p (c ∷ [])
        by l e = elim (and_cases (is_in_ranges rs c) (p c || is 0x25 c) e) [
          | inl n ↦ absurd (false≢true (sym n ∙ k))
          | inr n ↦ let g = or_parts (p c) (is 0x25 c) n in text_of_char p c g.1 (le-leb c 0x10FFFF (omega arith)) g.0
        ]
  class_text _ h c k = absurd (false≢true h)

  pub plain_text : (r : Regex) → is_plain p r ≡ true → (s : List ℕ) → Denotes r s → IsText p s
  plain_text nothing_more h = nothing_text p
  plain_text (one_of k) h = by where
    by : (s : List ℕ) → Denotes (one_of k) s → IsText p s
    by _ (one_is {c} e) = class_text k h c e
  plain_text (both a b) h =
      let f = and_parts (is_plain p a) (is_plain p b) h in both_text p a b (plain_text a f.0) (plain_text b f.1)
  plain_text (either a b) h =
      let f = and_parts (is_plain p a) (is_plain p b) h in either_text p a b (plain_text a f.0) (plain_text b f.1)
  plain_text (times n o a) h = times_text p n o a (plain_text a h)
