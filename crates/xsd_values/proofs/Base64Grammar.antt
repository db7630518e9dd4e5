-- The grammar of base64Binary, production by production (XML Schema Part 2, Second Edition, section 3.2.16), and that the
-- collapsed texts of it are those that have groups of characters once the blanks are taken out.
use Rattle.std.proofs.Common.{codes, ◌≡◌, ◌⊎◌, inl, inr, ℕ, List, [], ◌∷◌, Bool, true, false, refl, sym, ap, ◌∙◌, cond, not, ◌&&◌, ◌||◌, ◌==◌}
use Rattle.std.proofs.lemmas.Bool.{and_from, or_cases, or_left, or_right, eqb-true, cases_Bool, false≢true}
use Rattle.rng_model.specs.datatypes.Texts.{is_blank_byte}
use Rattle.rng_model.specs.xsd.primitives.Octets.{is_b64, is_b16, is_b04, is_padding, is_full, is_last, are_base64_groups, without_blanks}

-- ---- the grammar

-- B64S, B16S and B04S: a character that passes the test, and perhaps a space; then the rest of the text
pub data Takes (test : ℕ → Bool) : List ℕ → List ℕ → Type 0 where
  alone : {c : ℕ} {rest : List ℕ} → test c ≡ true → Takes test (c ∷ rest) rest
  with_space : {c : ℕ} {rest : List ℕ} → test c ≡ true → Takes test (c ∷ 0x20 ∷ rest) rest

-- (B64S B64S B64S B64S)*, and a last group
pub data AreGroups : List ℕ → Type 0 where
  group_and : {s t u v w : List ℕ} → Takes is_b64 s t → Takes is_b64 t u → Takes is_b64 u v → Takes is_b64 v w → AreGroups w → AreGroups s
  -- B64S B64S B64S B64
  three_octets : {s t u : List ℕ} {d : ℕ} → Takes is_b64 s t → Takes is_b64 t u → Takes is_b64 u (d ∷ []) → is_b64 d ≡ true → AreGroups s
  -- B64S B64S B16S '='
  two_octets : {s t u v : List ℕ} → Takes is_b64 s t → Takes is_b64 t u → Takes is_b16 u v → v ≡ codes "=" → AreGroups s
  -- B64S B04S '=' #x20? '='
  one_octet : {s t u : List ℕ} → Takes is_b64 s t → Takes is_b04 t u → (u ≡ codes "==") ⊎ (u ≡ codes "= =") → AreGroups s

pub data IsBase64Binary : List ℕ → Type 0 where
  nothing : IsBase64Binary []
  groups : {s : List ℕ} → AreGroups s → IsBase64Binary s

-- ---- a text of the grammar has groups

blank_is : (c : ℕ) → is_blank_byte c ≡ true → (c ≡ 32) ⊎ ((c ≡ 9) ⊎ ((c ≡ 10) ⊎ (c ≡ 13)))
blank_is c e = elim (or_cases (c == 32) ((c == 9) || ((c == 10) || (c == 13))) e) [ inl p ↦ inl (eqb-true c 32 p) | inr q ↦ inr (more q) ]
  where
    last : ((c == 10) || (c == 13)) ≡ true → (c ≡ 10) ⊎ (c ≡ 13)
    last q = elim (or_cases (c == 10) (c == 13) q) [ inl p ↦ inl (eqb-true c 10 p) | inr r ↦ inr (eqb-true c 13 r) ]

    more : ((c == 9) || ((c == 10) || (c == 13))) ≡ true → (c ≡ 9) ⊎ ((c ≡ 10) ⊎ (c ≡ 13))
    more q = elim (or_cases (c == 9) ((c == 10) || (c == 13)) q) [ inl p ↦ inl (eqb-true c 9 p) | inr r ↦ inr (last r) ]

-- a test that no blank passes
abbrev NoBlank : (ℕ → Bool) → Type 0
NoBlank test = (c : ℕ) → test c ≡ true → is_blank_byte c ≡ false

no_blank : (test : ℕ → Bool) → test 32 ≡ false → test 9 ≡ false → test 10 ≡ false → test 13 ≡ false → NoBlank test
no_blank test p q r s c passes = elim (cases_Bool (is_blank_byte c)) [ inl b ↦ absurd (none (blank_is c b)) | inr n ↦ n ]
  where
    fails : (n : ℕ) → test n ≡ false → c ≡ n → ⊥
    fails n f e = false≢true (sym f ∙ (ap test (sym e) ∙ passes))

    none : (c ≡ 32) ⊎ ((c ≡ 9) ⊎ ((c ≡ 10) ⊎ (c ≡ 13))) → ⊥
    none (inl e) = fails 32 p e
    none (inr (inl e)) = fails 9 q e
    none (inr (inr (inl e))) = fails 10 r e
    none (inr (inr (inr e))) = fails 13 s e

b64_no_blank : NoBlank is_b64
b64_no_blank = no_blank is_b64 refl refl refl refl

b16_no_blank : NoBlank is_b16
b16_no_blank = no_blank is_b16 refl refl refl refl

b04_no_blank : NoBlank is_b04
b04_no_blank = no_blank is_b04 refl refl refl refl

pub kept : (c : ℕ) (rest : List ℕ) → is_blank_byte c ≡ false → without_blanks (c ∷ rest) ≡ c ∷ without_blanks rest
kept c rest e = ap (λ b. cond (not b) (c ∷ without_blanks rest) (without_blanks rest)) e

taken : {test : ℕ → Bool} {s t : List ℕ} → NoBlank test → Takes test s t → (c : ℕ) × (test c ≡ true) × (without_blanks s ≡ c ∷ without_blanks t)
taken none (alone {c} {rest} e) = (c, e, kept c rest (none c e))
taken none (with_space {c} {rest} e) = (c, e, kept c (0x20 ∷ rest) (none c e))

four : (a b c d : ℕ) → is_b64 a ≡ true → is_b64 b ≡ true → is_b64 c ≡ true → is_b64 d ≡ true → is_full a b c d ≡ true
four a b c d p q r s = and_from (is_b64 a && is_b64 b) (is_b64 c && is_b64 d) (and_from (is_b64 a) (is_b64 b) p q) (and_from (is_b64 c) (is_b64 d) r s)

-- the text has a character, and groups
record HasGroups (s : List ℕ) : Type 0 where
  first : ℕ
  rest : List ℕ
  is : without_blanks s ≡ first ∷ rest
  good : are_base64_groups (first ∷ rest) ≡ true

has_groups : {s : List ℕ} → AreGroups s → HasGroups s
has_groups (group_and p q r k more) =
    let a = taken b64_no_blank p in
    let b = taken b64_no_blank q in
    let c = taken b64_no_blank r in
    let d = taken b64_no_blank k in
    let g = has_groups more in
    record {
      first = a.0;
      rest = b.0 ∷ c.0 ∷ d.0 ∷ g.first ∷ g.rest;
      is = cc (a.2, b.2, c.2, d.2, g.is);
      good = and_from (is_full a.0 b.0 c.0 d.0) (are_base64_groups (g.first ∷ g.rest)) (four a.0 b.0 c.0 d.0 a.1 b.1 c.1 d.1) g.good;
    }
has_groups (three_octets {d = d} p q r e) =
    let a = taken b64_no_blank p in
    let b = taken b64_no_blank q in
    let c = taken b64_no_blank r in
    let k = kept d [] (b64_no_blank d e) in
    record {
      first = a.0;
      rest = b.0 ∷ c.0 ∷ d ∷ [];
      is = cc (a.2, b.2, c.2, k);
      good = or_left (is_full a.0 b.0 c.0 d) (is_last a.0 b.0 c.0 d) (four a.0 b.0 c.0 d a.1 b.1 c.1 e);
    }
has_groups (two_octets p q r e) =
    let a = taken b64_no_blank p in
    let b = taken b64_no_blank q in
    let c = taken b16_no_blank r in
    let k = ap without_blanks e in
    record {
      first = a.0;
      rest = b.0 ∷ c.0 ∷ 0x3D ∷ [];
      is = cc (a.2, b.2, c.2, k);
      good = or_right (is_full a.0 b.0 c.0 0x3D) (is_last a.0 b.0 c.0 0x3D) (ending_two a.0 b.0 c.0 a.1 b.1 c.1);
    }
  where
    ending_two : (a b c : ℕ) → is_b64 a ≡ true → is_b64 b ≡ true → is_b16 c ≡ true → is_last a b c 0x3D ≡ true
    ending_two a b c p q r =
        and_from (is_b64 a && is_padding 0x3D) ((is_b64 b && is_b16 c) || (is_b04 b && is_padding c)) (and_from (is_b64 a) true p refl)
        (or_left (is_b64 b && is_b16 c) (is_b04 b && is_padding c) (and_from (is_b64 b) (is_b16 c) q r))
has_groups (one_octet p q e) =
    let a = taken b64_no_blank p in
    let b = taken b04_no_blank q in
    let k = padded e in
    record {
      first = a.0;
      rest = b.0 ∷ 0x3D ∷ 0x3D ∷ [];
      is = cc (a.2, b.2, k);
      good = or_right (is_full a.0 b.0 0x3D 0x3D) (is_last a.0 b.0 0x3D 0x3D) (ending_one a.0 b.0 a.1 b.1);
    }
  where
    padded : {u : List ℕ} → (u ≡ codes "==") ⊎ (u ≡ codes "= =") → without_blanks u ≡ 0x3D ∷ 0x3D ∷ []
    padded (inl e) = ap without_blanks e
    padded (inr e) = ap without_blanks e

    ending_one : (a b : ℕ) → is_b64 a ≡ true → is_b04 b ≡ true → is_last a b 0x3D 0x3D ≡ true
    ending_one a b p q =
        and_from (is_b64 a && is_padding 0x3D) ((is_b64 b && is_b16 0x3D) || (is_b04 b && is_padding 0x3D)) (and_from (is_b64 a) true p refl)
        (or_right (is_b64 b && is_b16 0x3D) (is_b04 b && is_padding 0x3D) (and_from (is_b04 b) true q refl))

pub groups_if_grammar : {s : List ℕ} → IsBase64Binary s → are_base64_groups (without_blanks s) ≡ true
groups_if_grammar nothing = refl
groups_if_grammar (groups g) = let h = has_groups g in ap are_base64_groups h.is ∙ h.good
