-- A text with whole escapes is cut into single characters and escapes.
use Rattle.std.proofs.Common.{◌≡◌, ◌≤◌, ◌<◌, ℕ, zero, suc, List, [], ◌∷◌, ◌++◌, length, Bool, true, false, not, ◌&&◌, ◌||◌}
use Rattle.std.proofs.Common.{refl, sym, ap, subst, arith, ◌∙◌, inl, inr, leb-true}
use Rattle.std.specs.Prelude.{nat_le}
use Rattle.std.specs.List.{list_all}
use Rattle.std.proofs.lemmas.Bool.{and_from, and_parts, or_left, or_cases, not-true, not_from_false, false≢true}
use Rattle.std.proofs.lemmas.Bool.{agree_below, agree_below_at, and_cases, eqb-true}
use Rattle.xsd_uris.specs.plain.UriShapes.{is, none, is_hex, begin_escape, are_escapes_whole}
use Rattle.xsd_uris.proofs.Escapes.{is_char, IsText, text_behind, text_of_char}

-- ---- hexadecimal digits

in_range : (a b c : ℕ) → (nat_le a c && nat_le c b) ≡ true → c ≤ b
in_range a b c h = leb-true c b (and_parts (nat_le a c) (nat_le c b) h).1

hex_small : (c : ℕ) → is_hex c ≡ true → c < 128
hex_small c h =
    elim (or_cases (nat_le 0x30 c && nat_le c 0x39) _ h) [
      | inl a ↦ let l : c ≤ 0x39 = in_range 0x30 0x39 c a in omega arith
      | inr g ↦ elim (or_cases (nat_le 0x41 c && nat_le c 0x46) _ g) [
        | inl a ↦ let l : c ≤ 0x46 = in_range 0x41 0x46 c a in omega arith
        | inr f ↦ elim (or_cases (nat_le 0x61 c && nat_le c 0x66) false f) [
          | inl a ↦ let l : c ≤ 0x66 = in_range 0x61 0x66 c a in omega arith
          | inr e ↦ absurd (false≢true e)
        ]
      ]
    ]

-- a test that no hexadecimal digit passes
pub hex_not : (q : ℕ → Bool) → agree_below (λ a. is_hex a && q a) (λ a. false) 128 ≡ true → (a : ℕ) → is_hex a ≡ true → q a ≡ false
hex_not q all a h = by (agree_below_at (λ a. is_hex a && q a) (λ a. false) 128 a all (hex_small a h)) where
  by : (is_hex a && q a) ≡ false → q a ≡ false
  by e = elim (and_cases (is_hex a) (q a) e) [ inl n ↦ absurd (false≢true (sym n ∙ h)) | inr n ↦ n ]

-- ---- pieces

pub data Piece (p : ℕ → Bool) (u : List ℕ) : Type 0 where
  a_char : (c : ℕ) → is 0x25 c ≡ false → is_char c ≡ true → p c ≡ false → u ≡ c ∷ [] → Piece p u
  an_escape : (a b : ℕ) → is_hex a ≡ true → is_hex b ≡ true → u ≡ 0x25 ∷ a ∷ b ∷ [] → Piece p u

-- the test passes over `%` and hexadecimal digits
pub record SparesEscapes (p : ℕ → Bool) : Type 0 where
  pub percent : p 0x25 ≡ false
  pub hexes : agree_below (λ a. is_hex a && p a) (λ a. false) 128 ≡ true

no_percent : (a : ℕ) → is_hex a ≡ true → is 0x25 a ≡ false
no_percent = hex_not (is 0x25) refl

a_code : (a : ℕ) → is_hex a ≡ true → is_char a ≡ true
a_code a h = by (hex_not (λ c. not (is_char c)) refl a h) where
  by : not (is_char a) ≡ false → is_char a ≡ true
  by e = elim (or_cases (is_char a) (not (is_char a)) (either_way (is_char a))) [ inl t ↦ t | inr f ↦ absurd (false≢true (sym e ∙ f)) ] where
    either_way : (b : Bool) → (b || not b) ≡ true
    either_way true = refl
    either_way false = refl

pub piece_text : (p : ℕ → Bool) → SparesEscapes p → (u : List ℕ) → Piece p u → IsText p u
piece_text p spares u (a_char c e k h is) = subst (IsText p) (sym is) (text_of_char p c e k h)
piece_text p spares u (an_escape a b x y is) = subst (IsText p) (sym is) whole where
  whole : IsText p (0x25 ∷ a ∷ b ∷ [])
  whole = record {
    escapes = and_from _ _ (and_from _ _ x y)
        (and_from _ _ (or_left _ _ (not_from_false _ (no_percent a x))) (and_from _ _ (or_left _ _ (not_from_false _ (no_percent b y))) refl));
    chars = and_from _ _ (a_code a x) (and_from _ _ (a_code b y) refl);
    others = and_from _ _ (not_from_false _ spares.percent)
        (and_from _ _ (not_from_false _ (hex_not p spares.hexes a x)) (and_from _ _ (not_from_false _ (hex_not p spares.hexes b y)) refl));
  }

-- ---- the first piece of a text, and what is behind it

pub record FirstPiece (p : ℕ → Bool) (s : List ℕ) : Type 0 where
  pub front : List ℕ
  pub rest : List ℕ
  pub piece : Piece p front
  pub behind : IsText p rest
  pub parts : s ≡ front ++ rest
  pub shorter : length rest < length s

pub first_piece : (p : ℕ → Bool) (c : ℕ) (s : List ℕ) → IsText p (c ∷ s) → FirstPiece p (c ∷ s)
first_piece p c s t = by (is 0x25 c) refl s t where
  by : (b : Bool) → is 0x25 c ≡ b → (s : List ℕ) → IsText p (c ∷ s) → FirstPiece p (c ∷ s)
  by false e s t = record {
    front = c ∷ [];
    rest = s;
    piece = a_char c e (and_parts (is_char c) (list_all is_char s) t.chars).0 (not-true _ (and_parts (not (p c)) (none p s) t.others).0) refl;
    behind = text_behind p (c ∷ []) s t;
    parts = refl;
    shorter = omega arith;
  }
  by true e s t = escape s t (begins (is 0x25 c) e (and_parts (not (is 0x25 c) || begin_escape s) (are_escapes_whole s) t.escapes).0) where
    begins : (b : Bool) → b ≡ true → (not b || begin_escape s) ≡ true → begin_escape s ≡ true
    begins true f h = h
    begins false f h = absurd (false≢true f)

    escape : (s : List ℕ) → IsText p (c ∷ s) → begin_escape s ≡ true → FirstPiece p (c ∷ s)
    escape [] t h = absurd (false≢true h)
    escape (a ∷ []) t h = absurd (false≢true h)
    escape (a ∷ b ∷ s) t h =
        let f = and_parts (is_hex a) (is_hex b) h in
        record {
          front = c ∷ a ∷ b ∷ [];
          rest = s;
          piece = an_escape a b f.0 f.1 (ap (λ d. d ∷ a ∷ b ∷ []) (eqb-true c 0x25 e));
          behind = text_behind p (c ∷ a ∷ b ∷ []) s t;
          parts = refl;
          shorter = omega arith;
        }

-- what holds of nothing, and of a piece before a text of which it holds, holds of each text
module _ (p : ℕ → Bool) (P : List ℕ → Type 0) (empty : P []) (more : (u s : List ℕ) → Piece p u → P s → P (u ++ s)) where
  within : (n : ℕ) (s : List ℕ) → length s ≤ n → IsText p s → P s
  within n [] l t = empty
  within zero (c ∷ s) l t = absurd (omega arith)
  within (suc n) (c ∷ s) l t =
      let f : FirstPiece p (c ∷ s) = first_piece p c s t in
      subst P (sym f.parts) (more f.front f.rest f.piece (within n f.rest (omega (arith, f.shorter)) f.behind))

  pub by_pieces : (s : List ℕ) → IsText p s → P s
  by_pieces s t = within (length s) s (omega arith) t
