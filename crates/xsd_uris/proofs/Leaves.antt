-- The productions that match one character of a class or an escape.
use Rattle.std.proofs.Common.{◌≡◌, ◌≤◌, ◌<◌, ℕ, List, [], ◌∷◌, ◌++◌, Bool, true, false, not, ◌&&◌, ◌||◌}
use Rattle.std.proofs.Common.{refl, sym, ap, subst, arith, ◌∙◌, inl, inr, leb-true, le-leb}
use Rattle.std.specs.Prelude.{nat_le}
use Rattle.std.specs.List.{list_all}
use Rattle.std.proofs.lemmas.Bool.{and_from, and_parts, or_left, or_right, or_cases, or_from, or_parts, not-true, not_from_false, false≢true}
use Rattle.std.proofs.lemmas.Bool.{agree_below, agree_below_at, cases_lt, ne_eqb}
use Rattle.rng_model.specs.names.Names.{is_in_ranges}
use Rattle.rng_model.specs.regexes.Expressions.{ranges, holds, Regex, nothing_more, one_of, both, either, times}
use Rattle.rng_model.specs.regexes.Expressions.{Denotes, nothing_is, one_is, both_are, first_is, second_is}
use Rattle.rng_model.specs.xsd.UriCharacters.{in_order, many, some, hex, the, escaped, to_escape}
use Rattle.xsd_uris.specs.plain.UriShapes.{is, is_hex}
use Rattle.xsd_uris.proofs.Escapes.{is_char, IsText, no_text, texts_join}
use Rattle.xsd_uris.proofs.Notation.{the_before, before_the, many_none, many_more, some_from, times_keep}
use Rattle.xsd_uris.proofs.Pieces.{Piece, a_char, an_escape, SparesEscapes, piece_text, FirstPiece, first_piece, by_pieces}

-- ---- escapes

abbrev escape : Regex
escape = in_order (the 0x25 ∷ hex ∷ hex ∷ [])

escape_is : (p : ℕ → Bool) (u : List ℕ) → Denotes escape u → Piece p u
escape_is p u m = let b = the_before 0x25 (both hex (both hex nothing_more)) u m in by b.rest b.matched b.whole where
  by : (t : List ℕ) → Denotes (both hex (both hex nothing_more)) t → u ≡ 0x25 ∷ t → Piece p u
  by t (both_are (one_is {c = a} h) (both_are (one_is {c = b} k) nothing_is f) e) w =
      an_escape a b h k (w ∙ ap (λ x. 0x25 ∷ x) (e ∙ ap (λ x. a ∷ x) f))

escape_from : (a b : ℕ) → is_hex a ≡ true → is_hex b ≡ true → Denotes escape (0x25 ∷ a ∷ b ∷ [])
escape_from a b h k = before_the 0x25 (both hex (both hex nothing_more)) (a ∷ b ∷ []) (both_are (one_is h) (both_are (one_is k) nothing_is refl) refl)

-- ---- one of several classes, or an escape

abbrev pub one : Regex → ℕ → Bool
one (one_of k) c = holds k c
one (either a b) c = one a c || one b c
one _ c = false

abbrev pub IsLeaf : Regex → Type 0
IsLeaf (one_of (ranges rs)) = list_all (λ r. is_char r.1) rs ≡ true
IsLeaf (either a b) = IsLeaf a × IsLeaf b
IsLeaf (both a b) = both a b ≡ escape
IsLeaf _ = ⊥

data LeafCase (r : Regex) (u : List ℕ) : Type 0 where
  by_char : (c : ℕ) → one r c ≡ true → is_char c ≡ true → u ≡ c ∷ [] → LeafCase r u
  by_escape : Denotes escape u → LeafCase r u

in_bounds : (rs : List (ℕ × ℕ)) (c : ℕ) → list_all (λ r. is_char r.1) rs ≡ true → is_in_ranges rs c ≡ true → is_char c ≡ true
in_bounds [] c a h = absurd (false≢true h)
in_bounds (r ∷ rs) c a h =
    let f = and_parts (is_char r.1) (list_all (λ r. is_char r.1) rs) a in
    elim (or_cases (nat_le r.0 c && nat_le c r.1) (is_in_ranges rs c) h) [
      | inl e ↦ let g = and_parts (nat_le r.0 c) (nat_le c r.1) e in le-leb c 0x10FFFF (omega (arith, leb-true c r.1 g.1, leb-true r.1 0x10FFFF f.0))
      | inr e ↦ in_bounds rs c f.1 e
    ]

leaf_is : (r : Regex) → IsLeaf r → (u : List ℕ) → Denotes r u → LeafCase r u
leaf_is nothing_more l u m = absurd l
leaf_is (one_of (ranges rs)) l _ (one_is {c} h) = by_char c h (in_bounds rs c l h) refl
leaf_is (one_of k) l u m = absurd l
leaf_is (either a b) l u (first_is m) =
    elim (leaf_is a l.0 u m) [ by_char c h k e ↦ by_char c (or_left _ _ h) k e | by_escape f ↦ by_escape f ]
leaf_is (either a b) l u (second_is m) =
    elim (leaf_is b l.1 u m) [ by_char c h k e ↦ by_char c (or_right _ _ h) k e | by_escape f ↦ by_escape f ]
leaf_is (both a b) l u m = by_escape (subst (λ r. Denotes r u) l m)
leaf_is (times n o a) l u m = absurd l

pub one_then : (r : Regex) (c : ℕ) → one r c ≡ true → Denotes r (c ∷ [])
one_then nothing_more c h = absurd (false≢true h)
one_then (one_of k) c h = one_is h
one_then (either a b) c h = elim (or_cases (one a c) (one b c) h) [ inl e ↦ first_is (one_then a c e) | inr e ↦ second_is (one_then b c e) ]
one_then (both a b) c h = absurd (false≢true h)
one_then (times n o a) c h = absurd (false≢true h)

-- a production of this kind matches the characters that do not pass the test
pub record Leaf (p : ℕ → Bool) (r : Regex) : Type 0 where
  pub leaf : IsLeaf r
  pub spares : SparesEscapes p
  pub far : (c : ℕ) → 128 ≤ c → p c ≡ false
  pub exact : agree_below (one r) (λ c. not (p c || is 0x25 c)) 128 ≡ true
  pub embed : (u : List ℕ) → Denotes escaped u → Denotes r u

pub far_from : (d c : ℕ) → d < 128 → 128 ≤ c → is d c ≡ false
far_from d c l h = ne_eqb c d (λ e. omega arith)

in_last : (rs : List (ℕ × ℕ)) (r : ℕ × ℕ) (c : ℕ) → (nat_le r.0 c && nat_le c r.1) ≡ true → is_in_ranges (rs ++ r ∷ []) c ≡ true
in_last [] r c h = or_left _ _ h
in_last (q ∷ rs) r c h = or_right _ _ (in_last rs r c h)

to_be_escaped : (c : ℕ) → 128 ≤ c → is_char c ≡ true → Denotes to_escape (c ∷ [])
to_be_escaped c h k = one_is (in_last front (0x7F, 0x10FFFF) c (and_from _ _ (le-leb 0x7F c (omega arith)) k)) where
  front : List (ℕ × ℕ)
  front = (0x0, 0x20) ∷ (0x22, 0x22) ∷ (0x3C, 0x3C) ∷ (0x3E, 0x3E) ∷ (0x5C, 0x5C) ∷ (0x5E, 0x5E) ∷ (0x60, 0x60) ∷ (0x7B, 0x7D) ∷ []

module _ (p : ℕ → Bool) (r : Regex) (is_leaf : Leaf p r) where
  pub leaf_piece : (u : List ℕ) → Denotes r u → Piece p u
  leaf_piece u m = by (leaf_is r is_leaf.leaf u m) where
    char : (c : ℕ) → one r c ≡ true → is_char c ≡ true → u ≡ c ∷ [] → Piece p u
    char c h k e = elim (cases_lt c 128) [
      | inl l ↦
          let f = or_parts (p c) (is 0x25 c) (not-true _ (sym (agree_below_at (one r) (λ c. not (p c || is 0x25 c)) 128 c is_leaf.exact l) ∙ h)) in
          a_char c f.1 k f.0 e
      | inr l ↦ a_char c (far_from 0x25 c (omega arith) l) k (is_leaf.far c l) e
    ]

    by : LeafCase r u → Piece p u
    by (by_char c h k e) = char c h k e
    by (by_escape f) = escape_is p u f

  pub piece_leaf : (u : List ℕ) → Piece p u → Denotes r u
  piece_leaf u (a_char c e k h is_it) = subst (Denotes r) (sym is_it) (elim (cases_lt c 128) [
    | inl l ↦ one_then r c (agree_below_at (one r) (λ c. not (p c || is 0x25 c)) 128 c is_leaf.exact l ∙ not_from_false _ (or_from _ _ h e))
    | inr l ↦ is_leaf.embed (c ∷ []) (second_is (first_is (to_be_escaped c l k)))
  ])
  piece_leaf u (an_escape a b x y is_it) = subst (Denotes r) (sym is_it) (is_leaf.embed _ (first_is (escape_from a b x y)))

  pub leaf_text : (u : List ℕ) → Denotes r u → IsText p u
  leaf_text u m = piece_text p is_leaf.spares u (leaf_piece u m)

  pub many_text : (s : List ℕ) → Denotes (many r) s → IsText p s
  many_text = times_keep (IsText p) (no_text p) (texts_join p) _ _ r leaf_text

  pub some_text : (s : List ℕ) → Denotes (some r) s → IsText p s
  some_text = times_keep (IsText p) (no_text p) (texts_join p) _ _ r leaf_text

  pub text_many : (s : List ℕ) → IsText p s → Denotes (many r) s
  text_many = by_pieces p (Denotes (many r)) (many_none r) (λ u s piece m. many_more r u s (piece_leaf u piece) m)

  pub text_some : (c : ℕ) (s : List ℕ) → IsText p (c ∷ s) → Denotes (some r) (c ∷ s)
  text_some c s t =
      let f : FirstPiece p (c ∷ s) = first_piece p c s t in
      subst (Denotes (some r)) (sym f.parts) (some_from r f.front f.rest (piece_leaf f.front f.piece) (text_many f.rest f.behind))
