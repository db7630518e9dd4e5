-- An absolute URI: a scheme, `:`, and what is behind it.
use Rattle.std.proofs.Common.{◌≡◌, ◌≤◌, ◌<◌, ℕ, List, [], ◌∷◌, ◌++◌, Bool, true, false, not, ◌&&◌, ◌||◌}
use Rattle.std.proofs.Common.{refl, sym, ap, subst, ◌∙◌, inl, inr, arith}
use Rattle.std.specs.Prelude.{codes}
use Rattle.std.specs.List.{list_all}
use Rattle.std.proofs.lemmas.Bool.{and_from, and_parts, or_from, or_parts, and_cases, not-true, not-false, not_from_false, false≢true, eqb-true, cond-true, cond-false}
use Rattle.std.proofs.lemmas.Bool.{agree_below_at}
use Rattle.rng_model.specs.regexes.Expressions.{Regex, nothing_more, both, Denotes, one_is, both_are, first_is, second_is}
use Rattle.rng_model.specs.xsd.UriCharacters.{any_of, many, one_in, alpha, digit, uric, uric_no_slash}
use Rattle.rng_model.specs.xsd.Uris.{scheme, opaque_part, hier_part, absolute_uri}
use Rattle.xsd_uris.specs.plain.UriShapes.{is, none, is_bracket, is_letter, is_scheme_char, before, from, is_rooted, is_scheme, is_behind_scheme, is_absolute}
use Rattle.xsd_uris.proofs.Escapes.{IsText, texts_join, text_of_char, text_behind, text_less}
use Rattle.xsd_uris.proofs.Notation.{last_is, last_from, only_is, Behind, the_before, before_the, many_none, many_more}
use Rattle.xsd_uris.proofs.Pieces.{Piece, a_char, an_escape, FirstPiece, first_piece}
use Rattle.xsd_uris.proofs.Leaves.{one, one_then, leaf_piece, piece_leaf, leaf_text, many_text, text_many}
use Rattle.xsd_uris.proofs.Classes.{ends_query, ends_opaque, uric_leaf, opaque_leaf}
use Rattle.xsd_uris.proofs.Plain.{in_ascii, plain_text}
use Rattle.xsd_uris.proofs.Cuts.{Cut, whole, parts, cut, from_whole, before_cut, from_cut}
use Rattle.xsd_uris.proofs.Queries.{FromRoot, rooted, rooted_if, rooted_then, WithQuery, with_query_if, with_query_then}

-- ---- schemes

abbrev scheme_chars : Regex
scheme_chars = any_of (alpha ∷ digit ∷ one_in (codes "+-.") ∷ [])

none_not : (q : ℕ → Bool) (s : List ℕ) → none (λ c. not (q c)) s ≡ true → list_all q s ≡ true
none_not q [] h = refl
none_not q (c ∷ s) h =
    let f = and_parts (not (not (q c))) (none (λ c. not (q c)) s) h in and_from _ _ (not-false (q c) (not-true (not (q c)) f.0)) (none_not q s f.1)

scheme_if : (s : List ℕ) → Denotes scheme s → is_scheme s ≡ true
scheme_if s (both_are {s = u} {t = v} (one_is {c} h) q e) =
    let t = plain_text (λ c. not (is_scheme_char c)) (both (many scheme_chars) nothing_more) refl v q in
    ap is_scheme e ∙ and_from _ _ h (none_not is_scheme_char v t.others)

scheme_char : (c : ℕ) → is_scheme_char c ≡ true → Denotes scheme_chars (c ∷ [])
scheme_char c h = one_then scheme_chars c (by (agree_below_at (λ c. is_scheme_char c && not (one scheme_chars c)) (λ c. false) 128 c refl small)) where
  low : c ≤ 127
  low = in_ascii ((0x41, 0x5A) ∷ (0x61, 0x7A) ∷ (0x30, 0x39) ∷ (0x2B, 0x2B) ∷ (0x2D, 0x2E) ∷ []) c refl h

  small : c < 128
  small = omega (arith, low)

  by : (is_scheme_char c && not (one scheme_chars c)) ≡ false → one scheme_chars c ≡ true
  by e = elim (and_cases (is_scheme_char c) (not (one scheme_chars c)) e) [ inl n ↦ absurd (false≢true (sym n ∙ h)) | inr n ↦ not-false _ n ]

many_scheme : (s : List ℕ) → list_all is_scheme_char s ≡ true → Denotes (many scheme_chars) s
many_scheme [] h = many_none scheme_chars
many_scheme (c ∷ s) h =
    let f = and_parts (is_scheme_char c) (list_all is_scheme_char s) h in many_more scheme_chars (c ∷ []) s (scheme_char c f.0) (many_scheme s f.1)

scheme_then : (s : List ℕ) → is_scheme s ≡ true → Denotes scheme s
scheme_then [] h = absurd (false≢true h)
scheme_then (c ∷ s) h =
    let f = and_parts (is_letter c) (list_all is_scheme_char s) h in
    both_are {s = c ∷ []} (one_is f.0) (last_from (many scheme_chars) s (many_scheme s f.1)) refl

-- ---- what is behind the scheme

abbrev behind_scheme : Regex
behind_scheme = any_of (hier_part ∷ opaque_part ∷ [])

record BehindScheme (s : List ℕ) : Type 0 where
  text : IsText ends_query s
  passes : is_behind_scheme (0x3A ∷ s) ≡ true

hier_passes : (s front : List ℕ) → FromRoot front → before (is 0x3F) s ≡ front → is_behind_scheme (0x3A ∷ s) ≡ true
hier_passes [] front r e = let b = r.begins in absurd (cc)
hier_passes (d ∷ s) front r e =
    cond-true (is 0x2F d) (is_rooted (before (is 0x3F) (d ∷ s))) (not (is_bracket d)) (by (is 0x3F d) refl) ∙ ap is_rooted e ∙ r.passes where
      by : (b : Bool) → is 0x3F d ≡ b → is 0x2F d ≡ true
      by true f =
          let none_there : [] ≡ 0x2F ∷ r.rest = sym (cond-true (is 0x3F d) [] (d ∷ before (is 0x3F) s) f) ∙ e ∙ r.begins in absurd (cc)
      by false f =
          let there : d ∷ before (is 0x3F) s ≡ 0x2F ∷ r.rest = sym (cond-false (is 0x3F d) [] (d ∷ before (is 0x3F) s) f) ∙ e ∙ r.begins in
          let same : d ≡ 0x2F = cc in ap (is 0x2F) same

opaque_front : (c : ℕ) (s : List ℕ) → is 0x2F c ≡ false → is_bracket c ≡ false → is_behind_scheme (0x3A ∷ c ∷ s) ≡ true
opaque_front c s a b = cond-false (is 0x2F c) (is_rooted (before (is 0x3F) (c ∷ s))) (not (is_bracket c)) a ∙ not_from_false _ b

piece_passes : (u v : List ℕ) → Piece ends_opaque u → is_behind_scheme (0x3A ∷ (u ++ v)) ≡ true
piece_passes u v (a_char c e k h w) =
    let f = or_parts (is 0x2F c) (is_bracket c || is 0x23 c) h in
    let g = or_parts (is_bracket c) (is 0x23 c) f.1 in
    ap (λ x. is_behind_scheme (0x3A ∷ (x ++ v))) w ∙ opaque_front c v f.0 g.0
piece_passes u v (an_escape a b x y w) = ap (λ x. is_behind_scheme (0x3A ∷ (x ++ v))) w ∙ opaque_front 0x25 (a ∷ b ∷ v) refl refl

opaque_found : (s : List ℕ) → Denotes opaque_part s → BehindScheme s
opaque_found s (both_are {s = u} {t = v} p q e) =
    record {
      text = subst (IsText ends_query) (sym e)
          (texts_join ends_query u v
          (text_less ends_query is_bracket u (text_less (λ c. is_bracket c || is 0x23 c) (is 0x2F) u (leaf_text ends_opaque uric_no_slash opaque_leaf u p)))
          (many_text ends_query uric uric_leaf v (last_is (many uric) v q)));
      passes = ap (λ x. is_behind_scheme (0x3A ∷ x)) e ∙ piece_passes u v (leaf_piece ends_opaque uric_no_slash opaque_leaf u p);
    }

behind_found : (s : List ℕ) → Denotes behind_scheme s → BehindScheme s
behind_found s (first_is m) =
    let w : WithQuery rooted s = with_query_if rooted (λ u n. let r = rooted_if u n in r.text) s m in
    record { text = w.text; passes = hier_passes s w.front (rooted_if w.front w.matched) w.before_is }
behind_found s (second_is m) = opaque_found s (only_is opaque_part s m)

opaque_piece : (d : ℕ) (s u v : List ℕ) → is 0x2F d ≡ false → is_bracket d ≡ false → d ∷ s ≡ u ++ v → Piece ends_query u → Piece ends_opaque u
opaque_piece d s u v a b e (a_char c f k h w) =
    let there : d ∷ s ≡ c ∷ v = e ∙ ap (λ x. x ++ v) w in
    let same : d ≡ c = cc in
    a_char c f k (or_from (is 0x2F c) (is_bracket c || is 0x23 c) (sym (ap (is 0x2F) same) ∙ a) (or_from (is_bracket c) (is 0x23 c) (sym (ap is_bracket same) ∙ b) h)) w
opaque_piece d s u v a b e (an_escape x y h k w) = an_escape x y h k w

opaque_then : (d : ℕ) (s : List ℕ) → IsText ends_query (d ∷ s) → is 0x2F d ≡ false → is_bracket d ≡ false → Denotes opaque_part (d ∷ s)
opaque_then d s t a b =
    let f : FirstPiece ends_query (d ∷ s) = first_piece ends_query d s t in
    both_are (piece_leaf ends_opaque uric_no_slash opaque_leaf f.front (opaque_piece d s f.front f.rest a b f.parts f.piece))
    (last_from (many uric) f.rest (text_many ends_query uric uric_leaf f.rest f.behind)) f.parts

hier_then : (d : ℕ) (s : List ℕ) → IsText ends_query (d ∷ s) → is 0x2F d ≡ true → is_rooted (before (is 0x3F) (d ∷ s)) ≡ true → Denotes hier_part (d ∷ s)
hier_then d s t a h =
    let same : d ≡ 0x2F = eqb-true d 0x2F a in
    subst (λ x. Denotes hier_part (x ∷ s)) (sym same)
    (with_query_then rooted (0x2F ∷ s) (subst (λ x. IsText ends_query (x ∷ s)) same t)
    (λ k. rooted_then (before (is 0x3F) s) k (subst (λ x. is_rooted (before (is 0x3F) (x ∷ s)) ≡ true) same h)))

behind_then : (s : List ℕ) → IsText ends_query s → is_behind_scheme (0x3A ∷ s) ≡ true → Denotes behind_scheme s
behind_then [] t h = absurd (false≢true h)
behind_then (d ∷ s) t h = by (is 0x2F d) refl where
  by : (b : Bool) → is 0x2F d ≡ b → Denotes behind_scheme (d ∷ s)
  by true e = first_is (hier_then d s t e (sym (cond-true (is 0x2F d) (is_rooted (before (is 0x3F) (d ∷ s))) (not (is_bracket d)) e) ∙ h))
  by false e =
      second_is (first_is (opaque_then d s t e (not-true _ (sym (cond-false (is 0x2F d) (is_rooted (before (is 0x3F) (d ∷ s))) (not (is_bracket d)) e) ∙ h))))

-- ---- the whole

pub record Absolute (s : List ℕ) : Type 0 where
  pub text : IsText ends_query s
  pub passes : is_absolute s ≡ true

pub absolute_if : (s : List ℕ) → Denotes absolute_uri s → Absolute s
absolute_if s (both_are {s = u} {t = v} p q e) =
    let b : Behind 0x3A (both behind_scheme nothing_more) v = the_before 0x3A _ v q in
    by b.rest (behind_found b.rest (last_is behind_scheme b.rest b.matched)) (e ∙ ap (λ x. u ++ x) b.whole) where
      clear : none (is 0x3A) u ≡ true
      clear = let t = plain_text (is 0x3A) scheme refl u p in t.others

      by : (t : List ℕ) → BehindScheme t → s ≡ u ++ 0x3A ∷ t → Absolute s
      by t f e = record {
        text = subst (IsText ends_query) (sym e)
            (texts_join ends_query u (0x3A ∷ t) (plain_text ends_query scheme refl u p)
            (texts_join ends_query (0x3A ∷ []) t (text_of_char ends_query 0x3A refl refl refl) f.text));
        passes = and_from _ _
            (ap is_scheme (ap (before (is 0x3A)) e ∙ before_cut (is 0x3A) u 0x3A t clear refl) ∙ scheme_if u p)
            (ap is_behind_scheme (ap (from (is 0x3A)) e ∙ from_cut (is 0x3A) u 0x3A t clear refl) ∙ f.passes);
      }

pub absolute_then : (s : List ℕ) → IsText ends_query s → is_absolute s ≡ true → Denotes absolute_uri s
absolute_then s t h = by (and_parts (is_scheme (before (is 0x3A) s)) (is_behind_scheme (from (is 0x3A) s)) h).0
    (and_parts (is_scheme (before (is 0x3A) s)) (is_behind_scheme (from (is 0x3A) s)) h).1 (cut (is 0x3A) s) where
      by : is_scheme (before (is 0x3A) s) ≡ true → is_behind_scheme (from (is 0x3A) s) ≡ true → Cut (is 0x3A) s → Denotes absolute_uri s
      by a b (whole w) = absurd (false≢true (sym (ap is_behind_scheme (from_whole (is 0x3A) s w)) ∙ b))
      by a b (parts u c v w p e) =
          let mark : c ≡ 0x3A = eqb-true c 0x3A p in
          let here : s ≡ u ++ 0x3A ∷ v = e ∙ ap (λ x. u ++ x ∷ v) mark in
          let rest : IsText ends_query v = text_behind ends_query (0x3A ∷ []) v (text_behind ends_query u (0x3A ∷ v) (subst (IsText ends_query) here t)) in
          subst (Denotes absolute_uri) (sym here)
          (both_are (scheme_then u (sym (ap is_scheme (ap (before (is 0x3A)) e ∙ before_cut (is 0x3A) u c v w p)) ∙ a))
          (before_the 0x3A (both behind_scheme nothing_more) v
          (last_from behind_scheme v (behind_then v rest
          (sym (ap is_behind_scheme (ap (from (is 0x3A)) here ∙ from_cut (is 0x3A) u 0x3A v w refl)) ∙ b))))
          refl)
