-- A path that begins with `/`: any characters but `?`, `#`, `[` and `]`.
use Rattle.std.proofs.Common.{◌≡◌, ℕ, List, [], ◌∷◌, ◌++◌, Bool, true, false, refl, sym, ap, subst, ◌∙◌}
use Rattle.std.proofs.lemmas.Bool.{or_from, eqb-true}
use Rattle.std.proofs.lemmas.List.{append_assoc}
use Rattle.rng_model.specs.regexes.Expressions.{Regex, both, nothing_more, Denotes, both_are}
use Rattle.rng_model.specs.xsd.UriCharacters.{in_order, many, the, pchar}
use Rattle.rng_model.specs.xsd.Uris.{param, segment, path_segments, abs_path}
use Rattle.xsd_uris.specs.plain.UriShapes.{is}
use Rattle.xsd_uris.proofs.Escapes.{IsText, text_less}
use Rattle.xsd_uris.proofs.Notation.{last_is, last_from, Behind, the_before, before_the, many_none, many_more}
use Rattle.xsd_uris.proofs.Pieces.{Piece, a_char, an_escape, by_pieces}
use Rattle.xsd_uris.proofs.Leaves.{piece_leaf, many_text}
use Rattle.xsd_uris.proofs.Classes.{ends_path, ends_name, ends_segment, pchar_leaf, both_text, times_text, nothing_text, the_text}

-- ---- what a path matches

chars_text : (s : List ℕ) → Denotes (many pchar) s → IsText ends_path s
chars_text s m = text_less ends_path (is 0x2F) s (text_less ends_name (is 0x3B) s (many_text ends_segment pchar pchar_leaf s m))

abbrev params : Regex
params = in_order (the 0x3B ∷ param ∷ [])

abbrev segments : Regex
segments = in_order (the 0x2F ∷ segment ∷ [])

segment_text : (s : List ℕ) → Denotes segment s → IsText ends_path s
segment_text =
    both_text ends_path (many pchar) (both (many params) nothing_more) chars_text
    (both_text ends_path (many params) nothing_more
    (times_text ends_path _ _ params (both_text ends_path (the 0x3B) (both param nothing_more) (the_text ends_path 0x3B refl refl refl)
    (both_text ends_path param nothing_more chars_text (nothing_text ends_path))))
    (nothing_text ends_path))

segments_text : (s : List ℕ) → Denotes path_segments s → IsText ends_path s
segments_text =
    both_text ends_path segment (both (many segments) nothing_more) segment_text
    (both_text ends_path (many segments) nothing_more
    (times_text ends_path _ _ segments (both_text ends_path (the 0x2F) (both segment nothing_more) (the_text ends_path 0x2F refl refl refl)
    (both_text ends_path segment nothing_more segment_text (nothing_text ends_path))))
    (nothing_text ends_path))

pub record Rooted (s : List ℕ) : Type 0 where
  pub rest : List ℕ
  pub text : IsText ends_path rest
  pub whole : s ≡ 0x2F ∷ rest

pub abs_path_text : (s : List ℕ) → Denotes abs_path s → Rooted s
abs_path_text s m =
    let b : Behind 0x2F (both path_segments nothing_more) s = the_before 0x2F _ s m in
    record { rest = b.rest; text = segments_text b.rest (last_is path_segments b.rest b.matched); whole = b.whole }

-- ---- what a path may be

no_params : Denotes segment []
no_params = both_are (many_none pchar) (last_from (many params) [] (many_none params)) refl

no_segments : Denotes path_segments []
no_segments = both_are no_params (last_from (many segments) [] (many_none segments)) refl

add_char : (u s : List ℕ) → Denotes pchar u → Denotes path_segments s → Denotes path_segments (u ++ s)
add_char u s m (both_are {s = a} {t = b} (both_are {s = a1} {t = a2} chars rest f) more e) =
    both_are (both_are (many_more pchar u a1 m chars) rest refl) more parts where
      parts : u ++ s ≡ ((u ++ a1) ++ a2) ++ b
      parts = ap (λ x. u ++ x) (e ∙ ap (λ x. x ++ b) f) ∙ sym (append_assoc u (a1 ++ a2) b) ∙ ap (λ x. x ++ b) (sym (append_assoc u a1 a2))

add_param : (s : List ℕ) → Denotes path_segments s → Denotes path_segments (0x3B ∷ s)
add_param s (both_are {s = a} {t = b} (both_are {s = a1} {t = a2} chars rest f) more e) =
    both_are
    (both_are (many_none pchar)
    (last_from (many params) ((0x3B ∷ a1) ++ a2)
    (many_more params (0x3B ∷ a1) a2 (before_the 0x3B (both param nothing_more) a1 (last_from param a1 chars)) (last_is (many params) a2 rest)))
    refl)
    more
    (ap (λ x. 0x3B ∷ x) (e ∙ ap (λ x. x ++ b) f))

add_slash : (s : List ℕ) → Denotes path_segments s → Denotes path_segments (0x2F ∷ s)
add_slash s (both_are {s = a} {t = b} first more e) =
    both_are no_params
    (last_from (many segments) ((0x2F ∷ a) ++ b)
    (many_more segments (0x2F ∷ a) b (before_the 0x2F (both segment nothing_more) a (last_from segment a first)) (last_is (many segments) b more)))
    (ap (λ x. 0x2F ∷ x) e)

add_piece : (u s : List ℕ) → Piece ends_path u → Denotes path_segments s → Denotes path_segments (u ++ s)
add_piece u s (an_escape a b x y e) m = add_char u s (piece_leaf ends_segment pchar pchar_leaf u (an_escape a b x y e)) m
add_piece u s (a_char c e k h w) m = slash (is 0x2F c) refl where
  at : (d : ℕ) → is d c ≡ true → Denotes path_segments (d ∷ s) → Denotes path_segments (u ++ s)
  at d f r = subst (λ x. Denotes path_segments (x ++ s)) (sym (w ∙ ap (λ x. x ∷ []) (eqb-true c d f))) r

  semicolon : is 0x2F c ≡ false → (b : Bool) → is 0x3B c ≡ b → Denotes path_segments (u ++ s)
  semicolon g true f = at 0x3B f (add_param s m)
  semicolon g false f = add_char u s (piece_leaf ends_segment pchar pchar_leaf u (a_char c e k (or_from _ _ f (or_from _ _ g h)) w)) m

  slash : (b : Bool) → is 0x2F c ≡ b → Denotes path_segments (u ++ s)
  slash true f = at 0x2F f (add_slash s m)
  slash false f = semicolon f (is 0x3B c) refl

pub text_abs_path : (s : List ℕ) → IsText ends_path s → Denotes abs_path (0x2F ∷ s)
text_abs_path s t =
    before_the 0x2F (both path_segments nothing_more) s (last_from path_segments s (by_pieces ends_path (Denotes path_segments) no_segments add_piece s t))
