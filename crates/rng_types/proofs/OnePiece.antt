-- Collapsed texts, by their pieces: one piece is the collapsed text, and otherwise it is empty or has a space inside.
use Rattle.std.proofs.Common.{◌≡◌, ℕ, ◌+◌, ◌≤◌, List, [], ◌∷◌, ◌++◌, length, Bool, true, false, Some, None, refl, ap, sym, ◌∙◌, subst, rules, arith}
use Rattle.std.proofs.Common.{length-append}
use Rattle.std.specs.List.{list_all, join_with_byte, AllByRecursion}
use Rattle.std.specs.Str.{IsUtf8, chars, bytes_eq}
use Rattle.std.proofs.lemmas.Str.{chars-append, encodes-chars, length-le-encodes}
use Rattle.std.proofs.lemmas.List.Folds.{list_all-append}
use Rattle.std.proofs.lemmas.Slice.Eq.{bytes_eq-Decides}
use Rattle.std.proofs.lemmas.Option.{same_Some}
use Rattle.std.proofs.lemmas.Bool.{true≢false, and_right, and_left}
use Rattle.rng_model.specs.datatypes.Texts.{pieces, collapse}
use Rattle.rng_model.proofs.BlankRuns.{pieces_fit, spaced_length, IsUtf8-pieces}
use Rattle.rng_types.specs.plain.Pieces.{only}

joined_only : (ps : List (List ℕ)) (w : List ℕ) → Some w ≡ only ps → join_with_byte 32 ps ≡ w
joined_only [] w e = search rules
joined_only (p ∷ []) w e = sym (same_Some w p e)
joined_only (p ∷ q ∷ ps) w e = search rules

-- the only piece is the collapsed text
pub collapse-only : (s w : List ℕ) → Some w ≡ only (pieces s) → collapse s ≡ w
unfolding collapse
collapse-only s w e = joined_only (pieces s) w e

joined_other : {A : Type 0} (f : List ℕ → A) (d : A) (ps : List (List ℕ)) → f [] ≡ d → ((v w : List ℕ) → IsUtf8 v → f (v ++ 32 ∷ w) ≡ d)
    → AllByRecursion IsUtf8 ps → None ≡ only ps → f (join_with_byte 32 ps) ≡ d
joined_other f d [] nil spaced utf8 e = nil
joined_other f d (p ∷ []) nil spaced utf8 e = search rules
joined_other f d (p ∷ q ∷ ps) nil spaced utf8 e = spaced p (join_with_byte 32 (q ∷ ps)) utf8.0

-- if there is not exactly one piece, it is empty or has a space
pub collapse-other : {A : Type 0} (f : List ℕ → A) (d : A) (s : List ℕ) → f [] ≡ d → ((v w : List ℕ) → IsUtf8 v → f (v ++ 32 ∷ w) ≡ d) → IsUtf8 s
    → None ≡ only (pieces s) → f (collapse s) ≡ d
unfolding collapse
collapse-other f d s nil spaced utf8 e = joined_other f d (pieces s) nil spaced (IsUtf8-pieces s utf8) e

-- a test that fails at the space fails for a text with a space inside
pub all_fails : (p : ℕ → Bool) (v w : List ℕ) → p 32 ≡ false → list_all p (v ++ 32 ∷ w) ≡ false
all_fails p v w e = list_all-append p v (32 ∷ w) ∙ and_right (list_all p v) (list_all p (32 ∷ w)) (and_left (p 32) (list_all p w) e)

-- so the text is different from one whose bytes all pass
pub differs : (p : ℕ → Bool) (v w x : List ℕ) → p 32 ≡ false → list_all p x ≡ true → bytes_eq (v ++ 32 ∷ w) x ≡ false
differs p v w x e all = by_cases (bytes_eq (v ++ 32 ∷ w) x) refl
  where
    by_cases : (b : Bool) → bytes_eq (v ++ 32 ∷ w) x ≡ b → b ≡ false
    by_cases false same = refl
    by_cases true same = absurd (true≢false (sym all ∙ ap (list_all p) (sym ((bytes_eq-Decides (v ++ 32 ∷ w) x).0 same)) ∙ all_fails p v w e))

chars-space : (w : List ℕ) → chars (32 ∷ w) ≡ 32 ∷ chars w
unfolding chars
chars-space [] = refl
chars-space (b ∷ w) = refl

pub chars-spaced : (v w : List ℕ) → IsUtf8 v → chars (v ++ 32 ∷ w) ≡ chars v ++ 32 ∷ chars w
chars-spaced v w utf8 = chars-append v (32 ∷ w) utf8 ∙ ap (λ t. chars v ++ t) (chars-space w)

-- the characters of further pieces, each with a space before it
abbrev pub spaced_count : List (List ℕ) → ℕ
spaced_count [] = 0
spaced_count (w ∷ ws) = (1 + length (chars w)) + spaced_count ws

length-joined : (first : List ℕ) (ws : List (List ℕ)) → IsUtf8 first → AllByRecursion IsUtf8 ws
    → length (chars (join_with_byte 32 (first ∷ ws))) ≡ length (chars first) + spaced_count ws
length-joined first [] utf8 all = omega arith
length-joined first (w ∷ ws) utf8 all =
    omega (
      arith,
      ap length (chars-spaced first (join_with_byte 32 (w ∷ ws)) utf8),
      length-append (chars first) (32 ∷ chars (join_with_byte 32 (w ∷ ws))),
      length-joined w ws all.0 all.1,
    )

-- the number of characters in a collapsed text
pub length-collapse : (s first : List ℕ) (ws : List (List ℕ)) → IsUtf8 s → pieces s ≡ first ∷ ws
    → length (chars (collapse s)) ≡ length (chars first) + spaced_count ws
unfolding collapse
length-collapse s first ws utf8 e =
    let all : AllByRecursion IsUtf8 (first ∷ ws) = subst (AllByRecursion IsUtf8) e (IsUtf8-pieces s utf8) in
    ap (λ ps. length (chars (join_with_byte 32 ps))) e ∙ length-joined first ws all.0 all.1

chars_fit : (w : List ℕ) → IsUtf8 w → length (chars w) ≤ length w
chars_fit w utf8 = omega (arith, length-le-encodes (chars w), ap length (encodes-chars w utf8))

spaced_fit : (ws : List (List ℕ)) → AllByRecursion IsUtf8 ws → spaced_count ws ≤ spaced_length ws
spaced_fit [] all = omega arith
spaced_fit (w ∷ ws) all = omega (arith, chars_fit w all.0, spaced_fit ws all.1)

-- they are at most as many as the bytes of the text
pub count_fits : (s first : List ℕ) (ws : List (List ℕ)) → IsUtf8 s → pieces s ≡ first ∷ ws → length (chars first) + spaced_count ws ≤ length s
count_fits s first ws utf8 e =
    let all : AllByRecursion IsUtf8 (first ∷ ws) = subst (AllByRecursion IsUtf8) e (IsUtf8-pieces s utf8) in
    omega (arith, pieces_fit s first ws e, spaced_fit ws all.1, chars_fit first all.0)

pub collapse-empty : (s : List ℕ) → pieces s ≡ [] → length (chars (collapse s)) ≡ 0
unfolding collapse chars
collapse-empty s e = ap (λ ps. length (chars (join_with_byte 32 ps))) e
