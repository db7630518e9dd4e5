-- The parts of a text with its white space treated: runs without blanks, and spaces.
use Rattle.std.proofs.Common.{◌≡◌, ◌∙◌, ◌<◌, ◌≤◌, ◌==◌, ℕ, List, [], ◌∷◌, ◌++◌, Bool, true, false, length, drop, refl, sym, ap, subst, one-add, rules, tests, arith, length-append}
use Rattle.std.specs.List.{list_all, prefix_len}
use Rattle.std.specs.Str.{IsUtf8, IsCharBoundary}
use Rattle.std.proofs.lemmas.Str.{IsCharBoundary-after_ascii}
use Rattle.std.proofs.lemmas.Bool.{and_parts, not-true, true≢false}
use Rattle.rng_model.specs.datatypes.Texts.{is_blank_byte, is_blank, collapse}
use Rattle.rng_model.specs.plain.BlankRuns.{is_run_byte, ends_run}
use Rattle.rng_model.specs.xsd.Names.{replaced}
use Rattle.rng_types.specs.plain.Runs.{past_blanks, from_run}
use Rattle.rng_types.proofs.CollapsedBytes.{collapse-past, blank-past}

-- ---- runs

-- a run goes up to a blank or to the end
pub rest_ends : (s : List ℕ) → ends_run (drop (prefix_len is_run_byte s) s) ≡ true
rest_ends [] = refl
rest_ends (b ∷ s) = by_byte (is_blank_byte b) refl (rest_ends s) where
  by_byte : (c : Bool) → is_blank_byte b ≡ c → ends_run (drop (prefix_len is_run_byte s) s) ≡ true
      → ends_run (drop (prefix_len is_run_byte (b ∷ s)) (b ∷ s)) ≡ true
  by_byte true e h = rw e e
  by_byte false e h = rw (e, one-add) h

pub drop_past : (s : List ℕ) → drop (prefix_len is_blank_byte s) s ≡ past_blanks s
drop_past [] = refl
drop_past (b ∷ s) = by_byte (is_blank_byte b) refl (drop_past s) where
  by_byte : (c : Bool) → is_blank_byte b ≡ c → drop (prefix_len is_blank_byte s) s ≡ past_blanks s
      → drop (prefix_len is_blank_byte (b ∷ s)) (b ∷ s) ≡ past_blanks (b ∷ s)
  by_byte true e h = rw (e, one-add) h
  by_byte false e h = rw e refl

past_shorter : (s : List ℕ) → length (past_blanks s) ≤ length s
past_shorter [] = omega arith
past_shorter (b ∷ s) = by_byte (is_blank_byte b) refl (past_shorter s) where
  by_byte : (c : Bool) → is_blank_byte b ≡ c → length (past_blanks s) ≤ length s → length (past_blanks (b ∷ s)) ≤ length (b ∷ s)
  by_byte true e h = rw e (omega (arith, h))
  by_byte false e h = rw e (omega arith)

-- ---- a run in front

pub replaced_run : (run rest : List ℕ) → list_all is_run_byte run ≡ true → replaced (run ++ rest) ≡ run ++ replaced rest
replaced_run [] rest e = refl
replaced_run (x ∷ xs) rest e =
    let both = and_parts (is_run_byte x) (list_all is_run_byte xs) e in
    rw (not-true (is_blank_byte x) both.0) (ap (λ t. x ∷ t) (replaced_run xs rest both.1))

pub shorter : (s run after : List ℕ) → s ≡ run ++ after → (length run == 0) ≡ false → length after < length s
shorter s [] after e some = absurd (true≢false some)
shorter s (x ∷ xs) after e some = omega (arith, ap length e, length-append xs after)

pub no_run : (s run after : List ℕ) → s ≡ run ++ after → (length run == 0) ≡ true → s ≡ after
no_run s [] after e none = e
no_run s (x ∷ xs) after e none = search (rules, tests, arith)

-- ---- blanks in front

pub replaced_space : (s behind : List ℕ) → ends_run s ≡ true → (length s == 0) ≡ false → behind ≡ drop 1 s
    → (replaced s ≡ 32 ∷ replaced behind) × (length behind < length s)
replaced_space [] behind ends some e = absurd (true≢false some)
replaced_space (b ∷ s) behind ends some e = (rw ends (ap (λ t. 32 ∷ replaced t) (sym e)), omega (arith, ap length e))

past_blank : (b : ℕ) (s : List ℕ) → is_blank_byte b ≡ true → past_blanks (b ∷ s) ≡ past_blanks s
past_blank b s e = rw e refl

pub collapsed_none : (s : List ℕ) → ends_run s ≡ true → (length (past_blanks s) == 0) ≡ true → from_run s ≡ []
collapsed_none [] starts none = refl
collapsed_none (b ∷ s) starts none =
    let blank : is_blank s ≡ true = sym (blank-past s) ∙ subst (λ t. (length t == 0) ≡ true) (past_blank b s starts) none in
    rw (starts, blank) refl

pub collapsed_space : (s : List ℕ) → ends_run s ≡ true → (length (past_blanks s) == 0) ≡ false
    → (from_run s ≡ 32 ∷ from_run (past_blanks s)) × (length (past_blanks s) < length s)
collapsed_space [] starts some = absurd (true≢false some)
collapsed_space (b ∷ s) starts some =
    let past = past_blank b s starts in
    let blank : is_blank s ≡ false = sym (blank-past s) ∙ subst (λ t. (length t == 0) ≡ false) past some in
    let less = past_shorter s in
    (begun past blank, omega (arith, ap length past, less))
  where
    if_some : is_blank s ≡ false → from_run (b ∷ s) ≡ 32 ∷ collapse s
    if_some blank = rw (starts, blank) refl

    begun : past_blanks (b ∷ s) ≡ past_blanks s → is_blank s ≡ false → from_run (b ∷ s) ≡ 32 ∷ from_run (past_blanks (b ∷ s))
    begun past blank = if_some blank ∙ ap (λ t. 32 ∷ t) (collapse-past s ∙ ap from_run (sym past))

-- ---- where a text is cut

pub blank_boundary : (s : List ℕ) → ends_run s ≡ true → (length s == 0) ≡ false → IsUtf8 s → IsCharBoundary s 1
blank_boundary [] starts some utf8 = absurd (true≢false some)
blank_boundary (b ∷ s) starts some utf8 =
    let low : b < 128 = search (rules, tests, arith) in IsCharBoundary-after_ascii (b ∷ s) 0 utf8 (omega arith) low

pub is_utf8_space : IsUtf8 (32 ∷ [])
unfolding lib.Utf8.encode
is_utf8_space = (32 ∷ [], (refl, refl))
