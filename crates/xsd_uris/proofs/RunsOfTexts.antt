-- White space that is collapsed, and characters that are decoded, change nothing about the shape of a URI.
use Rattle.std.proofs.Common.{◌≡◌, ◌≤◌, ◌+◌, ◌/◌, ℕ, List, [], ◌∷◌, ◌++◌, Bool, true, false, nat_le, nat_lt, cond, inl, inr, refl, ap, sym, ◌∙◌, subst, rules, tests, arith}
use Rattle.std.specs.List.{list_all, join_with_byte, AllByRecursion}
use Rattle.std.specs.Str.{IsUtf8, chars}
use Rattle.std.proofs.lemmas.Str.{encode_ascii, encodes-chars, IsUtf8-nil, IsUtf8-append, IsUtf8-encode}
use Rattle.std.proofs.lemmas.Bool.{or_right, cases_lt, and_parts, true≢false}
use lib.Utf8.{encode, encodes, next, low_scalar}
use Rattle.rng_model.specs.datatypes.Texts.{is_blank_byte, is_blank, pieces, collapse}
use Rattle.rng_model.proofs.BlankRuns.{IsUtf8-pieces}
use Rattle.rng_types.specs.plain.Runs.{past_blanks, from_run}
use Rattle.rng_types.proofs.CollapsedBytes.{collapse-past}
use Rattle.xsd_uris.specs.plain.TrimmedTexts.{past_end, trimmed}
use Rattle.xsd_uris.specs.plain.UriShapes.{has_uri_shape}
use Rattle.xsd_uris.proofs.RunsOfOthers.{is_other, onto_run, runs, runs-other, onto_run-twice}
use Rattle.xsd_uris.proofs.RunsOfShapes.{runs-shape}

runs-same : (c : ℕ) (s t : List ℕ) → runs s ≡ runs t → runs (c ∷ s) ≡ runs (c ∷ t)
runs-same c s t e = ap (λ u. cond (is_other c) (onto_run u) (c ∷ u)) e

-- ---- characters

high_other : (c : ℕ) → 128 ≤ c → is_other c ≡ true
high_other c h = let high : nat_le 128 c ≡ true = search (rules, tests, arith) in or_right (is_blank_byte c) (nat_le 128 c) high

-- several of them in front count as one
runs-front : (c : ℕ) (s rest : List ℕ) → is_other c ≡ true → list_all is_other s ≡ true → runs ((c ∷ s) ++ rest) ≡ onto_run (runs rest)
runs-front c [] rest e all = runs-other c rest e
runs-front c (d ∷ s) rest e all =
    let both = and_parts (is_other d) (list_all is_other s) all in
    runs-other c ((d ∷ s) ++ rest) e ∙ ap onto_run (runs-front d s rest both.0 both.1) ∙ onto_run-twice (runs rest)

-- the bytes of a character of two, three or four bytes
abbrev bytes_by : Bool → Bool → ℕ → List ℕ
bytes_by two three c =
    cond two ((192 + c / 64) ∷ next c ∷ [])
    (cond three ((224 + c / 4096) ∷ next (c / 64) ∷ next c ∷ []) ((240 + c / 262144) ∷ next (c / 4096) ∷ next (c / 64) ∷ next c ∷ []))

next_other : (c : ℕ) → is_other (next c) ≡ true
next_other c = high_other (next c) (omega arith)

runs-bytes : (two three : Bool) (c : ℕ) (rest : List ℕ) → runs (bytes_by two three c ++ rest) ≡ onto_run (runs rest)
runs-bytes true three c rest =
    let all : list_all is_other (next c ∷ []) ≡ true = rw (next_other c) refl in
    runs-front (192 + c / 64) (next c ∷ []) rest (high_other (192 + c / 64) (omega arith)) all
runs-bytes false true c rest =
    let all : list_all is_other (next (c / 64) ∷ next c ∷ []) ≡ true = rw (next_other (c / 64), next_other c) refl in
    runs-front (224 + c / 4096) (next (c / 64) ∷ next c ∷ []) rest (high_other (224 + c / 4096) (omega arith)) all
runs-bytes false false c rest =
    let all : list_all is_other (next (c / 4096) ∷ next (c / 64) ∷ next c ∷ []) ≡ true = rw (next_other (c / 4096), next_other (c / 64), next_other c) refl in
    runs-front (240 + c / 262144) (next (c / 4096) ∷ next (c / 64) ∷ next c ∷ []) rest (high_other (240 + c / 262144) (omega arith)) all

encode_high : (c : ℕ) → 128 ≤ c → encode c ≡ bytes_by (nat_lt c 2048) (nat_lt c 65536) c
unfolding lib.Utf8.encode
encode_high c h = let low : nat_lt c 128 ≡ false = search (rules, tests, arith) in rw low refl

runs-encodes : (cs : List ℕ) → runs (encodes cs) ≡ runs cs
runs-encodes [] = refl
runs-encodes (c ∷ cs) = elim (cases_lt c 128) [
  | inl low ↦ ap (λ t. runs (t ++ encodes cs)) (encode_ascii c low) ∙ runs-same c (encodes cs) cs (runs-encodes cs)
  | inr high ↦ ap (λ t. runs (t ++ encodes cs)) (encode_high c high) ∙ runs-bytes (nat_lt c 2048) (nat_lt c 65536) c (encodes cs)
      ∙ ap onto_run (runs-encodes cs) ∙ sym (runs-other c cs (high_other c high))
]

runs-chars : (s : List ℕ) → IsUtf8 s → runs (chars s) ≡ runs s
runs-chars s utf8 = sym (runs-encodes (chars s)) ∙ ap runs (encodes-chars s utf8)

pub chars_shape : (s : List ℕ) → IsUtf8 s → has_uri_shape (chars s) ≡ has_uri_shape s
chars_shape s utf8 = sym (runs-shape (chars s)) ∙ ap has_uri_shape (runs-chars s utf8) ∙ runs-shape s

-- ---- white space

blank_other : (b : ℕ) → is_blank_byte b ≡ true → is_other b ≡ true
blank_other b e = rw e refl

-- behind a blank, a space in front of the collapsed text counts as none
onto_collapse : (s : List ℕ) → is_blank s ≡ false → onto_run (runs (collapse s)) ≡ onto_run (runs (from_run s))
onto_collapse [] some = absurd (true≢false some)
onto_collapse (b ∷ s) some = by_byte (is_blank_byte b) refl where
  by_byte : (x : Bool) → is_blank_byte b ≡ x → onto_run (runs (collapse (b ∷ s))) ≡ onto_run (runs (from_run (b ∷ s)))
  by_byte true e =
      let rest : is_blank s ≡ false = rw e at some in
      let spaced : from_run (b ∷ s) ≡ 32 ∷ collapse s = rw (e, rest) refl in
      let past : past_blanks (b ∷ s) ≡ past_blanks s = rw e refl in
      let same : collapse (b ∷ s) ≡ collapse s = collapse-past (b ∷ s) ∙ ap from_run past ∙ sym (collapse-past s) in
      ap (λ t. onto_run (runs t)) same ∙ sym (onto_run-twice (runs (collapse s))) ∙ ap onto_run (sym (runs-other 32 (collapse s) refl))
      ∙ ap (λ t. onto_run (runs t)) (sym spaced)
  by_byte false e =
      let here : past_blanks (b ∷ s) ≡ b ∷ s = rw e refl in
      ap (λ t. onto_run (runs t)) (collapse-past (b ∷ s) ∙ ap from_run here)

runs-from_run : (s : List ℕ) → runs (from_run s) ≡ runs (past_end s)
runs-from_run [] = refl
runs-from_run (b ∷ s) = by_byte (is_blank_byte b) (is_blank s) refl refl (runs-from_run s) where
  by_byte : (x y : Bool) → is_blank_byte b ≡ x → is_blank s ≡ y → runs (from_run s) ≡ runs (past_end s) → runs (from_run (b ∷ s)) ≡ runs (past_end (b ∷ s))
  by_byte true true e rest h = rw (e, rest) refl
  by_byte true false e rest h =
      let spaced : from_run (b ∷ s) ≡ 32 ∷ collapse s = rw (e, rest) refl in
      let kept : past_end (b ∷ s) ≡ b ∷ past_end s = rw (e, rest) refl in
      ap runs spaced ∙ runs-other 32 (collapse s) refl ∙ onto_collapse s rest ∙ ap onto_run h ∙ sym (runs-other b (past_end s) (blank_other b e))
      ∙ ap runs (sym kept)
  by_byte false y e rest h =
      let run : from_run (b ∷ s) ≡ b ∷ from_run s = rw e refl in
      let kept : past_end (b ∷ s) ≡ b ∷ past_end s = rw e refl in
      ap runs run ∙ runs-same b (from_run s) (past_end s) h ∙ ap runs (sym kept)

runs-collapse : (s : List ℕ) → runs (collapse s) ≡ runs (trimmed s)
runs-collapse s = ap runs (collapse-past s) ∙ runs-from_run (past_blanks s)

-- ---- collapsed texts

IsUtf8-space : IsUtf8 (32 ∷ [])
IsUtf8-space = subst IsUtf8 (encode_ascii 32 (omega arith)) (IsUtf8-encode 32 (low_scalar 32 (omega arith)))

IsUtf8-joined : (parts : List (List ℕ)) → AllByRecursion IsUtf8 parts → IsUtf8 (join_with_byte 32 parts)
IsUtf8-joined [] all = IsUtf8-nil
IsUtf8-joined (s ∷ []) all = all.0
IsUtf8-joined (s ∷ t ∷ parts) all =
    IsUtf8-append s (32 ∷ join_with_byte 32 (t ∷ parts)) all.0 (IsUtf8-append (32 ∷ []) (join_with_byte 32 (t ∷ parts)) IsUtf8-space (IsUtf8-joined (t ∷ parts) all.1))

pub IsUtf8-collapse : (s : List ℕ) → IsUtf8 s → IsUtf8 (collapse s)
unfolding collapse
IsUtf8-collapse s utf8 = IsUtf8-joined (pieces s) (IsUtf8-pieces s utf8)

pub collapsed_shape : (s : List ℕ) → IsUtf8 s → has_uri_shape (chars (collapse s)) ≡ has_uri_shape (trimmed s)
collapsed_shape s utf8 =
    chars_shape (collapse s) (IsUtf8-collapse s utf8) ∙ sym (runs-shape (collapse s)) ∙ ap has_uri_shape (runs-collapse s) ∙ runs-shape (trimmed s)
