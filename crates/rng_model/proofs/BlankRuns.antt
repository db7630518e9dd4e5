-- How a text is split at its blanks, from its front on.
use Rattle.std.proofs.Common.{◌≡◌, ℕ, ◌+◌, List, [], ◌∷◌, ◌++◌, Bool, true, false, not, cond, take, drop, refl, ap, sym, ◌∙◌, one-add, rules, tests}
use Rattle.std.proofs.Common.{arith, append-nil, append_assoc, subst, ap₂, length, get_or, length-append, ◌==◌, ◌<◌, ◌≤◌}
use Rattle.std.specs.List.{slice_split, onto_first, list_all, filter, prefix_len, take_while, join_with_byte, AllByRecursion}
use Rattle.std.proofs.lemmas.List.Splits.{slice_split-cons_yes, slice_split-cons_no}
use Rattle.std.proofs.lemmas.List.Sums.{take_while-cons}
use Rattle.std.specs.Str.{IsUtf8, IsCharBoundary}
use Rattle.std.proofs.lemmas.Str.{IsUtf8-past_char, IsUtf8-take, IsUtf8-drop, encode_ascii, IsCharBoundary-end, IsCharBoundary-before_ascii}
use Rattle.std.proofs.lemmas.List.{take-append-drop}
use Rattle.std.proofs.lemmas.Bool.{false≢true, and_parts, not-true}
use Rattle.std.proofs.Math.Seq.{get_or-append_seam, take-append_seam, drop-append_seam}
use Rattle.rng_model.proofs.TestedRuns.{run_passes, run_boundary}
use Rattle.rng_model.specs.datatypes.Texts.{is_blank_byte, is_blank, has_bytes, pieces, collapse}
use Rattle.rng_model.specs.plain.BlankRuns.{is_run_byte, is_run, ends_run, HasRuns, no_run, then_run}

pieces-nil : pieces [] ≡ []
unfolding pieces
pieces-nil = refl

-- a blank in front changes no piece
pub pieces-blank : (b : ℕ) (s : List ℕ) → is_blank_byte b ≡ true → pieces (b ∷ s) ≡ pieces s
unfolding pieces
pieces-blank b s e = ap (filter has_bytes) (slice_split-cons_yes is_blank_byte b s e)

pub pieces-blanks : (before s : List ℕ) → is_blank before ≡ true → pieces (before ++ s) ≡ pieces s
pieces-blanks [] s e = refl
pieces-blanks (b ∷ bs) s e = let both = and_parts _ _ e in pieces-blank b (bs ++ s) both.0 ∙ pieces-blanks bs s both.1

split_run : (run : List ℕ) (b : ℕ) (s : List ℕ) → list_all is_run_byte run ≡ true → is_blank_byte b ≡ true
    → slice_split is_blank_byte (run ++ b ∷ s) ≡ run ∷ slice_split is_blank_byte s
split_run [] b s e blank = slice_split-cons_yes is_blank_byte b s blank
split_run (x ∷ xs) b s e blank = let both = and_parts _ _ e in slice_split-cons_no is_blank_byte x (xs ++ b ∷ s) (not-true _ both.0)
    ∙ ap (onto_first x) (split_run xs b s both.1 blank)

split_last : (run : List ℕ) → list_all is_run_byte run ≡ true → slice_split is_blank_byte run ≡ run ∷ []
split_last [] e = refl
split_last (x ∷ xs) e = let both = and_parts _ _ e in slice_split-cons_no is_blank_byte x xs (not-true _ both.0) ∙ ap (onto_first x) (split_last xs both.1)

-- a run in front is the first piece
pub pieces-run : (run rest : List ℕ) → is_run run ≡ true → ends_run rest ≡ true → pieces (run ++ rest) ≡ run ∷ pieces rest
unfolding pieces
pieces-run [] rest e ends = search rules
pieces-run (x ∷ xs) [] e ends = ap (λ t. pieces t) (append-nil (x ∷ xs)) ∙ ap (filter has_bytes) (split_last (x ∷ xs) e)
pieces-run (x ∷ xs) (b ∷ s) e ends = ap (filter has_bytes) (split_run (x ∷ xs) b s e ends) ∙ ap (λ ps. (x ∷ xs) ∷ ps) (sym (pieces-blank b s ends))

-- the runs of a text are its pieces
pub pieces-from_HasRuns : (s : List ℕ) (runs : List (List ℕ)) → HasRuns s runs → pieces s ≡ runs
pieces-from_HasRuns s _ (no_run e) = ap pieces (sym (append-nil s)) ∙ pieces-blanks s [] e ∙ pieces-nil
pieces-from_HasRuns s _ (then_run {run} {runs} before rest blank is ends more parts) =
    ap pieces parts ∙ pieces-blanks before (run ++ rest) blank ∙ pieces-run run rest is ends ∙ ap (λ ps. run ∷ ps) (pieces-from_HasRuns rest runs more)

-- one more byte in front
blank_more : (b : ℕ) (s : List ℕ) (runs : List (List ℕ)) → is_blank_byte b ≡ true → HasRuns s runs → HasRuns (b ∷ s) runs
blank_more b s _ e (no_run all) = no_run (rw e all)
blank_more b s _ e (then_run {run} {runs} before rest blank is ends more parts) = then_run (b ∷ before) rest (rw e blank) is ends more (ap (λ t. b ∷ t) parts)

run_more : (b : ℕ) (s : List ℕ) (runs : List (List ℕ)) → is_blank_byte b ≡ false → HasRuns s runs → (all : List (List ℕ)) × HasRuns (b ∷ s) all
run_more b [] _ e (no_run all) = (_, then_run {run = b ∷ []} [] [] refl (rw e refl) refl (no_run refl) refl)
run_more b (c ∷ s) _ e (no_run all) = (_, then_run {run = b ∷ []} [] (c ∷ s) refl (rw e refl) (and_parts _ _ all).0 (no_run all) refl)
run_more b s _ e (then_run {run} {runs} [] rest blank is ends more parts) =
    (_, then_run {run = b ∷ run} [] rest refl (rw e (and_parts _ _ is).1) ends more (ap (λ t. b ∷ t) parts))
run_more b s _ e (then_run {run} {runs} (c ∷ before) rest blank is ends more parts) =
    (_, then_run {run = b ∷ []} [] s refl (rw e refl) (rw parts (and_parts _ _ blank).0) (then_run (c ∷ before) rest blank is ends more parts) refl)

has_runs_by : (b : ℕ) (s : List ℕ) (x : Bool) → is_blank_byte b ≡ x → (runs : List (List ℕ)) × HasRuns s runs → (runs : List (List ℕ)) × HasRuns (b ∷ s) runs
has_runs_by b s true e r = (r.0, blank_more b s r.0 e r.1)
has_runs_by b s false e r = run_more b s r.0 e r.1

has_runs : (s : List ℕ) → (runs : List (List ℕ)) × HasRuns s runs
has_runs [] = ([], no_run refl)
has_runs (b ∷ s) = has_runs_by b s (is_blank_byte b) refl (has_runs s)

-- the pieces of a text are its runs
pub HasRuns-pieces : (s : List ℕ) → HasRuns s (pieces s)
HasRuns-pieces s = let r = has_runs s in subst (HasRuns s) (sym (pieces-from_HasRuns s r.0 r.1)) r.1

drop-prefix_len : (p : ℕ → Bool) (x : ℕ) (xs : List ℕ) (b : Bool) → p x ≡ b
    → drop (prefix_len p (x ∷ xs)) (x ∷ xs) ≡ cond b (drop (prefix_len p xs) xs) (x ∷ xs)
drop-prefix_len p x xs true e = rw (e, one-add) refl
drop-prefix_len p x xs false e = rw e refl

-- the list is empty, or its first member fails the test
abbrev fails_first : (ℕ → Bool) → List ℕ → Bool
fails_first p [] = true
fails_first p (x ∷ xs) = not (p x)

rest_fails : (p : ℕ → Bool) (s : List ℕ) → fails_first p (drop (prefix_len p s) s) ≡ true
rest_fails p [] = refl
rest_fails p (x ∷ xs) = rest_fails_by p x xs (p x) refl (rest_fails p xs)
  where
    rest_fails_by : (p : ℕ → Bool) (x : ℕ) (xs : List ℕ) (b : Bool) → p x ≡ b → fails_first p (drop (prefix_len p xs) xs) ≡ true
        → fails_first p (drop (prefix_len p (x ∷ xs)) (x ∷ xs)) ≡ true
    rest_fails_by p x xs true e h = rw (drop-prefix_len p x xs true e) h
    rest_fails_by p x xs false e h = rw (drop-prefix_len p x xs false e) (ap not e)

ends_where_fails : (s : List ℕ) → fails_first is_run_byte s ≡ true → ends_run s ≡ true
ends_where_fails [] e = refl
ends_where_fails (b ∷ s) e = not_false_twice (is_blank_byte b) e
  where
    not_false_twice : (a : Bool) → not (not a) ≡ true → a ≡ true
    not_false_twice true e = refl
    not_false_twice false e = e

run_is : (s : List ℕ) → has_bytes (take_while is_run_byte s) ≡ true → is_run (take_while is_run_byte s) ≡ true
run_is s e = rw e (run_passes is_run_byte s)

nothing_there : (s : List ℕ) → fails_first is_blank_byte s ≡ true → has_bytes (take_while is_run_byte s) ≡ false → s ≡ []
nothing_there [] e none = refl
nothing_there (x ∷ xs) e none =
    let first : take_while is_run_byte (x ∷ xs) ≡ x ∷ take_while is_run_byte xs = take_while-cons is_run_byte x xs
    ∙ ap (λ b. cond b (x ∷ take_while is_run_byte xs) []) e in
    let some : true ≡ false = ap has_bytes (sym first) ∙ none in search rules

pieces-after_blanks : (s : List ℕ) → pieces s ≡ pieces (drop (prefix_len is_blank_byte s) s)
pieces-after_blanks s = ap pieces (sym (take-append-drop (prefix_len is_blank_byte s) s)) ∙ pieces-blanks _ _ (run_passes is_blank_byte s)

pub some_bytes : (s : List ℕ) → (length s == 0) ≡ false → has_bytes s ≡ true
some_bytes [] e = sym e
some_bytes (x ∷ xs) e = refl

pub no_bytes : (s : List ℕ) → (length s == 0) ≡ true → has_bytes s ≡ false
no_bytes [] e = refl
no_bytes (x ∷ xs) e = search rules

-- Given that `start` is the text after its leading blanks, and `piece` is the front of `start` up to a blank or to the
-- end: if `piece` is not empty, it is the first piece ..
pub some_piece : (s start piece after : List ℕ) (m : ℕ) → start ≡ drop (prefix_len is_blank_byte s) s → m ≡ prefix_len is_run_byte start → piece ≡ take m start
    → after ≡ drop m start → (length piece == 0) ≡ false → pieces s ≡ piece ∷ pieces after
some_piece s start piece after m begins m-is piece-is after-is has =
    let piece-front : piece ≡ take_while is_run_byte start = piece-is ∙ ap (λ k. take k start) m-is in
    let is : is_run piece ≡ true =
    subst (λ t. is_run t ≡ true) (sym piece-front) (run_is start (subst (λ t. has_bytes t ≡ true) piece-front (some_bytes piece has))) in
    let ends : ends_run after ≡ true =
    subst (λ t. ends_run t ≡ true) (sym (after-is ∙ ap (λ k. drop k start) m-is))
    (ends_where_fails (drop (prefix_len is_run_byte start) start) (rest_fails is_run_byte start)) in
    let parts : start ≡ piece ++ after = sym (take-append-drop m start) ∙ ap₂ ◌++◌ (sym piece-is) (sym after-is) in
    pieces-after_blanks s ∙ ap pieces (sym begins) ∙ ap pieces parts ∙ pieces-run piece after is ends

-- .. and if it is empty, there is no piece, here or later.
pub no_piece : (s start piece after : List ℕ) (m : ℕ) → start ≡ drop (prefix_len is_blank_byte s) s → m ≡ prefix_len is_run_byte start → piece ≡ take m start
    → after ≡ drop m start → (length piece == 0) ≡ true → (pieces s ≡ []) × (pieces after ≡ [])
no_piece s start piece after m begins m-is piece-is after-is none =
    let fails : fails_first is_blank_byte start ≡ true = subst (λ t. fails_first is_blank_byte t ≡ true) (sym begins) (rest_fails is_blank_byte s) in
    let piece-front : piece ≡ take_while is_run_byte start = piece-is ∙ ap (λ k. take k start) m-is in
    let empty : start ≡ [] = nothing_there start fails (subst (λ t. has_bytes t ≡ false) piece-front (no_bytes piece none)) in
    let m-zero : m ≡ 0 = m-is ∙ ap (prefix_len is_run_byte) empty in (
      pieces-after_blanks s ∙ ap pieces (sym begins) ∙ ap pieces empty ∙ pieces-nil,
      ap pieces after-is ∙ ap (λ k. pieces (drop k start)) m-zero
          ∙ ap pieces empty ∙ pieces-nil,
    )

pub fewer_pieces : (s piece after : List ℕ) → pieces s ≡ piece ∷ pieces after → length (pieces after) < length (pieces s)
fewer_pieces s piece after e = omega (arith, ap length e)

is_ascii_blank : (b : ℕ) → is_blank_byte b ≡ true → b < 128
is_ascii_blank b e = search (rules, tests, arith)

-- a text may be split after its leading blanks
pub blanks_boundary : (s : List ℕ) (n : ℕ) → IsUtf8 s → n ≡ prefix_len is_blank_byte s → IsCharBoundary s n
blanks_boundary s n utf8 e = run_boundary is_blank_byte s n is_ascii_blank utf8 e

-- the texts, joined by single spaces onto what is before them
abbrev pub join_onto : List ℕ → List (List ℕ) → List ℕ
join_onto front [] = front
join_onto front (w ∷ ws) = join_onto ((front ++ 32 ∷ []) ++ w) ws

join_front : (x y : List ℕ) (ws : List (List ℕ)) → join_with_byte 32 ((x ++ y) ∷ ws) ≡ x ++ join_with_byte 32 (y ∷ ws)
join_front x y [] = refl
join_front x y (w ∷ ws) = append_assoc x y (32 ∷ join_with_byte 32 (w ∷ ws))

pub join_onto-is : (front : List ℕ) (ws : List (List ℕ)) → join_onto front ws ≡ join_with_byte 32 (front ∷ ws)
join_onto-is front [] = refl
join_onto-is front (w ∷ ws) = join_onto-is ((front ++ 32 ∷ []) ++ w) ws ∙ join_front (front ++ 32 ∷ []) w ws
    ∙ append_assoc front (32 ∷ []) (join_with_byte 32 (w ∷ ws))

pub collapse-none : (s : List ℕ) → pieces s ≡ [] → collapse s ≡ []
unfolding collapse
collapse-none s e = ap (join_with_byte 32) e

pub collapse-onto : (s first : List ℕ) (ws : List (List ℕ)) → pieces s ≡ first ∷ ws → join_onto first ws ≡ collapse s
unfolding collapse
collapse-onto s first ws e = join_onto-is first ws ∙ ap (join_with_byte 32) (sym e)

pub runs_are : (s : List ℕ) (runs : List (List ℕ)) → runs ≡ pieces s → HasRuns s runs
runs_are s runs e = subst (HasRuns s) (sym e) (HasRuns-pieces s)

-- the pieces of the runs of a text, joined by spaces, are the runs
join_pieces : (s : List ℕ) (runs : List (List ℕ)) → HasRuns s runs → pieces (join_with_byte 32 runs) ≡ runs
join_pieces s _ (no_run e) = pieces-nil
join_pieces s _ (then_run {run} {runs = []} before rest blank is ends more parts) =
    ap pieces (sym (append-nil run)) ∙ pieces-run run [] is refl ∙ ap (λ ps. run ∷ ps) pieces-nil
join_pieces s _ (then_run {run} {runs = next ∷ runs} before rest blank is ends more parts) =
    pieces-run run (32 ∷ join_with_byte 32 (next ∷ runs)) is refl
    ∙ ap (λ ps. run ∷ ps) (pieces-blank 32 (join_with_byte 32 (next ∷ runs)) refl ∙ join_pieces rest (next ∷ runs) more)

-- a text and its collapsed form have the same pieces
pub pieces-collapse : (s : List ℕ) → pieces (collapse s) ≡ pieces s
unfolding collapse
pieces-collapse s = join_pieces s (pieces s) (HasRuns-pieces s)

IsUtf8-past_blank : (b : ℕ) (s : List ℕ) → is_blank_byte b ≡ true → IsUtf8 (b ∷ s) → IsUtf8 s
IsUtf8-past_blank b s e utf8 = IsUtf8-past_char (b ∷ s) s b utf8 (ap (λ t. t ++ s) (sym (encode_ascii b (is_ascii_blank b e))))

IsUtf8-past_blanks : (before s : List ℕ) → is_blank before ≡ true → IsUtf8 (before ++ s) → IsUtf8 s
IsUtf8-past_blanks [] s e utf8 = utf8
IsUtf8-past_blanks (b ∷ before) s e utf8 = let both = and_parts _ _ e in IsUtf8-past_blanks before s both.1 (IsUtf8-past_blank b (before ++ s) both.0 utf8)

-- a text may be split where a run ends
end_boundary : (run rest : List ℕ) → ends_run rest ≡ true → IsUtf8 (run ++ rest) → IsCharBoundary (run ++ rest) (length run)
end_boundary run [] ends utf8 = subst (IsCharBoundary (run ++ [])) (ap length (append-nil run)) (IsCharBoundary-end (run ++ []))
end_boundary run (b ∷ s) ends utf8 =
    let at : get_or (run ++ b ∷ s) (length run) 0 ≡ b = get_or-append_seam run b s 0 in
    IsCharBoundary-before_ascii (run ++ b ∷ s) (length run) (omega (arith, length-append run (b ∷ s))) (subst (λ c. c < 128) (sym at) (is_ascii_blank b ends))

IsUtf8-run : (run rest : List ℕ) → ends_run rest ≡ true → IsUtf8 (run ++ rest) → IsUtf8 run
IsUtf8-run run rest ends utf8 = subst IsUtf8 (take-append_seam run rest) (IsUtf8-take (run ++ rest) (length run) utf8 (end_boundary run rest ends utf8))

IsUtf8-rest : (run rest : List ℕ) → ends_run rest ≡ true → IsUtf8 (run ++ rest) → IsUtf8 rest
IsUtf8-rest run rest ends utf8 = subst IsUtf8 (drop-append_seam run rest) (IsUtf8-drop (run ++ rest) (length run) utf8 (end_boundary run rest ends utf8))

-- the pieces of a text are texts
pub IsUtf8-runs : (s : List ℕ) (runs : List (List ℕ)) → HasRuns s runs → IsUtf8 s → AllByRecursion IsUtf8 runs
IsUtf8-runs s _ (no_run e) utf8 = tt
IsUtf8-runs s _ (then_run {run} {runs} before rest blank is ends more parts) utf8 =
    let after = IsUtf8-past_blanks before (run ++ rest) blank (subst IsUtf8 parts utf8) in
    (IsUtf8-run run rest ends after, IsUtf8-runs rest runs more (IsUtf8-rest run rest ends after))

-- one byte for each space, and the bytes of the texts
abbrev pub spaced_length : List (List ℕ) → ℕ
spaced_length [] = 0
spaced_length (w ∷ ws) = 1 + length w + spaced_length ws

run_begins : (run rest : List ℕ) → is_run run ≡ true → ends_run (run ++ rest) ≡ true → ⊥
run_begins [] rest is ends = search rules
run_begins (x ∷ xs) rest is ends =
    let first : is_blank_byte x ≡ false = not-true (is_blank_byte x) (and_parts (is_run_byte x) (list_all is_run_byte xs) is).0 in
    false≢true (sym first ∙ ends)

-- each run after the first has a space before it
runs_fit : (s : List ℕ) (runs : List (List ℕ)) → HasRuns s runs → ends_run s ≡ true → spaced_length runs ≤ length s
runs_fit s _ (no_run e) ends-s = omega arith
runs_fit s _ (then_run {run} {runs} [] rest blank is ends more parts) ends-s = absurd (run_begins run rest is (subst (λ t. ends_run t ≡ true) parts ends-s))
runs_fit s _ (then_run {run} {runs} (b ∷ before) rest blank is ends more parts) ends-s =
    omega (arith, ap length parts, length-append before (run ++ rest), length-append run rest, runs_fit rest runs more ends)

first_fits : (s first : List ℕ) (runs : List (List ℕ)) → HasRuns s (first ∷ runs) → length first + spaced_length runs ≤ length s
first_fits s first runs (then_run before rest blank is ends more parts) =
    omega (arith, ap length parts, length-append before (first ++ rest), length-append first rest, runs_fit rest runs more ends)

-- the pieces with a space between each two take no more bytes than the text
pub pieces_fit : (s first : List ℕ) (ws : List (List ℕ)) → pieces s ≡ first ∷ ws → length first + spaced_length ws ≤ length s
pieces_fit s first ws e = first_fits s first ws (subst (HasRuns s) e (HasRuns-pieces s))

pub IsUtf8-pieces : (s : List ℕ) → IsUtf8 s → AllByRecursion IsUtf8 (pieces s)
IsUtf8-pieces s utf8 = IsUtf8-runs s (pieces s) (HasRuns-pieces s) utf8
