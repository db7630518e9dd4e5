-- What is read of collapsed texts byte by byte.
use Rattle.std.proofs.Common.{◌≡◌, ℕ, List, [], ◌∷◌, ◌++◌, length, Bool, true, false, cond, ◌==◌, refl, ap, sym, ◌∙◌, subst, rules, arith, append-nil, drop}
use Rattle.std.proofs.Common.{one-add, tests, nat_lt, nat_le, ◌&&◌, Option, Some, None, is_some, ℤ}
use Rattle.std.specs.Char.{is_ascii_digit}
use Rattle.std.specs.List.{list_all, join_with_byte, prefix_len}
use Rattle.std.specs.Str.Parse.{without_leading_sign, signed_digits_value}
use Rattle.std.proofs.lemmas.List.Folds.{list_all-append}
use Rattle.std.proofs.lemmas.Bool.{and_left, and_right, and_parts, not-true, true≢false}
use Rattle.std.proofs.Math.Bool.{and-true}
use Rattle.rng_model.specs.datatypes.Texts.{is_blank_byte, is_blank, pieces, collapse, has_bytes}
use Rattle.rng_model.specs.plain.BlankRuns.{is_run_byte, is_run, ends_run, HasRuns, no_run, then_run}
use Rattle.rng_model.specs.datatypes.Facets.{Bounds, is_inside, number_inside, is_decimal, short_integer_of, most_digits}
use Rattle.rng_model.proofs.BlankRuns.{pieces-blank, HasRuns-pieces, pieces-from_HasRuns}
use Rattle.rng_types.specs.plain.Runs.{past_blanks, from_run}

past_front : (before s : List ℕ) → is_blank before ≡ true → past_blanks (before ++ s) ≡ past_blanks s
past_front [] s e = refl
past_front (b ∷ before) s e = let both = and_parts (is_blank_byte b) (is_blank before) e in rw both.0 (past_front before s both.1)

past_run : (run rest : List ℕ) → is_run run ≡ true → past_blanks (run ++ rest) ≡ run ++ rest
past_run [] rest e = search rules
past_run (x ∷ xs) rest e = rw (not-true (is_blank_byte x) (and_parts (is_run_byte x) (list_all is_run_byte xs) e).0) refl

pub run_then : (run rest : List ℕ) → list_all is_run_byte run ≡ true → from_run (run ++ rest) ≡ run ++ from_run rest
run_then [] rest e = refl
run_then (x ∷ xs) rest e =
    let both = and_parts (is_run_byte x) (list_all is_run_byte xs) e in
    rw (not-true (is_blank_byte x) both.0) (ap (λ t. x ∷ t) (run_then xs rest both.1))

-- further pieces, with a space before them
spaced : List (List ℕ) → List ℕ
spaced [] = []
spaced (p ∷ ps) = 32 ∷ join_with_byte 32 (p ∷ ps)

-- a text with a run is not blank
not_blank : (before run rest : List ℕ) → is_run run ≡ true → is_blank (before ++ (run ++ rest)) ≡ false
not_blank before [] rest e = search rules
not_blank before (x ∷ xs) rest e =
    list_all-append is_blank_byte before ((x ∷ xs) ++ rest)
    ∙ and_right (is_blank before) (is_blank (x ∷ (xs ++ rest)))
    (and_left (is_blank_byte x) (is_blank (xs ++ rest)) (not-true (is_blank_byte x) (and_parts (is_run_byte x) (list_all is_run_byte xs) e).0))

spaced_runs : (s : List ℕ) (ps : List (List ℕ)) → HasRuns s ps → cond (is_blank s) [] (32 ∷ join_with_byte 32 ps) ≡ spaced ps
unfolding spaced
spaced_runs s _ (no_run e) = rw e refl
spaced_runs s _ (then_run {run} {runs} before rest blank is ends more parts) =
    let e : is_blank s ≡ false = ap is_blank parts ∙ not_blank before run rest is in
    rw e refl

pieces-none : pieces [] ≡ []
unfolding pieces
pieces-none = refl

-- where a run ends, its text gives the further pieces
behind_run : (rest : List ℕ) → ends_run rest ≡ true → from_run rest ≡ spaced (pieces rest)
unfolding spaced collapse
behind_run [] e = ap spaced (sym pieces-none)
behind_run (b ∷ s) e = rw e (spaced_runs s (pieces s) (HasRuns-pieces s) ∙ ap spaced (sym (pieces-blank b s e)))

first_and_further : (run : List ℕ) (runs : List (List ℕ)) → join_with_byte 32 (run ∷ runs) ≡ run ++ spaced runs
unfolding spaced
first_and_further run [] = sym (append-nil run)
first_and_further run (p ∷ ps) = refl

join_runs : (s : List ℕ) (ps : List (List ℕ)) → HasRuns s ps → join_with_byte 32 ps ≡ from_run (past_blanks s)
join_runs s _ (no_run e) = sym (ap from_run (ap past_blanks (sym (append-nil s)) ∙ past_front s [] e))
join_runs s _ (then_run {run} {runs} before rest blank is ends more parts) =
    let past : past_blanks s ≡ run ++ rest = ap past_blanks parts ∙ past_front before (run ++ rest) blank ∙ past_run run rest is in
    let further : from_run rest ≡ spaced runs = behind_run rest ends ∙ ap spaced (pieces-from_HasRuns rest runs more) in
    first_and_further run runs ∙ ap (λ t. run ++ t) (sym further) ∙ sym (run_then run rest (and_parts (has_bytes run) (list_all is_run_byte run) is).1)
    ∙ ap from_run (sym past)

-- the collapsed text, byte by byte
pub collapse-past : (s : List ℕ) → collapse s ≡ from_run (past_blanks s)
unfolding collapse
collapse-past s = join_runs s (pieces s) (HasRuns-pieces s)

-- nothing is left past the blanks of a blank text alone
pub blank-past : (s : List ℕ) → (length (past_blanks s) == 0) ≡ is_blank s
blank-past [] = refl
blank-past (b ∷ s) = by_byte (is_blank_byte b) refl (blank-past s)
  where
    by_byte : (c : Bool) → is_blank_byte b ≡ c → (length (past_blanks s) == 0) ≡ is_blank s → (length (past_blanks (b ∷ s)) == 0) ≡ is_blank (b ∷ s)
    by_byte true e h = rw e h
    by_byte false e h = rw e (search rules)

-- ---- the front of a text whose bytes pass a test, where it is all but blanks

module _ (p : ℕ → Bool) (apart : (b : ℕ) → is_blank_byte b ≡ true → p b ≡ false) where
  -- the rest passes the test if the rest of the text is blank
  pub alone : (s : List ℕ) → list_all p (from_run s) ≡ is_blank (drop (prefix_len p s) s)
  alone [] = refl
  alone (b ∷ s) = by_byte (p b) (is_blank_byte b) refl refl (apart b) (alone s)
    where
      by_blank : (c : Bool) → is_blank s ≡ c → list_all p (cond (is_blank s) [] (32 ∷ collapse s)) ≡ is_blank s
      by_blank true e = rw e refl
      by_blank false e = rw (e, apart 32 refl) refl

      by_byte : (d c : Bool) → p b ≡ d → is_blank_byte b ≡ c → (c ≡ true → d ≡ false) → list_all p (from_run s) ≡ is_blank (drop (prefix_len p s) s)
          → list_all p (from_run (b ∷ s)) ≡ is_blank (drop (prefix_len p (b ∷ s)) (b ∷ s))
      by_byte true true d c other h = absurd (true≢false (other refl))
      by_byte true false d c other h = rw (d, c, one-add) (rw d h)
      by_byte false true d c other h = rw (d, c) (by_blank (is_blank s) refl)
      by_byte false false d c other h = rw (d, c) (rw d refl)

-- ---- numerals

pub no_digit : (b : ℕ) → is_blank_byte b ≡ true → is_ascii_digit b ≡ false
no_digit b e = search (rules, tests, arith)

pub digits_alone : (s : List ℕ) → list_all is_ascii_digit (from_run s) ≡ is_blank (drop (prefix_len is_ascii_digit s) s)
digits_alone s = alone is_ascii_digit no_digit s

counted_by : (b : ℕ) (s : List ℕ) (d c : Bool) → is_ascii_digit b ≡ d → is_blank_byte b ≡ c
    → (is_blank (drop (prefix_len is_ascii_digit s) s) ≡ true → length (from_run s) ≡ prefix_len is_ascii_digit s)
    → is_blank (drop (prefix_len is_ascii_digit (b ∷ s)) (b ∷ s)) ≡ true → length (from_run (b ∷ s)) ≡ prefix_len is_ascii_digit (b ∷ s)
counted_by b s true true d c more h = search (rules, tests, arith)
counted_by b s true false d c more h =
    let blank : is_blank (drop (prefix_len is_ascii_digit s) s) ≡ true = rw (d, one-add) at h in
    rw (d, c) (omega (arith, more blank))
counted_by b s false true d c more h =
    let blank : is_blank s ≡ true = rw (d, c) at h in
    rw (d, c) (rw blank refl)
counted_by b s false false d c more h =
    let blank : false ≡ true = rw (d, c) at h in
    absurd (true≢false (sym blank))

digits_counted : (s : List ℕ) → is_blank (drop (prefix_len is_ascii_digit s) s) ≡ true → length (from_run s) ≡ prefix_len is_ascii_digit s
digits_counted [] h = refl
digits_counted (b ∷ s) h = counted_by b s (is_ascii_digit b) (is_blank_byte b) refl refl (digits_counted s) h

some_counted : (ds : List ℕ) → has_bytes ds ≡ nat_lt 0 (length ds)
some_counted [] = refl
some_counted (d ∷ ds) = search (rules, arith)

-- digits and then blanks are what a numeral collapses from
pub decimal-run : (most : ℕ) (s : List ℕ) (n : ℕ) → n ≡ prefix_len is_ascii_digit s
    → ((nat_lt 0 n && nat_le n most) && is_blank (drop n s)) ≡ is_decimal most (from_run s)
decimal-run most s n e = by_rest (is_blank (drop n s)) refl
  where
    by_rest : (c : Bool) → is_blank (drop n s) ≡ c → ((nat_lt 0 n && nat_le n most) && is_blank (drop n s)) ≡ is_decimal most (from_run s)
    by_rest true h =
        let here : is_blank (drop (prefix_len is_ascii_digit s) s) ≡ true = subst (λ k. is_blank (drop k s) ≡ true) e h in
        let counted : length (from_run s) ≡ n = digits_counted s here ∙ sym e in
        rw (h, some_counted (from_run s), digits_alone s, here, counted) (and-true (nat_lt 0 n && nat_le n most))
    by_rest false h =
        let here : is_blank (drop (prefix_len is_ascii_digit s) s) ≡ false = subst (λ k. is_blank (drop k s) ≡ false) e h in
        rw h (and_right (nat_lt 0 n && nat_le n most) false refl ∙ sym (and_right (has_bytes (from_run s)) _ (and_left _ _ (digits_alone s ∙ here))))

blank_unsigned : (b : ℕ) (s : List ℕ) → is_blank_byte b ≡ true → without_leading_sign (b ∷ s) ≡ b ∷ s
blank_unsigned b s e =
    let minus : (b == 45) ≡ false = search (rules, tests, arith) in
    let plus : (b == 43) ≡ false = search (rules, tests, arith) in
    rw (minus, plus) refl

blanks_unsigned : (c : Bool) (s : List ℕ) → without_leading_sign (cond c [] (32 ∷ s)) ≡ cond c [] (32 ∷ s)
blanks_unsigned true s = refl
blanks_unsigned false s = refl

unsigned_by : (b : ℕ) (s : List ℕ) (c minus plus : Bool) → is_blank_byte b ≡ c → (b == 45) ≡ minus → (b == 43) ≡ plus
    → from_run (without_leading_sign (b ∷ s)) ≡ without_leading_sign (from_run (b ∷ s))
unsigned_by b s true minus plus c m p =
    ap from_run (blank_unsigned b s c) ∙ rw c (sym (blanks_unsigned (is_blank s) (collapse s)))
unsigned_by b s false true plus c m p = rw (c, m) refl
unsigned_by b s false false true c m p = rw (c, m, p) refl
unsigned_by b s false false false c m p = rw (c, m, p) (rw c refl)

-- a sign is of the run that it begins
pub unsigned-run : (s : List ℕ) → from_run (without_leading_sign s) ≡ without_leading_sign (from_run s)
unsigned-run [] = refl
unsigned-run (b ∷ s) = unsigned_by b s (is_blank_byte b) (b == 45) (b == 43) refl refl refl

some_if : {A : Type 0} (b : Bool) (x : A) → is_some (cond b (Some x) None) ≡ b
some_if true x = refl
some_if false x = refl

-- whether there is a number
pub some-integer : (s : List ℕ) → is_some (short_integer_of s) ≡ is_decimal most_digits (without_leading_sign s)
unfolding short_integer_of
some-integer s = some_if (is_decimal most_digits (without_leading_sign s)) (signed_digits_value 10 s)

-- where all numbers are within bounds
pub some-inside : (b : Bounds) (n : Option ℤ) → ((k : ℤ) → is_inside b k ≡ true) → is_some n ≡ is_some (number_inside b n)
some-inside b None all = refl
some-inside b (Some k) all = rw (all k) refl
