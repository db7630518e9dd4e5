-- Digits, a point and digits, with blanks behind them, as the parts of a collapsed text.
use Rattle.std.proofs.Common.{◌≡◌, ◌<◌, inl, inr, ℕ, List, [], ◌∷◌, ◌++◌, length, drop, Bool, true, false, ◌==◌, ◌&&◌, Some, None}
use Rattle.std.proofs.Common.{refl, sym, ap, ◌∙◌, rules, tests, arith, true≢false, one-add, append-nil, append_assoc}
use Rattle.std.specs.Char.{is_ascii_digit}
use Rattle.std.specs.List.{list_all, prefix_len, slice_split, onto_first}
use Rattle.std.proofs.lemmas.Bool.{and_parts, and_from, and_left, and_right}
use Rattle.std.proofs.lemmas.List.Folds.{list_all-append}
use Rattle.rng_model.specs.datatypes.Texts.{is_blank_byte, is_blank, collapse, has_bytes}
use Rattle.rng_model.specs.plain.BlankRuns.{is_run_byte}
use Rattle.rng_model.specs.xsd.Numbers.{are_digits}
use Rattle.rng_model.proofs.BlankRuns.{some_bytes, no_bytes}
use Rattle.rng_types.specs.plain.Runs.{from_run}
use Rattle.rng_types.proofs.CollapsedBytes.{run_then}
use Rattle.rng_model.specs.xsd.primitives.Decimals.{is_point, decimal_if, decimal_with, decimal_parts}
use Rattle.xsd_decimals.specs.plain.Parts.{starts_with_digit, starts_with_point, AreBehind, WritesParts, WritesNone}
use Rattle.xsd_decimals.proofs.ComparedDigits.{AreDigits}

-- ---- where digits end

ends_by : (b : ℕ) (s : List ℕ) (d : Bool) → is_ascii_digit b ≡ d → starts_with_digit (drop (prefix_len is_ascii_digit s) s) ≡ false
    → starts_with_digit (drop (prefix_len is_ascii_digit (b ∷ s)) (b ∷ s)) ≡ false
ends_by b s true e more = rw (e, one-add) more
ends_by b s false e more = rw e e

pub ends_digits : (s : List ℕ) → starts_with_digit (drop (prefix_len is_ascii_digit s) s) ≡ false
ends_digits [] = refl
ends_digits (b ∷ s) = ends_by b s (is_ascii_digit b) refl (ends_digits s)

-- ---- a digit is no blank and no point

run_digit : (b : ℕ) → is_ascii_digit b ≡ true → is_run_byte b ≡ true
run_digit b e = search (rules, tests, arith)

no_point : (b : ℕ) → is_ascii_digit b ≡ true → is_point b ≡ false
no_point b e = search (rules, tests, arith)

run_digits : (ds : List ℕ) → AreDigits ds → list_all is_run_byte ds ≡ true
run_digits [] e = refl
run_digits (d ∷ ds) e =
    let both = and_parts (is_ascii_digit d) (list_all is_ascii_digit ds) e in
    and_from (is_run_byte d) (list_all is_run_byte ds) (run_digit d both.0) (run_digits ds both.1)

digits_then : (ds rest : List ℕ) → AreDigits ds → from_run (ds ++ rest) ≡ ds ++ from_run rest
digits_then ds rest e = run_then ds rest (run_digits ds e)

-- ---- digits in front of the parts

onto : List ℕ → List (List ℕ) → List (List ℕ)
onto [] ps = ps
onto (d ∷ ds) ps = onto_first d (onto ds ps)

split_digits : (ds s : List ℕ) → AreDigits ds → slice_split is_point (ds ++ s) ≡ onto ds (slice_split is_point s)
unfolding onto
split_digits [] s e = refl
split_digits (d ∷ ds) s e =
    let both = and_parts (is_ascii_digit d) (list_all is_ascii_digit ds) e in
    rw (no_point d both.0) (ap (onto_first d) (split_digits ds s both.1))

onto-cons : (ds p : List ℕ) (ps : List (List ℕ)) → onto ds (p ∷ ps) ≡ (ds ++ p) ∷ ps
unfolding onto
onto-cons [] p ps = refl
onto-cons (d ∷ ds) p ps = ap (onto_first d) (onto-cons ds p ps)

split_all : (ds : List ℕ) → AreDigits ds → slice_split is_point ds ≡ ds ∷ []
split_all ds e =
    ap (slice_split is_point) (sym (append-nil ds)) ∙ split_digits ds [] e ∙ onto-cons ds [] [] ∙ ap (λ t. t ∷ []) (append-nil ds)

split_point : (ds s : List ℕ) → AreDigits ds → slice_split is_point (ds ++ 46 ∷ s) ≡ ds ∷ slice_split is_point s
split_point ds s e = split_digits ds (46 ∷ s) e ∙ onto-cons ds [] (slice_split is_point s) ∙ ap (λ t. t ∷ slice_split is_point s) (append-nil ds)

-- ---- a byte that is no digit

other_fails : (xs ys : List ℕ) (x : ℕ) → is_ascii_digit x ≡ false → list_all is_ascii_digit (xs ++ x ∷ ys) ≡ false
other_fails xs ys x e =
    list_all-append is_ascii_digit xs (x ∷ ys)
    ∙ and_right (list_all is_ascii_digit xs) (list_all is_ascii_digit (x ∷ ys)) (and_left (is_ascii_digit x) (list_all is_ascii_digit ys) e)

none_if : (minus : Bool) (whole fraction : List ℕ) → list_all is_ascii_digit (whole ++ fraction) ≡ false → decimal_if minus whole fraction ≡ None
none_if minus whole fraction e = rw (and_right (has_bytes (whole ++ fraction)) (list_all is_ascii_digit (whole ++ fraction)) e) refl

-- before the point
none_first : (minus : Bool) (ds p : List ℕ) (x : ℕ) (ps : List (List ℕ)) → is_ascii_digit x ≡ false → decimal_parts minus ((ds ++ x ∷ p) ∷ ps) ≡ None
none_first minus ds p x [] e = none_if minus (ds ++ x ∷ p) [] (ap (list_all is_ascii_digit) (append-nil (ds ++ x ∷ p)) ∙ other_fails ds p x e)
none_first minus ds p x (q ∷ []) e =
    none_if minus (ds ++ x ∷ p) q (ap (list_all is_ascii_digit) (append_assoc ds (x ∷ p) q) ∙ other_fails ds (p ++ q) x e)
none_first minus ds p x (q ∷ r ∷ ps) e = refl

none_before : (minus : Bool) (ds : List ℕ) (x : ℕ) (ps : List (List ℕ)) → is_ascii_digit x ≡ false → decimal_parts minus (onto ds (onto_first x ps)) ≡ None
none_before minus ds x [] e = ap (decimal_parts minus) (onto-cons ds (x ∷ []) []) ∙ none_first minus ds [] x [] e
none_before minus ds x (p ∷ ps) e = ap (decimal_parts minus) (onto-cons ds (x ∷ p) ps) ∙ none_first minus ds p x ps e

-- and behind it
none_second : (minus : Bool) (whole ds p : List ℕ) (x : ℕ) (ps : List (List ℕ)) → is_ascii_digit x ≡ false
    → decimal_parts minus (whole ∷ (ds ++ x ∷ p) ∷ ps) ≡ None
none_second minus whole ds p x [] e =
    none_if minus whole (ds ++ x ∷ p) (ap (list_all is_ascii_digit) (sym (append_assoc whole ds (x ∷ p))) ∙ other_fails (whole ++ ds) p x e)
none_second minus whole ds p x (q ∷ ps) e = refl

none_behind : (minus : Bool) (whole ds : List ℕ) (x : ℕ) (ps : List (List ℕ)) → is_ascii_digit x ≡ false
    → decimal_parts minus (whole ∷ onto ds (onto_first x ps)) ≡ None
none_behind minus whole ds x [] e = ap (λ t. decimal_parts minus (whole ∷ t)) (onto-cons ds (x ∷ []) []) ∙ none_second minus whole ds [] x [] e
none_behind minus whole ds x (p ∷ ps) e = ap (λ t. decimal_parts minus (whole ∷ t)) (onto-cons ds (x ∷ p) ps) ∙ none_second minus whole ds p x ps e

-- a second point makes three parts
three_parts : (minus : Bool) (whole p : List ℕ) (ps : List (List ℕ)) → 0 < length ps → decimal_parts minus (whole ∷ p ∷ ps) ≡ None
three_parts minus whole p [] some = absurd (omega (arith, some))
three_parts minus whole p (q ∷ ps) some = refl

some_onto : (x : ℕ) (ps : List (List ℕ)) → 0 < length (onto_first x ps)
some_onto x [] = omega arith
some_onto x (p ∷ ps) = omega arith

some_parts : (s : List ℕ) → 0 < length (slice_split is_point s)
some_parts [] = omega arith
some_parts (x ∷ s) = by_point (is_point x) refl
  where
    by_point : (b : Bool) → is_point x ≡ b → 0 < length (slice_split is_point (x ∷ s))
    by_point true e = rw e (omega arith)
    by_point false e = rw e (some_onto x (slice_split is_point s))

second_point : (minus : Bool) (whole ds s : List ℕ) → decimal_parts minus (whole ∷ onto ds ([] ∷ slice_split is_point s)) ≡ None
second_point minus whole ds s =
    ap (λ t. decimal_parts minus (whole ∷ t)) (onto-cons ds [] (slice_split is_point s)) ∙ three_parts minus whole (ds ++ []) (slice_split is_point s) (some_parts s)

other_second : (minus : Bool) (whole ds : List ℕ) (x : ℕ) (s : List ℕ) → is_ascii_digit x ≡ false
    → decimal_parts minus (whole ∷ onto ds (slice_split is_point (x ∷ s))) ≡ None
other_second minus whole ds x s e = by_point (is_point x) refl
  where
    by_point : (b : Bool) → is_point x ≡ b → decimal_parts minus (whole ∷ onto ds (slice_split is_point (x ∷ s))) ≡ None
    by_point true p = rw p (second_point minus whole ds s)
    by_point false p = rw p (none_behind minus whole ds x (slice_split is_point s) e)

other_first : (minus : Bool) (ds : List ℕ) (x : ℕ) (s : List ℕ) → is_ascii_digit x ≡ false → is_point x ≡ false
    → decimal_parts minus (onto ds (slice_split is_point (x ∷ s))) ≡ None
other_first minus ds x s e p = rw p (none_before minus ds x (slice_split is_point s) e)

-- ---- what is behind the digits

-- it begins with a byte that is no digit, and no point unless it began with one before
record Begins (s : List ℕ) : Type 0 where
  first : ℕ
  more : List ℕ
  is : from_run s ≡ first ∷ more
  digit : is_ascii_digit first ≡ false
  point : is_point first ≡ starts_with_point s

begins_by : (b : ℕ) (s : List ℕ) (c : Bool) → is_blank_byte b ≡ c → is_ascii_digit b ≡ false → is_blank (b ∷ s) ≡ false → Begins (b ∷ s)
begins_by b s true e other some =
    let more : is_blank s ≡ false = sym (ap (λ c. c && is_blank s) e) ∙ some in
    record { first = 32; more = collapse s; is = rw (e, more) refl; digit = refl; point = sym (search (rules, tests, arith)) }
begins_by b s false e other some = record { first = b; more = from_run s; is = rw e refl; digit = other; point = refl }

begins : (s : List ℕ) → starts_with_digit s ≡ false → is_blank s ≡ false → Begins s
begins [] other some = absurd (true≢false some)
begins (b ∷ s) other some = begins_by b s (is_blank_byte b) refl other some

blank_by : (b : ℕ) (s : List ℕ) → is_blank (b ∷ s) ≡ true → from_run (b ∷ s) ≡ []
blank_by b s e = let both = and_parts (is_blank_byte b) (is_blank s) e in rw (both.0, both.1) refl

run_blank : (s : List ℕ) → is_blank s ≡ true → from_run s ≡ []
run_blank [] e = refl
run_blank (b ∷ s) e = blank_by b s e

-- ---- the collapsed text

module _ (s whole rest fraction after : List ℕ) (parts : s ≡ whole ++ rest) (digits : AreDigits whole) where
  with_point : rest ≡ 46 ∷ (fraction ++ after) → AreDigits fraction → from_run s ≡ whole ++ 46 ∷ (fraction ++ from_run after)
  with_point is more =
      ap from_run (parts ∙ ap (λ t. whole ++ t) is) ∙ digits_then whole (46 ∷ (fraction ++ after)) digits
      ∙ ap (λ t. whole ++ 46 ∷ t) (digits_then fraction after more)

  without_point : after ≡ rest → from_run s ≡ whole ++ from_run after
  without_point is = ap from_run (parts ∙ ap (λ t. whole ++ t) (sym is)) ∙ digits_then whole after digits

  digits_only : length (whole ++ fraction) == 0 ≡ false → AreDigits fraction → are_digits (whole ++ fraction) ≡ true
  digits_only some more = and_from _ _ (some_bytes (whole ++ fraction) some) (list_all-append is_ascii_digit whole fraction ∙ and_from _ _ digits more)

  -- digits, and blanks behind them
  pub writes : starts_with_digit rest ≡ false → AreBehind rest fraction after → AreDigits fraction → is_blank after ≡ true
      → (length (whole ++ fraction) == 0) ≡ false → WritesParts (from_run s) whole fraction
  writes other behind more blank some =
      record { some = digits_only some more; is = λ minus. elim behind.parts [ inl is ↦ pointed minus is | inr is ↦ alone minus is.0 is.1 ] }
    where
      chosen : (minus : Bool) → decimal_if minus whole fraction ≡ Some (decimal_with minus whole fraction)
      chosen minus = rw (digits_only some more) refl

      pointed : (minus : Bool) → rest ≡ 46 ∷ (fraction ++ after) → decimal_parts minus (slice_split is_point (from_run s)) ≡ Some (decimal_with minus whole fraction)
      pointed minus is =
          ap (λ t. decimal_parts minus (slice_split is_point t))
          (with_point is more ∙ ap (λ t. whole ++ 46 ∷ (fraction ++ t)) (run_blank after blank) ∙ ap (λ t. whole ++ 46 ∷ t) (append-nil fraction))
          ∙ ap (decimal_parts minus) (split_point whole fraction digits ∙ ap (λ t. whole ∷ t) (split_all fraction more))
          ∙ chosen minus

      alone : (minus : Bool) → fraction ≡ [] → after ≡ rest → decimal_parts minus (slice_split is_point (from_run s)) ≡ Some (decimal_with minus whole fraction)
      alone minus none is =
          ap (λ t. decimal_parts minus (slice_split is_point t))
          (without_point is ∙ ap (λ t. whole ++ t) (run_blank after blank) ∙ append-nil whole)
          ∙ ap (decimal_parts minus) (split_all whole digits) ∙ ap (decimal_if minus whole) (sym none) ∙ chosen minus

  -- something else behind them
  pub more_behind : starts_with_digit rest ≡ false → AreBehind rest fraction after → AreDigits fraction → is_blank after ≡ false → WritesNone (from_run s)
  more_behind other behind more blank minus = elim behind.parts [ inl is ↦ pointed is | inr is ↦ alone is.1 is.2 ]
    where
      start : Begins after
      start = begins after behind.behind blank

      pointed : rest ≡ 46 ∷ (fraction ++ after) → decimal_parts minus (slice_split is_point (from_run s)) ≡ None
      pointed is =
          ap (λ t. decimal_parts minus (slice_split is_point t)) (with_point is more ∙ ap (λ t. whole ++ 46 ∷ (fraction ++ t)) start.is)
          ∙ ap (decimal_parts minus)
          (split_point whole (fraction ++ start.first ∷ start.more) digits ∙ ap (λ t. whole ∷ t) (split_digits fraction (start.first ∷ start.more) more))
          ∙ other_second minus whole fraction start.first start.more start.digit

      alone : after ≡ rest → starts_with_point rest ≡ false → decimal_parts minus (slice_split is_point (from_run s)) ≡ None
      alone is pointless =
          ap (λ t. decimal_parts minus (slice_split is_point t)) (without_point is ∙ ap (λ t. whole ++ t) start.is)
          ∙ ap (decimal_parts minus) (split_digits whole (start.first ∷ start.more) digits)
          ∙ other_first minus whole start.first start.more start.digit (start.point ∙ ap starts_with_point is ∙ pointless)

  -- or no digits
  no_digits : AreBehind rest fraction after → AreDigits fraction → is_blank after ≡ true → (length (whole ++ fraction) == 0) ≡ true → WritesNone (from_run s)
  no_digits behind more blank none minus = elim behind.parts [ inl is ↦ pointed is | inr is ↦ alone is.0 is.1 ]
    where
      nothing : decimal_if minus whole fraction ≡ None
      nothing = rw (and_left _ (list_all is_ascii_digit (whole ++ fraction)) (no_bytes (whole ++ fraction) none)) refl

      pointed : rest ≡ 46 ∷ (fraction ++ after) → decimal_parts minus (slice_split is_point (from_run s)) ≡ None
      pointed is =
          ap (λ t. decimal_parts minus (slice_split is_point t))
          (with_point is more ∙ ap (λ t. whole ++ 46 ∷ (fraction ++ t)) (run_blank after blank) ∙ ap (λ t. whole ++ 46 ∷ t) (append-nil fraction))
          ∙ ap (decimal_parts minus) (split_point whole fraction digits ∙ ap (λ t. whole ∷ t) (split_all fraction more)) ∙ nothing

      alone : fraction ≡ [] → after ≡ rest → decimal_parts minus (slice_split is_point (from_run s)) ≡ None
      alone none_there is =
          ap (λ t. decimal_parts minus (slice_split is_point t))
          (without_point is ∙ ap (λ t. whole ++ t) (run_blank after blank) ∙ append-nil whole)
          ∙ ap (decimal_parts minus) (split_all whole digits) ∙ ap (decimal_if minus whole) (sym none_there) ∙ nothing

  pub empty_parts : starts_with_digit rest ≡ false → AreBehind rest fraction after → AreDigits fraction → (length (whole ++ fraction) == 0) ≡ true
      → WritesNone (from_run s)
  empty_parts other behind more none = by_blank (is_blank after) refl
    where
      by_blank : (b : Bool) → is_blank after ≡ b → WritesNone (from_run s)
      by_blank true e = no_digits behind more e none
      by_blank false e = more_behind other behind more e
