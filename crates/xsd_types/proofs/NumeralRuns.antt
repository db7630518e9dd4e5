-- Numerals read from texts, past the blanks in front.
use Rattle.std.proofs.Common.{◌≡◌, ℕ, List, [], ◌∷◌, length, take, drop, Bool, true, false, cond, ◌==◌, refl, sym, ap, ◌∙◌, rules, tests, arith}
use Rattle.std.specs.Char.{is_ascii_digit}
use Rattle.std.specs.List.{list_all, prefix_len}
use Rattle.std.specs.Str.Parse.{starts_with_minus}
use Rattle.std.proofs.lemmas.Bool.{and_left, and_right, and_from}
use Rattle.rng_model.proofs.BlankRuns.{some_bytes, no_bytes}
use Rattle.rng_model.proofs.TestedRuns.{run_passes}
use Rattle.rng_model.specs.datatypes.Texts.{is_blank_byte, is_blank, collapse, has_bytes}
use Rattle.rng_model.specs.xsd.Numbers.{are_digits}
use Rattle.rng_types.specs.plain.Runs.{from_run}
use Rattle.rng_types.proofs.CollapsedBytes.{digits_alone, no_digit}
use Rattle.rng_types.proofs.WordsOfTexts.{run_front}

-- the digits that a text begins with, where it is all but blanks
pub front_is : (s ds after : List ℕ) → ds ≡ take (prefix_len is_ascii_digit s) s → after ≡ drop (prefix_len is_ascii_digit s) s → is_blank after ≡ true
    → from_run s ≡ ds
front_is s ds after front back blank = run_front is_ascii_digit no_digit s (ap is_blank (sym back) ∙ blank) ∙ sym front

pub front_digits : (s ds : List ℕ) → ds ≡ take (prefix_len is_ascii_digit s) s → (length ds == 0) ≡ false → are_digits ds ≡ true
front_digits s ds front some = and_from _ _ (some_bytes ds some) (ap (list_all is_ascii_digit) front ∙ run_passes is_ascii_digit s)

-- if there are none, or something behind them, the text is no numeral
pub more_behind : (s after : List ℕ) → after ≡ drop (prefix_len is_ascii_digit s) s → is_blank after ≡ false → are_digits (from_run s) ≡ false
more_behind s after back more = and_right _ _ (digits_alone s ∙ ap is_blank (sym back) ∙ more)

pub no_digits : (s ds after : List ℕ) → ds ≡ take (prefix_len is_ascii_digit s) s → after ≡ drop (prefix_len is_ascii_digit s) s
    → (length ds == 0) ≡ true → are_digits (from_run s) ≡ false
no_digits s ds after front back none = by_rest (is_blank after) refl
  where
    by_rest : (b : Bool) → is_blank after ≡ b → are_digits (from_run s) ≡ false
    by_rest true e = and_left _ _ (ap has_bytes (front_is s ds after front back e) ∙ no_bytes ds none)
    by_rest false e = more_behind s after back e

-- a minus is of the run that it begins
blanks_minus : (c : Bool) (s : List ℕ) → starts_with_minus (cond c [] (32 ∷ s)) ≡ false
blanks_minus true s = refl
blanks_minus false s = refl

pub minus-run : (s : List ℕ) → starts_with_minus (from_run s) ≡ starts_with_minus s
minus-run [] = refl
minus-run (b ∷ s) = by_byte (is_blank_byte b) refl
  where
    by_byte : (c : Bool) → is_blank_byte b ≡ c → starts_with_minus (from_run (b ∷ s)) ≡ starts_with_minus (b ∷ s)
    by_byte true e =
        let other : (b == 45) ≡ false = search (rules, tests, arith) in
        rw e (blanks_minus (is_blank s) (collapse s) ∙ sym other)
    by_byte false e = rw e refl
