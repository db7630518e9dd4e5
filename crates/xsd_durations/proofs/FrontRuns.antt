-- What the front of a collapsed text writes is what the front of the bytes writes, since it has no blanks.
use Rattle.std.proofs.Common.{◌≡◌, ℕ, List, [], ◌∷◌, length, Bool, true, false, cond, ◌==◌}
use Rattle.std.proofs.Common.{refl, sym, ap, ◌∙◌, one-add, rules, tests, arith}
use Rattle.std.specs.Char.{is_ascii_digit}
use Rattle.std.specs.List.{list_all}
use Rattle.std.proofs.lemmas.Bool.{and_from}
use Rattle.rng_model.specs.datatypes.Texts.{is_blank_byte, is_blank, collapse}
use Rattle.rng_types.specs.plain.Runs.{from_run}
use Rattle.rng_types.proofs.CollapsedBytes.{no_digit}
use Rattle.rng_model.specs.xsd.primitives.Fronts.{first_digits, past_digits}

-- ---- one byte

-- what the collapsed text has where a blank is
abbrev spaced : List ℕ → List ℕ
spaced s = cond (is_blank s) [] (32 ∷ collapse s)

spaced_by : {A : Type 0} (f : List ℕ → A) (x : A) (s : List ℕ) → f [] ≡ x → f (32 ∷ collapse s) ≡ x → f (spaced s) ≡ x
spaced_by f x s none some = by_blank (is_blank s)
  where
    by_blank : (c : Bool) → f (cond c [] (32 ∷ collapse s)) ≡ x
    by_blank true = none
    by_blank false = some

-- ---- digits

first_digits-front : (b : ℕ) (s : List ℕ) → is_ascii_digit b ≡ true → first_digits (b ∷ s) ≡ b ∷ first_digits s
first_digits-front b s e = rw (e, one-add) refl

past_digits-front : (b : ℕ) (s : List ℕ) → is_ascii_digit b ≡ true → past_digits (b ∷ s) ≡ past_digits s
past_digits-front b s e = rw (e, one-add) refl

first_digits-none : (b : ℕ) (s : List ℕ) → is_ascii_digit b ≡ false → first_digits (b ∷ s) ≡ []
first_digits-none b s e = rw e refl

past_digits-none : (b : ℕ) (s : List ℕ) → is_ascii_digit b ≡ false → past_digits (b ∷ s) ≡ b ∷ s
past_digits-none b s e = rw e refl

from_run-front : (b : ℕ) (s : List ℕ) → is_blank_byte b ≡ false → from_run (b ∷ s) ≡ b ∷ from_run s
from_run-front b s c = rw c refl

from_run-blank : (b : ℕ) (s : List ℕ) → is_blank_byte b ≡ true → from_run (b ∷ s) ≡ spaced s
from_run-blank b s c = rw c refl

first_by_digit : (b : ℕ) (s : List ℕ) (c d : Bool) → is_ascii_digit b ≡ d → is_blank_byte b ≡ c → first_digits (from_run s) ≡ first_digits s
    → first_digits (from_run (b ∷ s)) ≡ first_digits (b ∷ s)
first_by_digit b s true d e c h =
    ap first_digits (from_run-blank b s c) ∙ (spaced_by first_digits [] s refl refl ∙ sym (first_digits-none b s (no_digit b c)))
first_by_digit b s false true e c h =
    ap first_digits (from_run-front b s c) ∙ (first_digits-front b (from_run s) e ∙ (ap (λ t. b ∷ t) h ∙ sym (first_digits-front b s e)))
first_by_digit b s false false e c h =
    ap first_digits (from_run-front b s c) ∙ (first_digits-none b (from_run s) e ∙ sym (first_digits-none b s e))

pub first_digits-run : (s : List ℕ) → first_digits (from_run s) ≡ first_digits s
first_digits-run [] = refl
first_digits-run (b ∷ s) = first_by_digit b s (is_blank_byte b) (is_ascii_digit b) refl refl (first_digits-run s)

past_spaced : (s : List ℕ) → past_digits (spaced s) ≡ spaced s
past_spaced s = by_blank (is_blank s)
  where
    by_blank : (c : Bool) → past_digits (cond c [] (32 ∷ collapse s)) ≡ cond c [] (32 ∷ collapse s)
    by_blank true = refl
    by_blank false = refl

past_by_digit : (b : ℕ) (s : List ℕ) (c d : Bool) → is_ascii_digit b ≡ d → is_blank_byte b ≡ c → past_digits (from_run s) ≡ from_run (past_digits s)
    → past_digits (from_run (b ∷ s)) ≡ from_run (past_digits (b ∷ s))
past_by_digit b s true d e c h =
    ap past_digits (from_run-blank b s c) ∙ (past_spaced s ∙ (sym (from_run-blank b s c) ∙ ap from_run (sym (past_digits-none b s (no_digit b c)))))
past_by_digit b s false true e c h =
    ap past_digits (from_run-front b s c) ∙ (past_digits-front b (from_run s) e ∙ (h ∙ ap from_run (sym (past_digits-front b s e))))
past_by_digit b s false false e c h =
    ap past_digits (from_run-front b s c) ∙ (past_digits-none b (from_run s) e ∙ (sym (from_run-front b s c) ∙ ap from_run (sym (past_digits-none b s e))))

pub past_digits-run : (s : List ℕ) → past_digits (from_run s) ≡ from_run (past_digits s)
past_digits-run [] = refl
past_digits-run (b ∷ s) = past_by_digit b s (is_blank_byte b) (is_ascii_digit b) refl refl (past_digits-run s)

all_by_digit : (b : ℕ) (s : List ℕ) (d : Bool) → is_ascii_digit b ≡ d → list_all is_ascii_digit (first_digits s) ≡ true
    → list_all is_ascii_digit (first_digits (b ∷ s)) ≡ true
all_by_digit b s true e h = ap (list_all is_ascii_digit) (first_digits-front b s e) ∙ and_from (is_ascii_digit b) _ e h
all_by_digit b s false e h = ap (list_all is_ascii_digit) (first_digits-none b s e)

pub first_digits-all : (s : List ℕ) → list_all is_ascii_digit (first_digits s) ≡ true
first_digits-all [] = refl
first_digits-all (b ∷ s) = all_by_digit b s (is_ascii_digit b) refl (first_digits-all s)

-- ---- the end of the text

pub ends-run : (s : List ℕ) → (length (from_run s) == 0) ≡ is_blank s
ends-run [] = refl
ends-run (b ∷ s) = by_byte (is_blank_byte b) refl
  where
    by_blank : (c : Bool) → (length (cond c [] (32 ∷ collapse s)) == 0) ≡ c
    by_blank true = refl
    by_blank false = search (rules, tests, arith)

    by_byte : (c : Bool) → is_blank_byte b ≡ c → (length (from_run (b ∷ s)) == 0) ≡ is_blank (b ∷ s)
    by_byte true c = rw c (by_blank (is_blank s))
    by_byte false c = rw c (search (rules, tests, arith))
