-- What the front of a collapsed text writes is what the front of the bytes writes, since it has no blanks.
use Rattle.std.proofs.Common.{◌≡◌, ℕ, List, [], ◌∷◌, length, Bool, true, false, cond, ◌&&◌, ◌==◌, nat_le, Option, Some, None}
use Rattle.std.proofs.Common.{◌<◌, refl, sym, ap, ◌∙◌, one-add, rules, tests, arith}
use Rattle.std.specs.Char.{is_ascii_digit}
use Rattle.std.specs.List.{list_all}
use Rattle.std.specs.Option.{option_map}
use Rattle.std.specs.Str.Parse.{digits_value}
use Rattle.std.proofs.lemmas.Bool.{and_from}
use Rattle.rng_model.specs.datatypes.Texts.{is_blank_byte, is_blank, collapse}
use Rattle.rng_types.specs.plain.Runs.{from_run}
use Rattle.rng_types.proofs.CollapsedBytes.{no_digit}
use Rattle.rng_model.specs.xsd.primitives.Fronts.{Front, after, two_digits, first_digits, past_digits}

-- the same number, before what the rest of the text collapses to
abbrev pub run_front : Front → Front
run_front f = (f.0, from_run f.1)

-- ---- one byte

-- what the collapsed text has where a blank is
abbrev pub spaced : List ℕ → List ℕ
spaced s = cond (is_blank s) [] (32 ∷ collapse s)

spaced_by : {A : Type 0} (f : List ℕ → A) (x : A) (s : List ℕ) → f [] ≡ x → f (32 ∷ collapse s) ≡ x → f (spaced s) ≡ x
spaced_by f x s none some = by_blank (is_blank s)
  where
    by_blank : (c : Bool) → f (cond c [] (32 ∷ collapse s)) ≡ x
    by_blank true = none
    by_blank false = some

not_same : (byte b : ℕ) → is_blank_byte byte ≡ false → is_blank_byte b ≡ true → (byte == b) ≡ false
not_same byte b other blank = search (rules, tests, arith)

after_by : (byte b : ℕ) (s : List ℕ) (c d : Bool) → is_blank_byte byte ≡ false → is_blank_byte b ≡ c → (byte == b) ≡ d
    → after byte (from_run (b ∷ s)) ≡ option_map from_run (after byte (b ∷ s))
after_by byte b s true d other c e =
    rw c (spaced_by (after byte) None s refl (rw (not_same byte 32 other refl) refl) ∙ rw (not_same byte b other c) refl)
after_by byte b s false true other c e = rw (c, e) refl
after_by byte b s false false other c e = rw (c, e) refl

pub after-run : (byte : ℕ) (s : List ℕ) → is_blank_byte byte ≡ false → after byte (from_run s) ≡ option_map from_run (after byte s)
after-run byte [] other = refl
after-run byte (b ∷ s) other = after_by byte b s (is_blank_byte b) (byte == b) other refl refl

-- ---- two digits

if_front : (c : Bool) (n : ℕ) (s : List ℕ) → cond c (Some (n, from_run s)) None ≡ option_map run_front (cond c (Some (n, s)) None)
if_front true n s = refl
if_front false n s = refl

no_first : (least greatest c : ℕ) (s : List ℕ) → is_ascii_digit c ≡ false → two_digits least greatest (c ∷ s) ≡ None
no_first least greatest c [] e = refl
no_first least greatest c (b ∷ s) e = rw e refl

no_second : (least greatest a c : ℕ) (s : List ℕ) → is_ascii_digit c ≡ false → two_digits least greatest (a ∷ c ∷ s) ≡ None
no_second least greatest a c s e = rw e (by_first (is_ascii_digit a))
  where
    by_first : (d : Bool) → ◌≡◌ {A = Option Front} (cond ((d && false) && (nat_le least (digits_value 10 (a ∷ c ∷ [])) && nat_le (digits_value 10 (a ∷ c ∷ [])) greatest)) (Some (digits_value 10 (a ∷ c ∷ []), s)) None) None
    by_first true = refl
    by_first false = refl

second_by : (least greatest a b : ℕ) (s : List ℕ) (c : Bool) → is_blank_byte b ≡ c
    → two_digits least greatest (a ∷ from_run (b ∷ s)) ≡ option_map run_front (two_digits least greatest (a ∷ b ∷ s))
second_by least greatest a b s true c =
    rw c (spaced_by (λ t. two_digits least greatest (a ∷ t)) None s refl (no_second least greatest a 32 (collapse s) refl)
    ∙ ap (option_map run_front) (sym (no_second least greatest a b s (no_digit b c))))
second_by least greatest a b s false c = rw c (if_front _ _ s)

first_by : (least greatest a b : ℕ) (s : List ℕ) (c : Bool) → is_blank_byte a ≡ c
    → two_digits least greatest (from_run (a ∷ b ∷ s)) ≡ option_map run_front (two_digits least greatest (a ∷ b ∷ s))
first_by least greatest a b s true c =
    rw c (spaced_by (two_digits least greatest) None (b ∷ s) refl (no_first least greatest 32 (collapse (b ∷ s)) refl)
    ∙ ap (option_map run_front) (sym (no_first least greatest a (b ∷ s) (no_digit a c))))
first_by least greatest a b s false c = rw c (second_by least greatest a b s (is_blank_byte b) refl)

alone_by : (least greatest a : ℕ) (c : Bool) → is_blank_byte a ≡ c → two_digits least greatest (from_run (a ∷ [])) ≡ None
alone_by least greatest a true c = rw c refl
alone_by least greatest a false c = rw c refl

pub two_digits-run : (least greatest : ℕ) (s : List ℕ) → two_digits least greatest (from_run s) ≡ option_map run_front (two_digits least greatest s)
two_digits-run least greatest [] = refl
two_digits-run least greatest (a ∷ []) = alone_by least greatest a (is_blank_byte a) refl
two_digits-run least greatest (a ∷ b ∷ s) = first_by least greatest a b s (is_blank_byte a) refl

pub too_short : (least greatest : ℕ) (s : List ℕ) → length s < 2 → ◌≡◌ {A = Option Front} None (two_digits least greatest (from_run s))
too_short least greatest [] few = refl
too_short least greatest (a ∷ []) few = sym (alone_by least greatest a (is_blank_byte a) refl)
too_short least greatest (a ∷ b ∷ s) few = absurd (omega (arith, few))

-- ---- digits

first_digits-front : (b : ℕ) (s : List ℕ) → is_ascii_digit b ≡ true → first_digits (b ∷ s) ≡ b ∷ first_digits s
first_digits-front b s e = rw (e, one-add) refl

past_digits-front : (b : ℕ) (s : List ℕ) → is_ascii_digit b ≡ true → past_digits (b ∷ s) ≡ past_digits s
past_digits-front b s e = rw (e, one-add) refl

first_digits-none : (b : ℕ) (s : List ℕ) → is_ascii_digit b ≡ false → first_digits (b ∷ s) ≡ []
first_digits-none b s e = rw e refl

past_digits-none : (b : ℕ) (s : List ℕ) → is_ascii_digit b ≡ false → past_digits (b ∷ s) ≡ b ∷ s
past_digits-none b s e = rw e refl

pub from_run-front : (b : ℕ) (s : List ℕ) → is_blank_byte b ≡ false → from_run (b ∷ s) ≡ b ∷ from_run s
from_run-front b s c = rw c refl

pub from_run-blank : (b : ℕ) (s : List ℕ) → is_blank_byte b ≡ true → from_run (b ∷ s) ≡ spaced s
from_run-blank b s c = rw c refl

first_by_digit : (b : ℕ) (s : List ℕ) (c d : Bool) → is_ascii_digit b ≡ d → is_blank_byte b ≡ c → first_digits (from_run s) ≡ first_digits s
    → first_digits (from_run (b ∷ s)) ≡ first_digits (b ∷ s)
first_by_digit b s true d e c h =
    ap first_digits (from_run-blank b s c) ∙ (spaced_by first_digits [] s refl refl ∙ sym (first_digits-none b s (no_digit b c)))
first_by_digit b s false true e c h =
    ap first_digits (from_run-front b s c) ∙ (first_digits-front b (from_run s) e ∙ (ap (λ t. b ∷ t) h ∙ sym (first_digits-front b s e)))
first_by_digit b s false false e c h =
    ap first_digits (from_run-front b s c) ∙ (first_digits-none b (from_run s) e ∙ sym (first_digits-none b s e))

pub first_digits-run : (s : List ℕ) → first_digits (from_run s) ≡ first_digits s
first_digits-run [] = refl
first_digits-run (b ∷ s) = first_by_digit b s (is_blank_byte b) (is_ascii_digit b) refl refl (first_digits-run s)

past_spaced : (s : List ℕ) → past_digits (spaced s) ≡ spaced s
past_spaced s = by_blank (is_blank s)
  where
    by_blank : (c : Bool) → past_digits (cond c [] (32 ∷ collapse s)) ≡ cond c [] (32 ∷ collapse s)
    by_blank true = refl
    by_blank false = refl

past_by_digit : (b : ℕ) (s : List ℕ) (c d : Bool) → is_ascii_digit b ≡ d → is_blank_byte b ≡ c → past_digits (from_run s) ≡ from_run (past_digits s)
    → past_digits (from_run (b ∷ s)) ≡ from_run (past_digits (b ∷ s))
past_by_digit b s true d e c h =
    ap past_digits (from_run-blank b s c) ∙ (past_spaced s ∙ (sym (from_run-blank b s c) ∙ ap from_run (sym (past_digits-none b s (no_digit b c)))))
past_by_digit b s false true e c h =
    ap past_digits (from_run-front b s c) ∙ (past_digits-front b (from_run s) e ∙ (h ∙ ap from_run (sym (past_digits-front b s e))))
past_by_digit b s false false e c h =
    ap past_digits (from_run-front b s c) ∙ (past_digits-none b (from_run s) e ∙ (sym (from_run-front b s c) ∙ ap from_run (sym (past_digits-none b s e))))

pub past_digits-run : (s : List ℕ) → past_digits (from_run s) ≡ from_run (past_digits s)
past_digits-run [] = refl
past_digits-run (b ∷ s) = past_by_digit b s (is_blank_byte b) (is_ascii_digit b) refl refl (past_digits-run s)

pub first_digits-all : (s : List ℕ) → list_all is_ascii_digit (first_digits s) ≡ true
first_digits-all [] = refl
first_digits-all (b ∷ s) = by_digit (is_ascii_digit b) refl (first_digits-all s)
  where
    by_digit : (d : Bool) → is_ascii_digit b ≡ d → list_all is_ascii_digit (first_digits s) ≡ true → list_all is_ascii_digit (first_digits (b ∷ s)) ≡ true
    by_digit true e h = ap (list_all is_ascii_digit) (first_digits-front b s e) ∙ and_from (is_ascii_digit b) _ e h
    by_digit false e h = ap (list_all is_ascii_digit) (first_digits-none b s e)

-- ---- the end of the text

pub ends-run : (s : List ℕ) → (length (from_run s) == 0) ≡ is_blank s
ends-run [] = refl
ends-run (b ∷ s) = by_byte (is_blank_byte b) refl
  where
    by_blank : (c : Bool) → (length (cond c [] (32 ∷ collapse s)) == 0) ≡ c
    by_blank true = refl
    by_blank false = search (rules, tests, arith)

    by_byte : (c : Bool) → is_blank_byte b ≡ c → (length (from_run (b ∷ s)) == 0) ≡ is_blank (b ∷ s)
    by_byte true c = rw c (by_blank (is_blank s))
    by_byte false c = rw c (search (rules, tests, arith))
