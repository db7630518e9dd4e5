-- An expression read symbol by symbol: the next step outside of classes, and all steps.
use Rattle.std.specs.Prelude.{codes, ℕ, ◌+◌, ◌*◌, List, [], ◌∷◌, Bool, true, false, Option, Some, None, if◌then◌else◌, ◌==◌}
use Rattle.std.specs.Prelude.{nat_le, nat_lt, slice_index_or}
use Rattle.std.specs.List.{list_any}
use Rattle.std.specs.Option.{option_and_then}
use Rattle.std.specs.Char.{digit_value}
use Rattle.rng_model.specs.declared.regex_mode.RegexMode.{RegexMode}
use Rattle.rng_model.specs.declared.regex_mode.RegexMode.TheVariants as mode
use Rattle.rng_model.specs.regexes.Expressions.{Class, no_char, only_char}
use Rattle.rng_model.specs.regexes.Expressions.{Regex, nothing_more, one_of, both, either, times}
use Rattle.rng_model.specs.regexes.Symbols.{Symbol, char, escaped, class}
use Rattle.rng_model.specs.regexes.ExpressionGrammar.{most_count, is_meta, wildcard}
use Rattle.rng_model.specs.regexes.plain.Held.{Held, nothing_held, with_last, with_last_two, on_classes, on_regexes}
use Rattle.rng_model.specs.regexes.plain.ClassSteps.{Next, State, at, at_groups, behind_closed, behind_open, in_group}

-- ---- branches

abbrev pub atom_of : Class → State → State
atom_of k s = at s (on_regexes (λ rs. one_of k ∷ rs) s.held) mode.Atom

abbrev pub joined : State → State
joined s = at s (on_regexes (with_last_two both) s.held) mode.Ready

abbrev pub quantified : ℕ → Option ℕ → State → State
quantified n m s = at s (on_regexes (λ rs. with_last_two both (with_last (times n m) rs)) s.held) mode.Ready

-- the expression before `|` and the branch behind it
abbrev pub with_alternative : State → Held
with_alternative s = if s.alternative then on_regexes (with_last_two either) s.held else s.held

abbrev pub next_branch : State → State
next_branch s = at_groups s (on_regexes (λ rs. nothing_more ∷ rs) (with_alternative s)) s.groups true mode.Ready

abbrev pub open_group : State → State
open_group s = at_groups s (on_regexes (λ rs. nothing_more ∷ rs) s.held) (s.alternative ∷ s.groups) false mode.Ready

unfoldable pub closed_in : List Bool → State → Next
closed_in [] s = None
closed_in (b ∷ gs) s = Some (at_groups s (with_alternative s) gs b mode.Atom)

abbrev pub open_class : State → State
open_class s = at s (on_classes (λ ks. no_char ∷ ks) s.held) mode.Open

-- a character with a meaning of its own, where a piece may begin
unfoldable pub sign : State → ℕ → Next
sign s c =
    if c == 0x28 then Some (open_group s) else
    if c == 0x29 then closed_in s.groups s else
    if c == 0x7C then Some (next_branch s) else
    if c == 0x5B then Some (open_class s) else
    if c == 0x2E then Some (atom_of wildcard s) else None

unfoldable pub piece : State → Symbol → Next
piece s (escaped c) = Some (atom_of (only_char c) s)
piece s (class k) = Some (atom_of k s)
piece s (char c) = if is_meta c then sign s c else Some (atom_of (only_char c) s)

-- a character with which a quantifier begins
abbrev pub opens_quantifier : ℕ → Bool
opens_quantifier c = list_any (λ m. c == m) (codes "?*+{")

unfoldable pub quantifier : State → ℕ → Next
quantifier s c =
    if c == 0x3F then Some (quantified 0 (Some 1) s) else
    if c == 0x2A then Some (quantified 0 None s) else
    if c == 0x2B then Some (quantified 1 None s) else Some (at s s.held (mode.Least None))

-- behind an atom
unfoldable pub behind_atom : State → Symbol → Next
behind_atom s (escaped c) = piece (joined s) (escaped c)
behind_atom s (class k) = piece (joined s) (class k)
behind_atom s (char c) = if opens_quantifier c then quantifier s c else piece (joined s) (char c)

-- ---- counts

abbrev pub value_or_zero : Option ℕ → ℕ
value_or_zero None = 0
value_or_zero (Some n) = n

-- the number with one more digit, if it is not too large
abbrev pub with_digit : Option ℕ → ℕ → Option ℕ
with_digit n c = let m = value_or_zero n * 10 + digit_value c in if nat_le m most_count then Some m else None

-- behind the digits of the first number
unfoldable pub behind_least : Option ℕ → State → ℕ → Next
behind_least None s c = None
behind_least (Some n) s c =
    if c == 0x2C then Some (at s s.held (mode.Most n None)) else
    if c == 0x7D then Some (quantified n (Some n) s) else None

-- the second number, if there is one, is not less than the first one
abbrev pub limited : ℕ → Option ℕ → State → Next
limited n None s = Some (quantified n None s)
limited n (Some m) s = if nat_le n m then Some (quantified n (Some m) s) else None

-- behind the digits of the second number
unfoldable pub behind_most : ℕ → Option ℕ → State → ℕ → Next
behind_most n m s c = if c == 0x7D then limited n m s else None

unfoldable pub in_least : Option ℕ → State → Symbol → Next
in_least n s (escaped c) = None
in_least n s (class k) = None
in_least n s (char c) =
    if nat_lt (digit_value c) 10 then option_and_then (λ m. Some (at s s.held (mode.Least (Some m)))) (with_digit n c) else behind_least n s c

unfoldable pub in_most : ℕ → Option ℕ → State → Symbol → Next
in_most n m s (escaped c) = None
in_most n m s (class k) = None
in_most n m s (char c) =
    if nat_lt (digit_value c) 10 then option_and_then (λ l. Some (at s s.held (mode.Most n (Some l)))) (with_digit m c) else behind_most n m s c

-- ---- all symbols

abbrev pub step_in : RegexMode → State → Symbol → Next
step_in mode.Ready = piece
step_in mode.Atom = behind_atom
step_in (mode.Least n) = in_least n
step_in (mode.Most n m) = in_most n m
step_in mode.Open = behind_open
step_in (mode.Group neg p) = in_group neg p
step_in mode.Closed = behind_closed

abbrev pub step : State → Symbol → Next
step s u = step_in s.mode s u

-- at the end of the text
abbrev pub whole_in : List Bool → State → Option Regex
whole_in [] s = Some (slice_index_or (with_alternative s).regexes 0 nothing_more)
whole_in (b ∷ gs) s = None

abbrev pub finished_in : RegexMode → State → Option Regex
finished_in mode.Ready s = whole_in s.groups s
finished_in mode.Atom s = whole_in s.groups (joined s)
finished_in (mode.Least n) s = None
finished_in (mode.Most n m) s = None
finished_in mode.Open s = None
finished_in (mode.Group neg p) s = None
finished_in mode.Closed s = None

abbrev pub finished : State → Option Regex
finished s = finished_in s.mode s

abbrev pub start : State
start = record { held = on_regexes (λ rs. nothing_more ∷ rs) nothing_held; groups = []; alternative = false; depth = 0; mode = mode.Ready }

unfoldable pub run : State → List Symbol → Option Regex
run s [] = finished s
run s (u ∷ us) = option_and_then (λ t. run t us) (step s u)
