-- A class read symbol by symbol: what is read so far, and the next step.
use Rattle.std.specs.Prelude.{codes, ℕ, zero, suc, List, ◌∷◌, Bool, true, false, not, Option, Some, None, if◌then◌else◌, ◌==◌}
use Rattle.std.specs.Prelude.{nat_le}
use Rattle.std.specs.List.{list_any}
use Rattle.rng_model.specs.declared.regex_mode.RegexMode.{RegexMode}
use Rattle.rng_model.specs.declared.regex_mode.RegexMode.TheVariants as mode
use Rattle.rng_model.specs.declared.regex_mode.ClassPlace.{ClassPlace}
use Rattle.rng_model.specs.declared.regex_mode.ClassPlace.TheVariants as place
use Rattle.rng_model.specs.regexes.Expressions.{Class, no_char, only_char, char_from_to, either_class, complement, minus}
use Rattle.rng_model.specs.regexes.Symbols.{Symbol, char, escaped, class}
use Rattle.rng_model.specs.regexes.plain.Held.{Held, with_last, with_last_two, on_classes, taken_class}

pub record State : Type 0 where
  -- the classes and expressions that are not yet joined, the last one first
  pub held : Held
  -- for each `(` that is open, the last one first, and then for what is behind the last one: whether an expression and `|`
  -- are before the branch
  pub groups : List Bool
  pub alternative : Bool
  -- the number of classes that subtract the class that is open
  pub depth : ℕ
  pub mode : RegexMode

abbrev pub Next : Type 0
Next = Option State

abbrev pub at : State → Held → RegexMode → State
at s h m = record { held = h; groups = s.groups; alternative = s.alternative; depth = s.depth; mode = m }

abbrev pub at_depth : State → Held → ℕ → RegexMode → State
at_depth s h d m = record { held = h; groups = s.groups; alternative = s.alternative; depth = d; mode = m }

abbrev pub at_groups : State → Held → List Bool → Bool → RegexMode → State
at_groups s h gs b m = record { held = h; groups = gs; alternative = b; depth = s.depth; mode = m }

-- ---- classes

-- one more member
abbrev pub with_member : Class → Held → Held
with_member k h = on_classes (λ ks. with_last_two either_class (k ∷ ks)) h

abbrev pub dash : Class
dash = only_char 0x2D

-- a character that may be an end of a range as it is
abbrev pub is_end : ℕ → Bool
is_end c = not (list_any (λ m. c == m) (codes "\\-[]"))

abbrev pub negated_last : Bool → Held → Held
negated_last neg h = if neg then on_classes (with_last complement) h else h

-- `]` of a class: it is subtracted, or it is an atom
unfoldable pub ended_at : ℕ → State → State
ended_at zero s = at_depth s (taken_class s.held.classes s.held.regexes) 0 mode.Atom
ended_at (suc d) s = at_depth s (on_classes (with_last_two minus) s.held) d mode.Closed

abbrev pub ended : State → State
ended s = ended_at s.depth s

abbrev pub end_group : Bool → State → State
end_group neg s = ended (at s (negated_last neg s.held) mode.Closed)

-- `[` of a class that is subtracted
unfoldable pub subtracted : Bool → State → State
subtracted neg s = at_depth s (on_classes (λ ks. no_char ∷ ks) (negated_last neg s.held)) (suc s.depth) mode.Open

-- behind a member and `-`
unfoldable pub behind_dash : Bool → State → Symbol → Next
behind_dash neg s (escaped c) = None
behind_dash neg s (class k) = None
behind_dash neg s (char c) =
    if c == 0x5D then Some (end_group neg (at s (with_member dash s.held) s.mode)) else
    if c == 0x5B then Some (subtracted neg s) else
    if c == 0x2D then Some (at s (with_member dash s.held) (mode.Group neg place.Last)) else None

-- behind the last `-` and another one
unfoldable pub behind_last : Bool → State → Symbol → Next
behind_last neg s (escaped c) = None
behind_last neg s (class k) = None
behind_last neg s (char c) = if c == 0x5B then Some (subtracted neg s) else None

-- behind a member
unfoldable pub behind_member : Bool → State → Symbol → Next
behind_member neg s (escaped c) = Some (at s s.held (mode.Group neg (place.Char c)))
behind_member neg s (class k) = Some (at s (with_member k s.held) (mode.Group neg place.Member))
behind_member neg s (char c) =
    if is_end c then Some (at s s.held (mode.Group neg (place.Char c))) else
    if c == 0x5D then Some (end_group neg s) else
    if c == 0x2D then Some (at s s.held (mode.Group neg place.Dash)) else None

-- behind the beginning
unfoldable pub behind_first : Bool → State → Symbol → Next
behind_first neg s (escaped c) = Some (at s s.held (mode.Group neg (place.Char c)))
behind_first neg s (class k) = Some (at s (with_member k s.held) (mode.Group neg place.Member))
behind_first neg s (char c) =
    if is_end c then Some (at s s.held (mode.Group neg (place.Char c))) else
    if c == 0x2D then Some (at s (with_member dash s.held) (mode.Group neg place.Member)) else None

abbrev pub is_dash : Symbol → Bool
is_dash (escaped c) = false
is_dash (class k) = false
is_dash (char c) = c == 0x2D

-- behind a character
unfoldable pub behind_char : Bool → ℕ → State → Symbol → Next
behind_char neg a s u =
    if is_dash u then Some (at s s.held (mode.Group neg (place.Range a))) else
    behind_member neg (at s (with_member (only_char a) s.held) (mode.Group neg place.Member)) u

-- the range from one character to another
abbrev pub ended_range : Bool → ℕ → ℕ → State → Next
ended_range neg a b s = if nat_le a b then Some (at s (with_member (char_from_to a b) s.held) (mode.Group neg place.Member)) else None

-- behind a character and `-`
unfoldable pub behind_range : Bool → ℕ → State → Symbol → Next
behind_range neg a s (escaped c) = ended_range neg a c s
behind_range neg a s (class k) = None
behind_range neg a s (char c) =
    if is_end c then ended_range neg a c s else behind_dash neg (at s (with_member (only_char a) s.held) (mode.Group neg place.Dash)) (char c)

abbrev pub in_group : Bool → ClassPlace → State → Symbol → Next
in_group neg place.First = behind_first neg
in_group neg place.Member = behind_member neg
in_group neg (place.Char a) = behind_char neg a
in_group neg (place.Range a) = behind_range neg a
in_group neg place.Dash = behind_dash neg
in_group neg place.Last = behind_last neg

abbrev pub is_caret : Symbol → Bool
is_caret (escaped c) = false
is_caret (class k) = false
is_caret (char c) = c == 0x5E

-- behind `[`
unfoldable pub behind_open : State → Symbol → Next
behind_open s u = if is_caret u then Some (at s s.held (mode.Group true place.First)) else behind_first false s u

-- behind the `]` of a class that is subtracted
unfoldable pub behind_closed : State → Symbol → Next
behind_closed s (escaped c) = None
behind_closed s (class k) = None
behind_closed s (char c) = if c == 0x5D then Some (ended s) else None
