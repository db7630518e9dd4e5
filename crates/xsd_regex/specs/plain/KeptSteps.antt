-- What the code keeps of an expression that it reads symbol by symbol, and the next step. Each step is that of the machine of
-- `Machine.antt`, with rows in place of the expressions held, and with the members of the open class in place of the classes held.
use Rattle.std.specs.Prelude.{ℕ, zero, suc, ◌+◌, ◌*◌, List, [], ◌∷◌, ◌++◌, Bool, true, false, Option, Some, None, if◌then◌else◌, ◌==◌}
use Rattle.std.specs.Prelude.{nat_le, nat_lt}
use Rattle.std.specs.Option.{option_and_then}
use Rattle.std.specs.Char.{digit_value}
use Rattle.rng_model.specs.declared.regex_mode.RegexMode.{RegexMode}
use Rattle.rng_model.specs.declared.regex_mode.RegexMode.TheVariants as mode
use Rattle.rng_model.specs.declared.regex_mode.ClassPlace.{ClassPlace}
use Rattle.rng_model.specs.declared.regex_mode.ClassPlace.TheVariants as place
use Rattle.rng_model.specs.regexes.Expressions.{Class, only_char, char_from_to}
use Rattle.rng_model.specs.regexes.Symbols.{Symbol, char, escaped, class}
use Rattle.rng_model.specs.regexes.ExpressionGrammar.{most_count, is_meta, wildcard}
use Rattle.xsd_regex.specs.plain.Groups.{Mark, member, ends, class_of_marks}
use Rattle.rng_model.specs.regexes.plain.ClassSteps.{dash, is_end}
use Rattle.rng_model.specs.regexes.plain.Machine.{opens_quantifier, value_or_zero}
use Rattle.rng_model.specs.regexes.plain.Postfix.{nothing_row, class_row, both_row, either_row, times_row, Row}

pub record Kept : Type 0 where
  -- the class that is open
  pub members : List Mark
  -- what is read so far, each part before what it is a part of
  pub rows : List Row
  -- for each `(` that is open, the last one first, and then for what is behind the last one: whether an expression and `|`
  -- are before the branch
  pub groups : List Bool
  pub alternative : Bool
  -- the number of classes that subtract the class that is open
  pub depth : ℕ
  pub mode : RegexMode

abbrev pub Next : Type 0
Next = Option Kept

abbrev pub in_mode : RegexMode → Kept → Kept
in_mode m w = record { members = w.members; rows = w.rows; groups = w.groups; alternative = w.alternative; depth = w.depth; mode = m }

abbrev pub in_groups : List Bool → Bool → RegexMode → Kept → Kept
in_groups gs b m w = record { members = w.members; rows = w.rows; groups = gs; alternative = b; depth = w.depth; mode = m }

abbrev pub at_depth : ℕ → RegexMode → Kept → Kept
at_depth d m w = record { members = w.members; rows = w.rows; groups = w.groups; alternative = w.alternative; depth = d; mode = m }

-- one more row, and one more mark of the open class
abbrev pub written : Row → Kept → Kept
written r w =
    record { members = w.members; rows = w.rows ++ r ∷ []; groups = w.groups; alternative = w.alternative; depth = w.depth; mode = w.mode }

abbrev pub marked : Mark → Kept → Kept
marked k w =
    record { members = w.members ++ k ∷ []; rows = w.rows; groups = w.groups; alternative = w.alternative; depth = w.depth; mode = w.mode }

-- ---- branches

abbrev pub atom_of : Class → Kept → Kept
atom_of k w = in_mode mode.Atom (written (class_row k) w)

abbrev pub joined : Kept → Kept
joined w = in_mode mode.Ready (written both_row w)

abbrev pub quantified : ℕ → Option ℕ → Kept → Kept
quantified n m w = joined (written (times_row n m) w)

abbrev pub with_alternative : Kept → Kept
with_alternative w = if w.alternative then written either_row w else w

abbrev pub next_branch : Kept → Kept
next_branch w = let v = written nothing_row (with_alternative w) in in_groups v.groups true mode.Ready v

abbrev pub open_group : Kept → Kept
open_group w = in_groups (w.alternative ∷ w.groups) false mode.Ready (written nothing_row w)

abbrev pub closed_in : List Bool → Kept → Next
closed_in [] w = None
closed_in (b ∷ gs) w = Some (in_groups gs b mode.Atom (with_alternative w))

abbrev pub sign : ℕ → Kept → Next
sign c w =
    if c == 0x28 then Some (open_group w) else
    if c == 0x29 then closed_in w.groups w else
    if c == 0x7C then Some (next_branch w) else
    if c == 0x5B then Some (in_mode mode.Open w) else
    if c == 0x2E then Some (atom_of wildcard w) else None

abbrev pub piece : Symbol → Kept → Next
piece (escaped c) w = Some (atom_of (only_char c) w)
piece (class k) w = Some (atom_of k w)
piece (char c) w = if is_meta c then sign c w else Some (atom_of (only_char c) w)

abbrev pub quantifier : ℕ → Kept → Next
quantifier c w =
    if c == 0x3F then Some (quantified 0 (Some 1) w) else
    if c == 0x2A then Some (quantified 0 None w) else
    if c == 0x2B then Some (quantified 1 None w) else Some (in_mode (mode.Least None) w)

abbrev pub behind_atom : Symbol → Kept → Next
behind_atom (escaped c) w = piece (escaped c) (joined w)
behind_atom (class k) w = piece (class k) (joined w)
behind_atom (char c) w = if opens_quantifier c then quantifier c w else piece (char c) (joined w)

-- ---- counts

-- a number with one more digit, if it is not too large
abbrev pub number_with : Option ℕ → ℕ → Option ℕ
number_with n d = if nat_le (value_or_zero n * 10 + d) most_count then Some (value_or_zero n * 10 + d) else None

abbrev pub behind_least : Option ℕ → ℕ → Kept → Next
behind_least None c w = None
behind_least (Some n) c w =
    if c == 0x2C then Some (in_mode (mode.Most n None) w) else
    if c == 0x7D then Some (quantified n (Some n) w) else None

abbrev pub limited : ℕ → Option ℕ → Kept → Next
limited n None w = Some (quantified n None w)
limited n (Some m) w = if nat_le n m then Some (quantified n (Some m) w) else None

abbrev pub behind_most : ℕ → Option ℕ → ℕ → Kept → Next
behind_most n m c w = if c == 0x7D then limited n m w else None

abbrev pub in_least : Option ℕ → Symbol → Kept → Next
in_least n (escaped c) w = None
in_least n (class k) w = None
in_least n (char c) w =
    if nat_lt (digit_value c) 10 then option_and_then (λ m. Some (in_mode (mode.Least (Some m)) w)) (number_with n (digit_value c))
    else behind_least n c w

abbrev pub in_most : ℕ → Option ℕ → Symbol → Kept → Next
in_most n m (escaped c) w = None
in_most n m (class k) w = None
in_most n m (char c) w =
    if nat_lt (digit_value c) 10 then option_and_then (λ l. Some (in_mode (mode.Most n (Some l)) w)) (number_with m (digit_value c))
    else behind_most n m c w

-- ---- classes

abbrev pub ended_at : ℕ → Kept → Kept
ended_at zero w =
    record {
      members = [];
      rows = w.rows ++ class_row (class_of_marks w.members) ∷ [];
      groups = w.groups;
      alternative = w.alternative;
      depth = 0;
      mode = mode.Atom;
    }
ended_at (suc d) w = at_depth d mode.Closed w

abbrev pub end_group : Bool → Kept → Kept
end_group neg w = ended_at w.depth (marked (ends neg) w)

abbrev pub subtracted : Bool → Kept → Kept
subtracted neg w = at_depth (suc w.depth) mode.Open (marked (ends neg) w)

-- a member that is complete
abbrev pub with_member : Bool → Class → Kept → Kept
with_member neg k w = in_mode (mode.Group neg place.Member) (marked (member k) w)

abbrev pub behind_dash : Bool → Symbol → Kept → Next
behind_dash neg (escaped c) w = None
behind_dash neg (class k) w = None
behind_dash neg (char c) w =
    if c == 0x5D then Some (end_group neg (marked (member dash) w)) else
    if c == 0x5B then Some (subtracted neg w) else
    if c == 0x2D then Some (in_mode (mode.Group neg place.Last) (marked (member dash) w)) else None

abbrev pub behind_last : Bool → Symbol → Kept → Next
behind_last neg (escaped c) w = None
behind_last neg (class k) w = None
behind_last neg (char c) w = if c == 0x5B then Some (subtracted neg w) else None

abbrev pub behind_member : Bool → Symbol → Kept → Next
behind_member neg (escaped c) w = Some (in_mode (mode.Group neg (place.Char c)) w)
behind_member neg (class k) w = Some (with_member neg k w)
behind_member neg (char c) w =
    if is_end c then Some (in_mode (mode.Group neg (place.Char c)) w) else
    if c == 0x5D then Some (end_group neg w) else
    if c == 0x2D then Some (in_mode (mode.Group neg place.Dash) w) else None

abbrev pub behind_first : Bool → Symbol → Kept → Next
behind_first neg (escaped c) w = Some (in_mode (mode.Group neg (place.Char c)) w)
behind_first neg (class k) w = Some (with_member neg k w)
behind_first neg (char c) w =
    if is_end c then Some (in_mode (mode.Group neg (place.Char c)) w) else
    if c == 0x2D then Some (with_member neg dash w) else None

abbrev pub behind_char : Bool → ℕ → Symbol → Kept → Next
behind_char neg a (escaped c) w = behind_member neg (escaped c) (marked (member (only_char a)) w)
behind_char neg a (class k) w = behind_member neg (class k) (marked (member (only_char a)) w)
behind_char neg a (char c) w =
    if c == 0x2D then Some (in_mode (mode.Group neg (place.Range a)) w) else behind_member neg (char c) (marked (member (only_char a)) w)

abbrev pub ended_range : Bool → ℕ → ℕ → Kept → Next
ended_range neg a b w = if nat_le a b then Some (with_member neg (char_from_to a b) w) else None

abbrev pub behind_range : Bool → ℕ → Symbol → Kept → Next
behind_range neg a (escaped c) w = ended_range neg a c w
behind_range neg a (class k) w = None
behind_range neg a (char c) w =
    if is_end c then ended_range neg a c w else behind_dash neg (char c) (marked (member (only_char a)) w)

abbrev pub in_group : Bool → ClassPlace → Symbol → Kept → Next
in_group neg place.First = behind_first neg
in_group neg place.Member = behind_member neg
in_group neg (place.Char a) = behind_char neg a
in_group neg (place.Range a) = behind_range neg a
in_group neg place.Dash = behind_dash neg
in_group neg place.Last = behind_last neg

abbrev pub behind_open : Symbol → Kept → Next
behind_open (escaped c) w = behind_first false (escaped c) w
behind_open (class k) w = behind_first false (class k) w
behind_open (char c) w = if c == 0x5E then Some (in_mode (mode.Group true place.First) w) else behind_first false (char c) w

abbrev pub behind_closed : Symbol → Kept → Next
behind_closed (escaped c) w = None
behind_closed (class k) w = None
behind_closed (char c) w = if c == 0x5D then Some (ended_at w.depth w) else None

-- ---- all symbols

abbrev pub step_in : RegexMode → Symbol → Kept → Next
step_in mode.Ready = piece
step_in mode.Atom = behind_atom
step_in (mode.Least n) = in_least n
step_in (mode.Most n m) = in_most n m
step_in mode.Open = behind_open
step_in (mode.Group neg p) = in_group neg p
step_in mode.Closed = behind_closed

-- the rows of the whole expression, at the end of the text
abbrev pub whole_in : List Bool → Kept → Option (List Row)
whole_in [] w = Some (with_alternative w).rows
whole_in (b ∷ gs) w = None

abbrev pub finished_in : RegexMode → Kept → Option (List Row)
finished_in mode.Ready w = whole_in w.groups w
finished_in mode.Atom w = whole_in w.groups (joined w)
finished_in (mode.Least n) w = None
finished_in (mode.Most n m) w = None
finished_in mode.Open w = None
finished_in (mode.Group neg p) w = None
finished_in mode.Closed w = None

abbrev pub start : Kept
start = record { members = []; rows = nothing_row ∷ []; groups = []; alternative = false; depth = 0; mode = mode.Ready }
