-- A table of the parts of an expression with its counts written out, each behind its own parts. A part has a number, and
-- the end has the number of all parts.
use Rattle.std.specs.Prelude.{◌≡◌, ℕ, ◌<◌, ◌≤◌, ◌-◌, List, ◌∷◌, length, Bool, false, None, slice_index_or}
use Rattle.rng_model.specs.regexes.Expressions.{Class, Regex, nothing_more, one_of, both, either, times, Denotes}
use Rattle.rng_model.specs.regexes.plain.LinearForms.{RegexState, AcceptsState, is_nullable}
use Rattle.xsd_regex.specs.plain.StateTable.{state_at}

pub data Part : Type 0 where
  nothing_part : Part
  class_part : Class → Part
  -- the number of the first part; the second one is the part before this one
  both_part either_part : ℕ → Part
  -- of the part before this one: once or not at all, and any number of times
  optional_part repeated_part : Part

pub record Position : Type 0 where
  pub part : Part
  -- the number of what has to match behind the part
  pub next : ℕ
  -- whether the part matches the empty text
  pub is_nullable : Bool

abbrev pub position_at : List Position → ℕ → Position
position_at ps i = slice_index_or ps i (record { part = nothing_part; next = 0; is_nullable = false })

-- A position stands for a state: what its part has to match, and behind that what the next position stands for.
module _ (states : List RegexState) (i next : ℕ) where
  abbrev behind : RegexState
  behind = state_at states next

  pub data IsPart : Part → Regex → Type 0 where
    is_nothing : IsPart nothing_part nothing_more
    is_class : {k : Class} → IsPart (class_part k) (one_of k)
    is_both : {l : ℕ} {a b : Regex} → l < i → 0 < i → state_at states l ≡ a ∷ b ∷ behind → state_at states (i - 1) ≡ b ∷ behind
        → IsPart (both_part l) (both a b)
    is_either : {l : ℕ} {a b : Regex} → l < i → 0 < i → state_at states l ≡ a ∷ behind → state_at states (i - 1) ≡ b ∷ behind
        → IsPart (either_part l) (either a b)
    is_optional : {a : Regex} → 0 < i → state_at states (i - 1) ≡ a ∷ behind → IsPart optional_part (either nothing_more a)
    is_repeated : {a : Regex} → 0 < i → state_at states (i - 1) ≡ a ∷ times 0 None a ∷ behind → IsPart repeated_part (times 0 None a)

pub record IsPosition (states : List RegexState) (count i : ℕ) (p : Position) : Type 0 where
  pub expression : Regex
  pub state : state_at states i ≡ expression ∷ state_at states p.next
  pub part : IsPart states i p.next p.part expression
  pub later : i < p.next
  pub within : p.next ≤ count
  pub nullable : p.is_nullable ≡ is_nullable expression

-- the states of all positions, in order
pub record ArePositions (states : List RegexState) (ps : List Position) : Type 0 where
  pub as_many : length states ≡ length ps
  pub each : (i : ℕ) → i < length ps → IsPosition states (length ps) i (position_at ps i)

-- The state of the first position accepts what the expression matches. It need not be written as the expression is.
pub record ArePositionsOf (r : Regex) (first : ℕ) (ps : List Position) : Type 0 where
  pub states : List RegexState
  pub are : ArePositions states ps
  pub some : first < length ps
  pub to : (s : List ℕ) → Denotes r s → AcceptsState (state_at states first) s
  pub back : (s : List ℕ) → AcceptsState (state_at states first) s → Denotes r s
