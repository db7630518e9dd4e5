-- A table of the sets of positions that texts lead to.
use Rattle.std.specs.Prelude.{◌≡◌, ℕ, ◌-◌, ◌<◌, ◌≤◌, List, [], ◌∷◌, ◌++◌, length, Bool, true, false, Some, slice_get, slice_index_or}
use Rattle.xsd_regex.specs.plain.Positions.{Position}
use Rattle.xsd_automaton.specs.plain.Closures.{IsClosed, has_number, next_at, StepsTo}

-- no set has this number
abbrev pub no_set : ℕ
no_set = 65535

-- the greatest number of sets
abbrev pub most_sets : ℕ
most_sets = 1024

abbrev pub members_at : List (List ℕ) → ℕ → List ℕ
members_at sets i = slice_index_or sets i []

-- the positions of each set, by number
pub record AreSets (ps : List Position) (sets : List (List ℕ)) : Type 0 where
  pub few : length sets ≤ most_sets
  pub closed : (i : ℕ) → i < length sets → IsClosed ps (members_at sets i)
  pub short : (i : ℕ) → i < length sets → length (members_at sets i) ≤ 12289

-- more sets behind those so far
pub record IsLonger (sets more : List (List ℕ)) : Type 0 where
  pub many : length sets ≤ length more
  pub same : (i : ℕ) → i < length sets → members_at more i ≡ members_at sets i

-- the number of the set behind the character, if it has one
pub data HasTarget (ps : List Position) (sets : List (List ℕ)) (is : List ℕ) (c t : ℕ) : Type 0 where
  no_target : t ≡ no_set → HasTarget ps sets is c t
  to_set : t < length sets → StepsTo ps c is (members_at sets t) → HasTarget ps sets is c t

-- the targets of the characters below this one
abbrev pub AreTargets : List Position → List (List ℕ) → List ℕ → ℕ → List ℕ → Type 0
AreTargets ps sets is n targets = (c : ℕ) → c < n → HasTarget ps sets is c (slice_index_or targets c no_set)

-- The set behind each byte, if the text so far leads to the set with this number. The first byte of a character past ASCII stands
-- for all of these characters, and each further byte leads to the set itself.
pub record IsRow (ps : List Position) (sets : List (List ℕ)) (own : ℕ) (targets : List ℕ) : Type 0 where
  pub ascii : AreTargets ps sets (members_at sets own) 128 targets
  pub past : (b c : ℕ) → 192 ≤ b → 128 ≤ c → HasTarget ps sets (members_at sets own) c (slice_index_or targets b no_set)
  pub further : (b : ℕ) → 128 ≤ b → b < 192 → slice_index_or targets b no_set ≡ own

-- whether the end is in each of the first sets
abbrev pub AreEnds : List Position → List (List ℕ) → List Bool → Type 0
AreEnds ps sets ends = (i : ℕ) (is_end : Bool) → slice_get ends i ≡ Some is_end → is_end ≡ has_number (members_at sets i) (length ps)

-- each position leads behind the two characters to the same
abbrev pub AreAlike : List Position → ℕ → ℕ → Type 0
AreAlike ps c d = (i : ℕ) → next_at ps c i ≡ next_at ps d i

-- The positions have this number: they had it before, or they are the last set now. If there are too many sets they have none.
pub data IsNumbered (is : List ℕ) (sets more : List (List ℕ)) (t : ℕ) : Type 0 where
  is_there : more ≡ sets → t < length sets → members_at sets t ≡ is → IsNumbered is sets more t
  is_added : more ≡ sets ++ is ∷ [] → t ≡ length sets → t < most_sets → IsNumbered is sets more t
  has_none : more ≡ sets → t ≡ no_set → IsNumbered is sets more t

-- whether each character is in the same classes as the one before it, for those that are marked
abbrev pub AreAlikeChars : List Position → List Bool → Type 0
AreAlikeChars ps alike = (c : ℕ) → slice_index_or alike c false ≡ true → AreAlike ps c (c - 1)

-- all characters past ASCII are in the same classes
abbrev pub AreAlikePast : List Position → Type 0
AreAlikePast ps = (c d : ℕ) → 128 ≤ c → 128 ≤ d → AreAlike ps c d
