-- The positions that a text goes through: those that are reached without a character, and those behind one.
use Rattle.std.specs.Prelude.{◌↔◌, ℕ, ◌-◌, ◌≤◌, List, [], ◌∷◌, ◌++◌, length, Bool, false, ◌==◌, if◌then◌else◌}
use Rattle.std.specs.List.{fold, list_any}
use Rattle.rng_model.specs.regexes.Expressions.{holds}
use Rattle.rng_model.specs.regexes.plain.LinearForms.{RegexState, AcceptsState, OneOf}
use Rattle.xsd_regex.specs.plain.StateTable.{state_at, Has}
use Rattle.xsd_regex.specs.plain.Positions.{Part, nothing_part, class_part, both_part, either_part, optional_part, repeated_part}
use Rattle.xsd_regex.specs.plain.Positions.{Position, position_at, ArePositions}

-- the end
abbrev pub no_position : Position
no_position = record { part = nothing_part; next = 0; is_nullable = false }

-- ---- without a character

-- from a part to its parts
abbrev pub part_edges : List Position → ℕ → Part → List ℕ
part_edges ps i nothing_part = []
part_edges ps i (class_part k) = []
part_edges ps i (both_part l) = l ∷ (if (position_at ps l).is_nullable then (i - 1) ∷ [] else [])
part_edges ps i (either_part l) = l ∷ (i - 1) ∷ []
part_edges ps i optional_part = (i - 1) ∷ []
part_edges ps i repeated_part = (i - 1) ∷ []

-- and to what is behind the part, if it matches the empty text
abbrev pub edges_of : List Position → ℕ → Position → List ℕ
edges_of ps i p = part_edges ps i p.part ++ (if p.is_nullable then p.next ∷ [] else [])

abbrev pub edges : List Position → ℕ → List ℕ
edges ps i = edges_of ps i (position_at ps i)

-- with each position also those that it leads to
pub record IsClosed (ps : List Position) (is : List ℕ) : Type 0 where
  pub within : (i : ℕ) → Has is i → i ≤ length ps
  pub closed : (i j : ℕ) → Has is i → Has (edges ps i) j → Has is j

-- ---- behind a character

abbrev pub next_of : ℕ → Part → ℕ → List ℕ
next_of c nothing_part n = []
next_of c (class_part k) n = if holds k c then n ∷ [] else []
next_of c (both_part l) n = []
next_of c (either_part l) n = []
next_of c optional_part n = []
next_of c repeated_part n = []

abbrev pub next_at : List Position → ℕ → ℕ → List ℕ
next_at ps c i = next_of c (position_at ps i).part (position_at ps i).next

-- no position leads further than the end
pub record AreWithin (ps : List Position) : Type 0 where
  pub edge : (i j : ℕ) → Has (edges ps i) j → j ≤ length ps
  pub next : (c i j : ℕ) → Has (next_at ps c i) j → j ≤ length ps

abbrev pub nexts : List Position → ℕ → List ℕ → List ℕ
nexts ps c [] = []
nexts ps c (i ∷ is) = next_at ps c i ++ nexts ps c is

-- ---- lists with each number once

abbrev pub has_number : List ℕ → ℕ → Bool
has_number is i = list_any (λ j. i == j) is

-- the number added, if it is not there
abbrev pub with_new : List ℕ → ℕ → List ℕ
with_new is i = if has_number is i then is else is ++ i ∷ []

abbrev pub with_all : List ℕ → List ℕ → List ℕ
with_all is js = fold with_new is js

-- ---- what is accepted

-- the state that one of the positions stands for accepts the text
abbrev pub AcceptsFrom : List RegexState → List ℕ → List ℕ → Type 0
AcceptsFrom states is s = OneOf (λ i. AcceptsState (state_at states i) s) is

-- one of the first accepts what one of the second accepts
abbrev pub IsNoMore : List Position → List ℕ → List ℕ → Type 0
IsNoMore ps is js = (states : List RegexState) → ArePositions states ps → (s : List ℕ) → AcceptsFrom states js s → AcceptsFrom states is s

-- the two accept the same texts
abbrev pub AcceptTheSame : List Position → List ℕ → List ℕ → Type 0
AcceptTheSame ps is js = (states : List RegexState) → ArePositions states ps → (s : List ℕ) → AcceptsFrom states is s ↔ AcceptsFrom states js s

-- what is accepted behind the character
abbrev pub StepsTo : List Position → ℕ → List ℕ → List ℕ → Type 0
StepsTo ps c is js = (states : List RegexState) → ArePositions states ps → (s : List ℕ) → AcceptsFrom states is (c ∷ s) ↔ AcceptsFrom states js s

-- behind the text, the positions accept what the first one accepts from it on
abbrev pub LeadsTo : List Position → ℕ → List ℕ → List ℕ → Type 0
LeadsTo ps first read is =
    (states : List RegexState) → ArePositions states ps → (s : List ℕ) → AcceptsState (state_at states first) (read ++ s) ↔ AcceptsFrom states is s
