-- The lines of a document in PYX, the limits on bytes, lines and elements (docs/use/LANGUAGE.md), lines by their first bytes,
-- and faults: a clause and a line each, and their order.
use Rattle.std.specs.Prelude.{ℕ, ◌==◌, Bool, true, false, if◌then◌else◌, List, [], ◌∷◌, ◌≡◌, ◌<◌, ◌≤◌, ◌⊎◌, ◌++◌, All}

pub record Line : Type 0 where
  pub bytes : List ℕ
  -- whether a line feed ends it
  pub ended : Bool

abbrev pub with_first : ℕ → List Line → List Line
with_first c [] = record { bytes = c ∷ []; ended = false } ∷ []
with_first c (l ∷ ls) = record l { bytes = c ∷ l.bytes } ∷ ls

-- the lines of the bytes: the parts before each line feed, and the part after the last one if it is not empty
unfoldable pub lines : List ℕ → List Line
lines [] = []
lines (c ∷ cs) = if c == 10 then record { bytes = []; ended = true } ∷ lines cs else with_first c (lines cs)

-- how many bytes a line may have, without its line feed
abbrev pub line_limit : ℕ
line_limit = 65536

-- how many `A` lines a tag may have, how many elements may be open at the same time, and how many bytes a joined text
-- may have
abbrev pub attribute_limit : ℕ
attribute_limit = 256

abbrev pub open_limit : ℕ
open_limit = 512

abbrev pub text_limit : ℕ
text_limit = 1048576

-- the first byte of the line is this one
abbrev pub HasKind : ℕ → Line → Type 0
HasKind k l = (rest : List ℕ) × (l.bytes ≡ k ∷ rest)

-- start tags and end tags are balanced in these lines, by first bytes alone
pub data IsBalanced : List Line → Type 0 where
  nothing : IsBalanced []
  other : {l : Line} {ls : List Line} → ¬ (HasKind 40 l) → ¬ (HasKind 41 l) → IsBalanced ls → IsBalanced (l ∷ ls)
  pair : (l r : Line) {all ls ms : List Line} → HasKind 40 l → IsBalanced ls → HasKind 41 r → IsBalanced ms → all ≡ l ∷ (ls ++ r ∷ ms) → IsBalanced all

-- these lines end in a tag: its start, and then attributes
pub record EndsInTag (before : List Line) : Type 0 where
  pub front : List Line
  pub tag : Line
  pub others : List Line
  pub parts : before ≡ front ++ tag ∷ others
  pub opens : HasKind 40 tag
  pub each : All (HasKind 65) others

-- a clause, and the line at which it is broken, from 1
pub record Fault : Type 0 where
  pub clause : ℕ
  pub line : ℕ

-- a is at an earlier line than b, or at the same line and its clause is not greater
abbrev pub IsBefore : Fault → Fault → Type 0
IsBefore a b = (a.line < b.line) ⊎ ((a.line ≡ b.line) × (a.clause ≤ b.clause))
