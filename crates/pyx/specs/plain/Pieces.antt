-- A document in pieces: the line that has begun, and the state after the lines before it.
use Rattle.std.specs.Prelude.{ℕ, ◌+◌, ◌-◌, ◌==◌, nat_le, Bool, true, false, List, [], ◌∷◌, ◌++◌, length, take, if◌then◌else◌}
use Rattle.rng_model.specs.documents.Lines.{Line, line_limit}
use Rattle.pyx.specs.plain.DocumentReader.{State, Turn, silent, followed, line_read, nothing_read, all_ended, tag_bytes}

pub record Progress : Type 0 where
  -- the bytes after the last line feed
  pub begun : List ℕ
  pub state : State

abbrev pub with_begun : List ℕ → State → Progress
with_begun begun s = record { begun = begun; state = s }

abbrev pub ended_line : List ℕ → Line
ended_line bytes = record { bytes = bytes; ended = true }

abbrev pub open_line : List ℕ → Line
open_line bytes = record { bytes = bytes; ended = false }

-- A line is judged when its line feed comes, or when it is too long.
unfoldable pub byte_read : ℕ → Progress → Turn Progress
byte_read c p = if c == 10 then followed (line_read (ended_line p.begun) p.state) (λ s. silent (with_begun [] s)) else
    (if nat_le line_limit (length p.begun)
    then followed (line_read (open_line (p.begun ++ c ∷ [])) p.state) (λ s. silent (with_begun (p.begun ++ c ∷ []) s))
    else silent (record p { begun = p.begun ++ c ∷ [] }))

unfoldable pub read : List ℕ → Progress → Turn Progress
read [] p = silent p
read (c ∷ cs) p = followed (byte_read c p) (read cs)

abbrev pub nothing_fed : Progress
nothing_fed = with_begun [] nothing_read

-- ---- the same, line by line

abbrev pub is_within : ℕ → Bool
is_within c = if c == 10 then false else true

-- with these bytes the line is too long
unfoldable pub overlong : List ℕ → Progress → Turn Progress
overlong more p = followed (line_read (open_line (p.begun ++ take (line_limit + 1 - length p.begun) more)) p.state)
    (λ s. silent (with_begun (p.begun ++ take (line_limit + 1 - length p.begun) more) s))

-- the line ends after these bytes
unfoldable pub line_taken : List ℕ → Progress → Turn Progress
line_taken front p = if nat_le (length p.begun + length front) line_limit
    then followed (line_read (ended_line (p.begun ++ front)) p.state) (λ s. silent (with_begun [] s)) else overlong front p

-- the line does not end in these bytes
unfoldable pub rest_taken : List ℕ → Progress → Turn Progress
rest_taken rest p = if nat_le (length p.begun + length rest) line_limit then silent (record p { begun = p.begun ++ rest }) else overlong rest p

-- the number of lines and bytes that have been counted
abbrev pub weight : Progress → ℕ
weight p = p.state.count + tag_bytes p.state.tag + length p.begun

-- ---- the end

-- the document ends: the line that has begun is read, unless it is empty
abbrev pub last_line : Progress → Turn State
last_line p = if length p.begun == 0 then silent p.state else line_read (open_line p.begun) p.state

unfoldable pub finished : Progress → Turn State
finished p = followed (last_line p) all_ended
