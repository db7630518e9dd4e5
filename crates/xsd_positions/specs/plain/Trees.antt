-- Trees of expressions whose counts are written out.
use Rattle.std.specs.Prelude.{ℕ}

pub data Tree : Type 0 where
  -- the empty branch
  nothing : Tree
  -- a character of the class with this number
  class : ℕ → Tree
  -- no text
  never : Tree
  -- one after the other
  both : Tree → Tree → Tree
  either : Tree → Tree → Tree
  -- once or not at all, and any number of times
  optional repeated : Tree → Tree
