-- What is reached from a start by following members to the next ones, and a queue that collects it.
use Rattle.std.specs.Prelude.{◌≡◌, ℕ, ◌+◌, ◌<◌, ◌≤◌, List, ◌++◌, length, slice_get, Some, All, Contains}

module _ {A : Type 0} (next : A → List A) (start : List A) where
  -- in the start, or next to what is reached
  pub data IsReachedBy : A → Type 0 where
    at_start : {x : A} → Contains start x → IsReachedBy x
    onward : {x y : A} → IsReachedBy x → Contains (next x) y → IsReachedBy y

  -- A queue whose first n members are done: all are reached, and it has the start and everything next to those that are
  -- done.
  pub record IsQueue (xs : List A) (n : ℕ) : Type 0 where
    pub within : n ≤ length xs
    pub reached : All IsReachedBy xs
    pub begun : (x : A) → Contains start x → Contains xs x
    pub done : (k : ℕ) (x y : A) → k < n → slice_get xs k ≡ Some x → Contains (next x) y → Contains xs y

-- the new queue is the old one, followed by those of the numbers that are not in it
pub record Adds (old : List ℕ) (numbers : List ℕ) (new : List ℕ) : Type 0 where
  pub more : List ℕ
  pub is : new ≡ old ++ more
  pub from : (k : ℕ) → Contains more k → Contains numbers k
  pub all : (k : ℕ) → Contains numbers k → Contains new k
