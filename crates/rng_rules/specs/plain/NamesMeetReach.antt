-- Numbers in a queue, with marks of the round in which they came into it. Private contracts cite the states.
use Rattle.std.specs.Prelude.{◌≡◌, ◌≢◌, ℕ, ◌+◌, ◌<◌, ◌≤◌, List, [], ◌∷◌, length, map, slice_get, slice_index_or, Some, All, Contains, Vec, vec_items}

abbrev pub lists : {Z : Type 0} → List (Vec ℕ Z) → List (List ℕ)
lists all = map vec_items all

-- all numbers in the lists are below n
abbrev pub AreBelow : ℕ → List (List ℕ) → Type 0
AreBelow n all = (j i : ℕ) → Contains (slice_index_or all j []) i → i < n

-- the number of those that are not marked with this
pub data Without (mark : ℕ) : List ℕ → ℕ → Type 0 where
  none : Without mark [] 0
  marked : {m : ℕ} {ms : List ℕ} {n : ℕ} → m ≡ mark → Without mark ms n → Without mark (m ∷ ms) n
  unmarked : {m : ℕ} {ms : List ℕ} {n : ℕ} → m ≢ mark → Without mark ms n → Without mark (m ∷ ms) (n + 1)

-- the numbers in the queue, and no others, have the mark of the round, the greatest
pub record IsMarked (round : ℕ) (marks : List ℕ) (queue : List ℕ) : Type 0 where
  pub marked : (k : ℕ) → slice_get marks k ≡ Some round → Contains queue k
  pub seen : (k : ℕ) → Contains queue k → slice_get marks k ≡ Some round
  pub greatest : All (λ m. m ≤ round) marks
  pub room : ℕ
  pub left : Without round marks room
  pub count : room + length queue ≡ length marks
