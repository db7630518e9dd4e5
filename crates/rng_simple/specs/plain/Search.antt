-- A depth-first search through numbers that mention numbers, with a list of tasks. Private contracts cite its states.
use Rattle.std.specs.Prelude.{◌≡◌, ◌⊎◌, ℕ, ◌+◌, ◌<◌, ◌≤◌, List, [], ◌∷◌, length, slice_get, slice_index_or, map, Option, Some, None, All, Contains, Vec}
use Rattle.std.specs.Prelude.{vec_items}
use Rattle.rng_simple.specs.declared.graph.order.Mark.{Mark}
use Rattle.rng_simple.specs.declared.graph.order.Mark.TheVariants as mark
use Rattle.rng_simple.specs.declared.graph.order.Task.{Task}
use Rattle.rng_simple.specs.declared.graph.order.Task.TheVariants as task
use Rattle.rng_simple.specs.declared.graph.order.Sorted.{Sorted}
use Rattle.rng_simple.specs.declared.graph.order.Sorted.TheVariants as sorted
use Rattle.rng_simple.specs.plain.Graph.{IsOrderBy, LeadsBy}

-- a number mentions another
abbrev pub Lists : List (List ℕ) → ℕ → ℕ → Type 0
Lists all j i = Contains (slice_index_or all j []) i

-- everything that is mentioned is a number with mentions
abbrev pub AreMentionsBelow : List (List ℕ) → Type 0
AreMentionsBelow all = (j i : ℕ) → Lists all j i → i < length all

-- an order of all numbers, or a number that leads to itself
abbrev pub IsAnswer : List (List ℕ) → Sorted → Type 0
IsAnswer all (sorted.Order js) = IsOrderBy (Lists all) js.items × All (λ j. j < length all) js.items × ((j : ℕ) → j < length all → Contains js.items j)
IsAnswer all (sorted.Loop j) = (j < length all) × LeadsBy (Lists all) j j

-- ---- the states of the search

abbrev pub number_of : Task → ℕ
number_of (task.Enter j) = j
number_of (task.Leave j) = j

-- a task for the number is in the list, at this index or after it
pub record IsDue (tasks : List Task) (from : ℕ) (j : ℕ) : Type 0 where
  pub place : ℕ
  pub task : Task
  pub after : from ≤ place
  pub there : slice_get tasks place ≡ Some task
  pub is : number_of task ≡ j

pub record IsSearch (all : List (List ℕ)) (marks : List Mark) (tasks : List Task) (order : List ℕ) : Type 0 where
  pub long : length marks ≡ length all
  pub in_order : IsOrderBy (Lists all) order
  pub ordered_below : All (λ j. j < length all) order
  pub tasks_below : (p : ℕ) (t : Task) → slice_get tasks p ≡ Some t → number_of t < length all
  -- what is done is in the order, and what is open has a task to leave it
  pub done : (j : ℕ) → slice_get marks j ≡ Some mark.Done → Contains order j
  pub opened : (j : ℕ) → slice_get marks j ≡ Some mark.Open → (p : ℕ) × (slice_get tasks p ≡ Some (task.Leave j))
  -- each number is in the order or has a task
  pub every : (j : ℕ) → j < length all → Contains order j ⊎ IsDue tasks 0 j
  -- what a number mentions is in the order, or has a later task than the one to leave the number
  pub before : (p j i : ℕ) → slice_get tasks p ≡ Some (task.Leave j) → Lists all j i → Contains order i ⊎ IsDue tasks (p + 1) i
  -- a number with a task to leave it leads to the numbers of all later tasks
  pub leads : (p q j : ℕ) (t : Task) → p < q → slice_get tasks p ≡ Some (task.Leave j) → slice_get tasks q ≡ Some t → LeadsBy (Lists all) j (number_of t)

-- ---- how the search begins, and why it ends

-- nothing is marked, and each number has a task to enter it
pub record IsStart (n : ℕ) (marks : List Mark) (tasks : List Task) : Type 0 where
  pub all_marks : length marks ≡ n
  pub all_tasks : length tasks ≡ n
  pub new : (k : ℕ) (m : Mark) → slice_get marks k ≡ Some m → m ≡ mark.New
  pub each : (k : ℕ) → k < n → slice_get tasks k ≡ Some (task.Enter k)

-- a bound on the tasks that new numbers may still add
abbrev pub weight : List Mark → List (List ℕ) → ℕ
weight [] all = 0
weight (m ∷ marks) [] = 0
weight (mark.New ∷ marks) (is ∷ all) = length is + 2 + weight marks all
weight (mark.Open ∷ marks) (is ∷ all) = weight marks all
weight (mark.Done ∷ marks) (is ∷ all) = weight marks all

abbrev pub lists : {Z : Type 0} → List (Vec ℕ Z) → List (List ℕ)
lists all = map vec_items all

-- a step leads to another state that is nearer to the end, or finds a number that leads to itself
pub data IsStep (all : List (List ℕ)) (before : ℕ) (marks : List Mark) (tasks : List Task) (order : List ℕ) : Option ℕ → Type 0 where
  goes_on : IsSearch all marks tasks order → weight marks all + length tasks < before → IsStep all before marks tasks order None
  found_loop : {j : ℕ} → j < length all → LeadsBy (Lists all) j j → IsStep all before marks tasks order (Some j)
