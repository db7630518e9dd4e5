-- Members of lists, and the least number with a property.
use Rattle.std.specs.Prelude.{List, ◌∷◌, ℕ, ◌≤◌}

-- x is a member of the list
pub data Among {A : Type 0} (x : A) : List A → Type 0 where
  here : {xs : List A} → Among x (x ∷ xs)
  there : {y : A} {xs : List A} → Among x xs → Among x (y ∷ xs)

-- two members of the list, at different positions, are equal
pub data HasTwice {A : Type 0} : List A → Type 0 where
  at_first : {x : A} {xs : List A} → Among x xs → HasTwice (x ∷ xs)
  later : {x : A} {xs : List A} → HasTwice xs → HasTwice (x ∷ xs)

-- two members of the list are related by P, the earlier one first
pub data HasTwo {A : Type 0} (P : A → A → Type 0) : List A → Type 0 where
  first_and : {x y : A} {xs : List A} → Among y xs → P x y → HasTwo P (x ∷ xs)
  both_later : {x : A} {xs : List A} → HasTwo P xs → HasTwo P (x ∷ xs)

-- the clause is broken, and no clause of a smaller number is broken
pub record IsLeast (IsBroken : ℕ → Type 0) (clause : ℕ) : Type 0 where
  pub broken : IsBroken clause
  pub least : (other : ℕ) → IsBroken other → clause ≤ other
