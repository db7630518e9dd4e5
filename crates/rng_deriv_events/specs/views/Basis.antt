-- What never changes while documents are judged.
use Rattle.std.specs.Prelude.{◌≡◌, ℕ, List}
use Rattle.rng_names.specs.plain.Keys.{Keys}
use Rattle.rng_model.specs.simple.Table.{Table}
use Rattle.rng_model.specs.simple.Tree.{Simple}
use Rattle.rng_model.specs.matching.GrammarMatching.{Reading, reading_of}

-- a grammar, and the keys of the names for it
pub record Basis : Type 0 where
  pub grammar : Table
  pub keys : Keys

-- the grammar, with the tests of texts
abbrev pub reading_by : Basis → Reading
reading_by b = reading_of b.grammar

-- this is right by the basis, and by the patterns of a table
abbrev pub HoldsBy : {A : Type 0} → (Reading → Keys → List (Simple ℕ) → A → Type 0) → Basis → List (Simple ℕ) → A → Type 0
HoldsBy IsRight b trees kept = IsRight (reading_by b) b.keys trees kept

-- What each step of a matcher keeps: the basis stays, and this is right by it and by the patterns of the table after the step.
pub record Keeps {A : Type 0} (IsRight : Reading → Keys → List (Simple ℕ) → A → Type 0) (old new : Basis) (trees : List (Simple ℕ)) (kept : A) : Type 0 where
  pub basis : new ≡ old
  pub right : HoldsBy IsRight new trees kept
