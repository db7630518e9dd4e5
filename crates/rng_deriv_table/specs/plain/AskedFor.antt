-- Which patterns of a grammar need a number of their own in a table of patterns. A choice that is only a side of another
-- choice needs none.
use Rattle.std.specs.Prelude.{◌≡◌, ◌⊎◌, ℕ, zero, suc, ◌+◌, ◌<◌, ⊤, List, [], ◌∷◌, ◌++◌, slice_get, Some}
use Rattle.rng_model.specs.simple.Table.{Table, tree_at}
use Rattle.rng_model.specs.simple.Tree.{choice, s_joined}
use Rattle.rng_model.specs.declared.name.NameClass.{NameClass}
use Rattle.rng_model.specs.declared.simple.PatternId.{PatternId}
use Rattle.rng_model.specs.declared.simple.Simple.{Simple}
use Rattle.rng_model.specs.declared.simple.Simple.TheVariants as simple
use Rattle.rng_deriv_table.specs.declared.uses.Use.{Use}
use Rattle.rng_deriv_table.specs.declared.uses.Use.TheVariants as uses

-- the pattern is no choice
abbrev pub IsNoChoice : Simple → Type 0
IsNoChoice simple.NotAllowed = ⊤
IsNoChoice simple.Empty = ⊤
IsNoChoice simple.Text = ⊤
IsNoChoice (simple.Element e) = ⊤
IsNoChoice (simple.Attribute class body) = ⊤
IsNoChoice (simple.List body) = ⊤
IsNoChoice (simple.Data datatype) = ⊤
IsNoChoice (simple.DataExcept datatype except) = ⊤
IsNoChoice (simple.Value value) = ⊤
IsNoChoice (simple.OneOrMore body) = ⊤
IsNoChoice (simple.Group a b) = ⊤
IsNoChoice (simple.Interleave a b) = ⊤
IsNoChoice (simple.Choice a b) = ⊥

-- the pattern is no choice, and the one at this position is a direct part of it
abbrev pub HasPart : Simple → ℕ → Type 0
HasPart simple.NotAllowed k = ⊥
HasPart simple.Empty k = ⊥
HasPart simple.Text k = ⊥
HasPart (simple.Element e) k = ⊥
HasPart (simple.Attribute class body) k = body.0 ≡ k
HasPart (simple.List body) k = body.0 ≡ k
HasPart (simple.Data datatype) k = ⊥
HasPart (simple.DataExcept datatype except) k = except.0 ≡ k
HasPart (simple.Value value) k = ⊥
HasPart (simple.OneOrMore body) k = body.0 ≡ k
HasPart (simple.Group a b) k = (a.0 ≡ k) ⊎ (b.0 ≡ k)
HasPart (simple.Interleave a b) k = (a.0 ≡ k) ⊎ (b.0 ≡ k)
HasPart (simple.Choice a b) k = ⊥

-- the start, the body of an element, or a direct part of a pattern that is no choice is at this position
pub data IsAskedFor (t : Table) : ℕ → Type 0 where
  as_start : {k : ℕ} → t.start.0 ≡ k → IsAskedFor t k
  as_body : {k : ℕ} (i : ℕ) (e : NameClass × PatternId) → slice_get t.elements i ≡ Some e → e.1.0 ≡ k → IsAskedFor t k
  as_part : {k : ℕ} (i : ℕ) (p : Simple) → slice_get t.patterns i ≡ Some p → HasPart p k → IsAskedFor t k

-- ---- uses by position

abbrev pub IsOwn : List Use → ℕ → Type 0
IsOwn us k = slice_get us k ≡ Some uses.Own

-- the pattern at this position has a number of its own: it is no choice, or is marked
abbrev pub HasNumber : Table → List Use → ℕ → Type 0
HasNumber t us k = (p : Simple) → slice_get t.patterns k ≡ Some p → IsNoChoice p ⊎ IsOwn us k

-- ---- the members of a choice

-- A choice of two is opened step by step. A pattern that is still to be looked at, the last of those, is a choice
-- without a number, and its sides are looked at in its place; or it has a number and is a member.
pub data AreOpened (t : Table) (us : List Use) (first second : PatternId) : List PatternId → List PatternId → Type 0 where
  begun : {todo members : List PatternId} → todo ≡ first ∷ second ∷ [] → members ≡ [] → AreOpened t us first second todo members
  opened : {todo members next : List PatternId} (front : List PatternId) (k a b : PatternId) → AreOpened t us first second todo members
      → todo ≡ front ++ k ∷ [] → tree_at t.patterns k ≡ s_joined choice (tree_at t.patterns a) (tree_at t.patterns b) → (a.0 < k.0) × (b.0 < k.0)
      → next ≡ front ++ a ∷ b ∷ [] → AreOpened t us first second next members
  moved : {todo members front more : List PatternId} (k : PatternId) → AreOpened t us first second todo members → todo ≡ front ++ k ∷ []
      → HasNumber t us k.0 → more ≡ members ++ k ∷ [] → AreOpened t us first second front more

-- the most steps in which the pattern at a position is opened, and those of several
unfoldable pub steps_of : ℕ → ℕ
steps_of zero = 1
steps_of (suc k) = steps_of k + steps_of k + 1

unfoldable pub steps_for : List PatternId → ℕ
steps_for [] = 0
steps_for (k ∷ ks) = steps_of k.0 + steps_for ks
