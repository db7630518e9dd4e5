-- Patterns in which notAllowed occurs nowhere, as the rules of section 4.20 leave it, and what they take (RELAX NG
-- Specification, section 6.2).
use Rattle.std.specs.Prelude.{◌≡◌, ◌⊎◌, ℕ, ⊤, List, []}
use Rattle.rng_model.specs.simple.Tree.{Simple, s_not_allowed, s_empty, s_text, s_leaf, s_attribute, s_list, s_data, s_data_except, s_value}
use Rattle.rng_model.specs.simple.Tree.{s_one_or_more, s_joined}
use Rattle.rng_model.specs.matching.Document.{Attribute, Item}
use Rattle.rng_model.specs.matching.GrammarMatching.{Reading}
use Rattle.rng_deriv_laws.specs.plain.Taking.{Takes}
use Rattle.rng_deriv_laws.specs.plain.Restricted.{HasNoAttribute}

-- notAllowed occurs nowhere in the pattern, outside attributes, lists and excepts
abbrev pub HasNoNotAllowed : Simple ℕ → Type 0
HasNoNotAllowed s_not_allowed = ⊥
HasNoNotAllowed s_empty = ⊤
HasNoNotAllowed s_text = ⊤
HasNoNotAllowed (s_leaf k) = ⊤
HasNoNotAllowed (s_attribute c p) = ⊤
HasNoNotAllowed (s_list p) = ⊤
HasNoNotAllowed (s_data d) = ⊤
HasNoNotAllowed (s_data_except d p) = ⊤
HasNoNotAllowed (s_value d v) = ⊤
HasNoNotAllowed (s_one_or_more p) = HasNoNotAllowed p
HasNoNotAllowed (s_joined k p q) = HasNoNotAllowed p × HasNoNotAllowed q

-- notAllowed is the whole pattern, or occurs nowhere in it
abbrev pub IsReduced : Simple ℕ → Type 0
IsReduced p = (p ≡ s_not_allowed) ⊎ HasNoNotAllowed p

module _ (g : Reading) where
  -- the pattern takes some attributes with some items
  abbrev pub TakesSome : Simple ℕ → Type 0
  TakesSome p = (xs : List Attribute) × (ns : List Item) × Takes g p xs ns

  -- so does each element, attribute, list, data and value in it
  abbrev pub LeavesTakeSome : Simple ℕ → Type 0
  LeavesTakeSome s_not_allowed = ⊤
  LeavesTakeSome s_empty = ⊤
  LeavesTakeSome s_text = ⊤
  LeavesTakeSome (s_leaf k) = TakesSome (s_leaf k)
  LeavesTakeSome (s_attribute c p) = TakesSome (s_attribute c p)
  LeavesTakeSome (s_list p) = TakesSome (s_list p)
  LeavesTakeSome (s_data d) = TakesSome (s_data d)
  LeavesTakeSome (s_data_except d p) = TakesSome (s_data_except d p)
  LeavesTakeSome (s_value d v) = TakesSome (s_value d v)
  LeavesTakeSome (s_one_or_more p) = LeavesTakeSome p
  LeavesTakeSome (s_joined k p q) = LeavesTakeSome p × LeavesTakeSome q

-- a pattern in which notAllowed occurs nowhere takes something, unless one of its leaves takes nothing
abbrev pub AllowedTakeSome : Type 0
AllowedTakeSome = (g : Reading) (p : Simple ℕ) → HasNoNotAllowed p → LeavesTakeSome g p → TakesSome g p

-- a pattern without attributes takes none
abbrev pub BareTakeNoAttribute : Type 0
BareTakeNoAttribute = (g : Reading) (p : Simple ℕ) (xs : List Attribute) (ns : List Item) → HasNoAttribute p → Takes g p xs ns → xs ≡ []
