-- Where leaves stand in patterns, by the numbers of these.
use Rattle.std.specs.Prelude.{◌≡◌, ◌↔◌, ◌⊎◌, ℕ, ◌<◌, List, [], ◌∷◌, ◌++◌, length, All, Contains, Bool, true, false, not, cond}
use Rattle.rng_model.specs.simple.Table.{Table}
use Rattle.rng_model.specs.simple.Tree.{Simple, choice, group, interleave, s_not_allowed, s_empty, s_text, s_leaf, s_attribute, s_list, s_data}
use Rattle.rng_model.specs.simple.Tree.{s_data_except, s_value, s_one_or_more, s_joined}
use Rattle.rng_deriv_laws.specs.plain.Derivatives.{is_nullable}
use Rattle.rng_deriv_table.specs.plain.Selecting.{IsMarked, node_at}
use Rattle.rng_deriv_table.specs.views.Node.{Node}
use Rattle.rng_deriv_table.specs.views.Node as node
use Rattle.rng_deriv_table.specs.views.Trees.{tree_of}
use Rattle.rng_deriv_table.specs.declared.pattern.PatternNumber.{PatternNumber}
use Rattle.rng_expected.specs.declared.leaves.Standing.{Standing}
use Rattle.rng_expected.specs.declared.leaves.Standing.TheVariants as standings

-- such leaves take items of the content, and no attributes
abbrev pub takes_items : Standing → Bool
takes_items standings.First = true
takes_items standings.Alone = true
takes_items standings.InTag = false

-- a part lets another one beside it stand so, given whether it may match nothing
abbrev pub lets : Standing → Bool → Bool
lets standings.First nullable = true
lets standings.Alone nullable = nullable
lets standings.InTag nullable = true

-- the same for the part before it in a group
abbrev pub lets_behind : Standing → Bool → Bool
lets_behind standings.First nullable = nullable
lets_behind standings.Alone nullable = nullable
lets_behind standings.InTag nullable = true

-- The leaf stands first in the pattern, or alone, where all that is beside it may match nothing, or it is an attribute, in
-- whatever order.
abbrev pub Stands : Standing → Simple ℕ → Simple ℕ → Type 0
Stands s s_not_allowed l = ⊥
Stands s s_empty l = ⊥
Stands s s_text l = (takes_items s ≡ true) × (l ≡ s_text)
Stands s (s_leaf k) l = (takes_items s ≡ true) × (l ≡ s_leaf k)
Stands s (s_attribute c p) l = (takes_items s ≡ false) × (l ≡ s_attribute c p)
Stands s (s_list p) l = (takes_items s ≡ true) × (l ≡ s_list p)
Stands s (s_data d) l = (takes_items s ≡ true) × (l ≡ s_data d)
Stands s (s_data_except d p) l = (takes_items s ≡ true) × (l ≡ s_data_except d p)
Stands s (s_value d v) l = (takes_items s ≡ true) × (l ≡ s_value d v)
Stands s (s_one_or_more p) l = Stands s p l
Stands s (s_joined choice p q) l = Stands s p l ⊎ Stands s q l
Stands s (s_joined group p q) l = ((lets s (is_nullable q) ≡ true) × Stands s p l) ⊎ ((lets_behind s (is_nullable p) ≡ true) × Stands s q l)
Stands s (s_joined interleave p q) l = ((lets s (is_nullable q) ≡ true) × Stands s p l) ⊎ ((lets s (is_nullable p) ≡ true) × Stands s q l)

-- ---- one pattern

-- the pattern is a leaf that may stand so
abbrev pub is_leaf : Standing → Node → Bool
is_leaf s node.not_allowed = false
is_leaf s node.empty = false
is_leaf s node.text = takes_items s
is_leaf s (node.choice ms) = false
is_leaf s (node.group a b) = false
is_leaf s (node.interleave a b) = false
is_leaf s (node.one_or_more a) = false
is_leaf s (node.element e) = takes_items s
is_leaf s (node.attribute a) = not (takes_items s)
is_leaf s (node.data_at d) = takes_items s

-- a number, under a test
abbrev pub side : Bool → ℕ → List ℕ
side b m = cond b (m ∷ []) []

-- the parts that stand so in the pattern, given which patterns may match nothing
abbrev pub parts_where : Standing → (ℕ → Bool) → Node → List ℕ
parts_where s nullable node.not_allowed = []
parts_where s nullable node.empty = []
parts_where s nullable node.text = []
parts_where s nullable (node.choice ms) = ms
parts_where s nullable (node.group a b) = side (lets s (nullable b)) a ++ side (lets_behind s (nullable a)) b
parts_where s nullable (node.interleave a b) = side (lets s (nullable b)) a ++ side (lets s (nullable a)) b
parts_where s nullable (node.one_or_more a) = a ∷ []
parts_where s nullable (node.element e) = []
parts_where s nullable (node.attribute a) = []
parts_where s nullable (node.data_at d) = []

-- which patterns of the table may match nothing
abbrev pub nullable_in : Table → List Node → ℕ → Bool
nullable_in t ns m = is_nullable (tree_of t ns m)

-- ---- several patterns

-- the leaf stands so in one of these patterns
abbrev pub StandsIn : Standing → (ℕ → Simple ℕ) → List ℕ → Simple ℕ → Type 0
StandsIn s of ms l = (m : ℕ) × Contains ms m × Stands s (of m) l

-- the same by their numbers
abbrev pub StandsInSome : Standing → (ℕ → Simple ℕ) → List PatternNumber → Simple ℕ → Type 0
StandsInSome s of ms l = (m : PatternNumber) × Contains ms m × Stands s (of m.0) l

-- it is one of these patterns
abbrev pub IsOneOf : (ℕ → Simple ℕ) → List PatternNumber → Simple ℕ → Type 0
IsOneOf of ms l = (m : PatternNumber) × Contains ms m × (l ≡ of m.0)

-- the number is that of a leaf that may stand so
pub record IsLeafAt (s : Standing) (ns : List Node) (n : PatternNumber) : Type 0 where
  pub inside : n.0 < length ns
  pub leaf : is_leaf s (node_at ns n.0) ≡ true

-- these numbers are marked in addition
pub record AddsMarks (old new : List Bool) (numbers : List ℕ) : Type 0 where
  pub long : length new ≡ length old
  pub which : (k : ℕ) → IsMarked new k ↔ (Contains numbers k ⊎ IsMarked old k)

-- what is added for one pattern: marks on the parts that stand so in it, or its own number if it is a leaf
pub record AddsRow (s : Standing) (t : Table) (ns : List Node) (n : ℕ) (old new : List Bool) (before after : List PatternNumber) : Type 0 where
  pub parts : List ℕ
  pub found : List PatternNumber
  pub below : All (λ m. m < n) parts
  pub leaves : All (IsLeafAt s ns) found
  pub marks : AddsMarks old new parts
  pub more : after ≡ before ++ found
  pub law : (l : Simple ℕ) → Stands s (tree_of t ns n) l ↔ (StandsIn s (tree_of t ns) parts l ⊎ IsOneOf (tree_of t ns) found l)

-- a marked pattern below this number has the leaf
abbrev pub StandsBelow : Standing → (ℕ → Simple ℕ) → ℕ → List Bool → Simple ℕ → Type 0
StandsBelow s of n marks l = (m : ℕ) × (m < n) × IsMarked marks m × Stands s (of m) l

-- the leaves that stand so in these patterns are found, or are in marked patterns below this number
pub record AreFoundDownTo (s : Standing) (t : Table) (ns : List Node) (ps : List PatternNumber) (n : ℕ) (marks : List Bool) (found : List PatternNumber) : Type 0 where
  pub leaves : All (IsLeafAt s ns) found
  pub law : (l : Simple ℕ) → StandsInSome s (tree_of t ns) ps l ↔ (StandsBelow s (tree_of t ns) n marks l ⊎ IsOneOf (tree_of t ns) found l)

-- these are the leaves that stand so in these patterns
pub record AreLeaves (s : Standing) (t : Table) (ns : List Node) (ps : List PatternNumber) (found : List PatternNumber) : Type 0 where
  pub leaves : All (IsLeafAt s ns) found
  pub law : (l : Simple ℕ) → StandsInSome s (tree_of t ns) ps l ↔ IsOneOf (tree_of t ns) found l
