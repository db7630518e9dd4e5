-- Trees in the simple syntax: whether one contains an attribute, what may be in the groups and choices that are made,
-- and the alternatives of a choice.
use Rattle.std.specs.Prelude.{◌≡◌, ◌⊎◌, ℕ, Bool, true, false, ◌||◌, ⊤, All}
use Rattle.rng_model.specs.simple.Tree.{Simple, choice, group, interleave, s_not_allowed, s_empty, s_text, s_leaf, s_attribute, s_list, s_data}
use Rattle.rng_model.specs.simple.Tree.{s_data_except, s_value, s_one_or_more, s_joined}
use Rattle.rng_deriv_laws.specs.plain.Derivatives.{is_empty, is_not_allowed}
use Rattle.rng_deriv_table.specs.views.Node.{Node}
use Rattle.rng_deriv_table.specs.views.Node as node

-- the tree contains an attribute, outside lists and excepts
abbrev pub has_attribute : Simple ℕ → Bool
has_attribute s_not_allowed = false
has_attribute s_empty = false
has_attribute s_text = false
has_attribute (s_leaf k) = false
has_attribute (s_attribute c p) = true
has_attribute (s_list p) = false
has_attribute (s_data d) = false
has_attribute (s_data_except d p) = false
has_attribute (s_value d v) = false
has_attribute (s_one_or_more p) = has_attribute p
has_attribute (s_joined k p q) = has_attribute p || has_attribute q

abbrev pub is_choice : Simple ℕ → Bool
is_choice s_not_allowed = false
is_choice s_empty = false
is_choice s_text = false
is_choice (s_leaf k) = false
is_choice (s_attribute c p) = false
is_choice (s_list p) = false
is_choice (s_data d) = false
is_choice (s_data_except d p) = false
is_choice (s_value d v) = false
is_choice (s_one_or_more p) = false
is_choice (s_joined choice p q) = true
is_choice (s_joined group p q) = false
is_choice (s_joined interleave p q) = false

-- a side of a group or an interleave, or the body of a oneOrMore
pub record MayBeSide (p : Simple ℕ) : Type 0 where
  -- section 4.20
  pub not_not_allowed : is_not_allowed p ≡ false
  -- section 4.21
  pub not_empty : is_empty p ≡ false

-- a member of a choice
pub record MayBeMember (p : Simple ℕ) : Type 0 where
  -- section 4.20
  pub not_not_allowed : is_not_allowed p ≡ false
  -- the choice is flat
  pub not_choice : is_choice p ≡ false

-- a pattern over the trees of its parts: each of them may be where it is
abbrev pub AreReduced : (ℕ → Simple ℕ) → Node → Type 0
AreReduced of node.not_allowed = ⊤
AreReduced of node.empty = ⊤
AreReduced of node.text = ⊤
AreReduced of (node.choice ms) = All (λ m. MayBeMember (of m)) ms
AreReduced of (node.group a b) = MayBeSide (of a) × MayBeSide (of b)
AreReduced of (node.interleave a b) = MayBeSide (of a) × MayBeSide (of b)
AreReduced of (node.one_or_more a) = MayBeSide (of a)
AreReduced of (node.element e) = ⊤
AreReduced of (node.attribute a) = ⊤
AreReduced of (node.data_at d) = ⊤

-- the second is an alternative of the first: a member of a choice of choices that is not a choice itself and not
-- notAllowed
abbrev pub HasAlternative : Simple ℕ → Simple ℕ → Type 0
HasAlternative s_not_allowed s = ⊥
HasAlternative s_empty s = s ≡ s_empty
HasAlternative s_text s = s ≡ s_text
HasAlternative (s_leaf k) s = s ≡ s_leaf k
HasAlternative (s_attribute c p) s = s ≡ s_attribute c p
HasAlternative (s_list p) s = s ≡ s_list p
HasAlternative (s_data d) s = s ≡ s_data d
HasAlternative (s_data_except d p) s = s ≡ s_data_except d p
HasAlternative (s_value d v) s = s ≡ s_value d v
HasAlternative (s_one_or_more p) s = s ≡ s_one_or_more p
HasAlternative (s_joined choice p q) s = HasAlternative p s ⊎ HasAlternative q s
HasAlternative (s_joined group p q) s = s ≡ s_joined group p q
HasAlternative (s_joined interleave p q) s = s ≡ s_joined interleave p q

-- notAllowed is not a member of a choice (section 4.20)
abbrev pub HasAllowedMembers : Simple ℕ → Type 0
HasAllowedMembers s_not_allowed = ⊥
HasAllowedMembers s_empty = ⊤
HasAllowedMembers s_text = ⊤
HasAllowedMembers (s_leaf k) = ⊤
HasAllowedMembers (s_attribute c p) = ⊤
HasAllowedMembers (s_list p) = ⊤
HasAllowedMembers (s_data d) = ⊤
HasAllowedMembers (s_data_except d p) = ⊤
HasAllowedMembers (s_value d v) = ⊤
HasAllowedMembers (s_one_or_more p) = ⊤
HasAllowedMembers (s_joined choice p q) = HasAllowedMembers p × HasAllowedMembers q
HasAllowedMembers (s_joined group p q) = ⊤
HasAllowedMembers (s_joined interleave p q) = ⊤

-- notAllowed is the whole or occurs nowhere
abbrev pub IsReducedChoice : Simple ℕ → Type 0
IsReducedChoice p = (p ≡ s_not_allowed) ⊎ HasAllowedMembers p
