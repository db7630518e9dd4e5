-- What is known of a tree: which elements it contains, how many patterns an interleave joins, how deep its parts are in
-- one another, and whether it takes the subsequences of what it takes.
use Rattle.std.specs.Prelude.{◌≡◌, ◌⊎◌, ◌≤◌, ◌&&◌, ℕ, ◌+◌, ◌-◌, ◌^◌, List, ◌∷◌, Bool, true, min, max}
use Rattle.rng_model.specs.matching.Document.{Attribute, Item}
use Rattle.rng_model.specs.simple.Tree.{Simple, choice, group, interleave, s_not_allowed, s_empty, s_text, s_leaf, s_attribute, s_list, s_data}
use Rattle.rng_model.specs.simple.Tree.{s_data_except, s_value, s_one_or_more, s_joined}
use Rattle.rng_deriv_laws.specs.plain.Blanks.{IsBare}
use Rattle.rng_deriv_laws.specs.plain.Derivatives.{is_nullable}
use Rattle.rng_model.specs.matching.GrammarMatching.{Reading}
use Rattle.rng_deriv_laws.specs.plain.Taking.{Takes}
use Rattle.rng_deriv_table.specs.declared.pattern.Span.{Span}

-- the tree contains the element of this number, outside attributes, lists and excepts
abbrev pub HasElement : ℕ → Simple ℕ → Type 0
HasElement e s_not_allowed = ⊥
HasElement e s_empty = ⊥
HasElement e s_text = ⊥
HasElement e (s_leaf k) = e ≡ k
HasElement e (s_attribute c p) = ⊥
HasElement e (s_list p) = ⊥
HasElement e (s_data d) = ⊥
HasElement e (s_data_except d p) = ⊥
HasElement e (s_value d v) = ⊥
HasElement e (s_one_or_more p) = HasElement e p
HasElement e (s_joined k p q) = HasElement e p ⊎ HasElement e q

-- the number as it is kept
abbrev pub kept_number : ℕ → ℕ
kept_number k = min k (2 ^ 32 - 1)

-- the number may be in the range
abbrev pub IsWithin : Span → ℕ → Type 0
IsWithin some k = (some.least ≤ kept_number k) × (kept_number k ≤ some.greatest)

abbrev pub no_span : Span
no_span = record { least = 2 ^ 32 - 1; greatest = 0 }

-- the range of one number
abbrev pub one_span : ℕ → Span
one_span k = record { least = kept_number k; greatest = kept_number k }

abbrev pub joined_spans : Span → Span → Span
joined_spans some others = record { least = min some.least others.least; greatest = max some.greatest others.greatest }

-- the least and the greatest number of an element in the tree
abbrev pub elements_of : Simple ℕ → Span
elements_of s_not_allowed = no_span
elements_of s_empty = no_span
elements_of s_text = no_span
elements_of (s_leaf k) = one_span k
elements_of (s_attribute c p) = no_span
elements_of (s_list p) = no_span
elements_of (s_data d) = no_span
elements_of (s_data_except d p) = no_span
elements_of (s_value d v) = no_span
elements_of (s_one_or_more p) = elements_of p
elements_of (s_joined k p q) = joined_spans (elements_of p) (elements_of q)

-- the number of patterns other than interleaves that an interleave joins, up to 65,535
abbrev pub members_of : Simple ℕ → ℕ
members_of s_not_allowed = 1
members_of s_empty = 1
members_of s_text = 1
members_of (s_leaf k) = 1
members_of (s_attribute c p) = 1
members_of (s_list p) = 1
members_of (s_data d) = 1
members_of (s_data_except d p) = 1
members_of (s_value d v) = 1
members_of (s_one_or_more p) = 1
members_of (s_joined choice p q) = 1
members_of (s_joined group p q) = 1
members_of (s_joined interleave p q) = min (members_of p + members_of q) (2 ^ 16 - 1)

-- the number as it is kept in 16 bits
abbrev pub kept_depth : ℕ → ℕ
kept_depth n = min n (2 ^ 16 - 1)

-- A bound on how many parts of a tree are in one another, up to 65,535. The parts of both sides of a group count, so that
-- it does not grow if a group is reassociated.
abbrev pub depth_of : Simple ℕ → ℕ
depth_of s_not_allowed = 0
depth_of s_empty = 0
depth_of s_text = 0
depth_of (s_leaf k) = 0
depth_of (s_attribute c p) = 0
depth_of (s_list p) = 0
depth_of (s_data d) = 0
depth_of (s_data_except d p) = 0
depth_of (s_value d v) = 0
depth_of (s_one_or_more p) = kept_depth (depth_of p + 1)
depth_of (s_joined choice p q) = max (depth_of p) (depth_of q)
depth_of (s_joined group p q) = kept_depth (kept_depth (depth_of p + depth_of q) + 1)
depth_of (s_joined interleave p q) = kept_depth (max (depth_of p) (depth_of q) + 1)

-- As its shape shows, the tree takes each subsequence of each sequence of items that it takes, except perhaps the empty
-- one (blank strings beside elements are ignored).
abbrev pub has_subsequences : Simple ℕ → Bool
has_subsequences s_not_allowed = true
has_subsequences s_empty = true
has_subsequences s_text = true
has_subsequences (s_leaf k) = true
has_subsequences (s_attribute c p) = true
has_subsequences (s_list p) = true
has_subsequences (s_data d) = true
has_subsequences (s_data_except d p) = true
has_subsequences (s_value d v) = true
has_subsequences (s_one_or_more p) = has_subsequences p
has_subsequences (s_joined choice p q) = has_subsequences p && has_subsequences q
has_subsequences (s_joined group p q) = (is_nullable p && has_subsequences p) && (is_nullable q && has_subsequences q)
has_subsequences (s_joined interleave p q) = (is_nullable p && has_subsequences p) && (is_nullable q && has_subsequences q)

-- what the tree takes with an item in front it takes without this item; blank strings beside elements are removed first
abbrev pub LosesFirst : Reading → Simple ℕ → Type 0
LosesFirst g p = (xs : List Attribute) (n : Item) (ns : List Item) → IsBare (n ∷ ns) → Takes g p xs (n ∷ ns) → Takes g p xs ns
