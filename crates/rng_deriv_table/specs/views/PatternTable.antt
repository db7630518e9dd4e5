-- The invariant of a table of patterns.
use Rattle.std.specs.Prelude.{◌≡◌, ◌&&◌, ◌||◌, ℕ, ◌+◌, ◌<◌, ◌≤◌, ⊤, List, ◌++◌, length, map, slice_get, Option, Some, All, IfSome}
use Rattle.std.specs.List.Sorted.{IsStrictlyIncreasing}
use Rattle.rng_model.specs.simple.Table.{Table}
use Rattle.rng_model.specs.simple.Tree.{Simple}
use Rattle.rng_deriv_table.specs.views.Node.{Node, node_of}
use Rattle.rng_deriv_table.specs.views.Node as node
use Rattle.rng_deriv_laws.specs.plain.Derivatives.{has_data, is_nullable}
use Rattle.rng_deriv_table.specs.plain.Facts.{depth_of, elements_of, has_subsequences, joined_spans, kept_depth, members_of}
use Rattle.rng_deriv_table.specs.plain.Reduced.{AreReduced, has_attribute}
use Rattle.rng_deriv_table.specs.views.Trees.{trees, tree_of}
use Rattle.rng_deriv_table.specs.declared.pattern.Facts.{Facts}
use Rattle.rng_deriv_table.specs.declared.pattern.Pattern.{Pattern}
use Rattle.rng_deriv_table.specs.declared.pattern.PatternNumber.{PatternNumber}

-- the patterns in the order of their numbers
abbrev pub nodes_of : List (Pattern × Facts) → List Node
nodes_of rows = map (λ r. node_of r.0) rows

-- the numbers of the parts are below n; a choice has two members or more, by rising numbers
abbrev pub ArePartsBelow : ℕ → Node → Type 0
ArePartsBelow n node.not_allowed = ⊤
ArePartsBelow n node.empty = ⊤
ArePartsBelow n node.text = ⊤
ArePartsBelow n (node.choice ms) = (2 ≤ length ms) × All (λ m. m < n) ms × IsStrictlyIncreasing ms
ArePartsBelow n (node.group a b) = (a < n) × (b < n)
ArePartsBelow n (node.interleave a b) = (a < n) × (b < n)
ArePartsBelow n (node.one_or_more a) = a < n
ArePartsBelow n (node.element e) = ⊤
ArePartsBelow n (node.attribute a) = ⊤
ArePartsBelow n (node.data_at d) = ⊤

pub record IsPatternTable (ns : List Node) : Type 0 where
  -- the parts of each are before it
  pub falls : (i : ℕ) (n : Node) → slice_get ns i ≡ Some n → ArePartsBelow i n
  -- the rules about notAllowed and empty have been applied to it, and choices are flat
  pub reduced : (t : Table) (i : ℕ) (n : Node) → slice_get ns i ≡ Some n → AreReduced (tree_of t ns) n
  -- equal patterns have one number
  pub apart : (i j : ℕ) (n : Node) → slice_get ns i ≡ Some n → slice_get ns j ≡ Some n → i ≡ j

-- no pattern has this node
abbrev pub IsNew : List Node → Node → Type 0
IsNew ns n = (i : ℕ) → ¬ (slice_get ns i ≡ Some n)

-- what is known of a tree
abbrev pub facts_of : Simple ℕ → Facts
facts_of s = record {
  nullable = is_nullable s;
  attributes = has_attribute s;
  tests_strings = has_data s;
  subsequences = has_subsequences s;
  elements = elements_of s;
  members = members_of s;
  depth = depth_of s;
}

-- what is known of a group or an interleave, from what is known of its sides
abbrev pub both_facts : Facts → Facts → ℕ → ℕ → Facts
both_facts a b members depth = record {
  nullable = a.nullable && b.nullable;
  attributes = a.attributes || b.attributes;
  tests_strings = a.tests_strings || b.tests_strings;
  subsequences = (a.nullable && a.subsequences) && (b.nullable && b.subsequences);
  elements = joined_spans a.elements b.elements;
  members = members;
  depth = kept_depth (depth + 1);
}

-- what is kept of each pattern is right for its tree
abbrev pub AreExact : List (Pattern × Facts) → Type 0
AreExact rows = (t : Table) → map (λ r. r.1) rows ≡ map facts_of (trees t (nodes_of rows))

-- some patterns are added
abbrev pub Longer : List Node → List Node → Type 0
Longer old new = (more : List Node) × (new ≡ old ++ more)

-- the pattern with this number, new or not, is the tree that was built
pub record Adds (old new : List Node) (number : ℕ) (built : Table → Simple ℕ) : Type 0 where
  pub inside : number < length new
  pub is : (t : Table) → tree_of t new number ≡ built t

-- the number of this tree, where it is known
abbrev pub IsKnown : List Node → Option PatternNumber → Simple ℕ → Type 0
IsKnown ns number tree = IfSome number (λ n. Adds ns ns n.0 (λ t. tree))
