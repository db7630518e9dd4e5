-- The patterns of a grammar in a table of patterns.
use Rattle.std.specs.Prelude.{ℕ, ◌<◌, List, length, map, slice_index_or, Some}
use Rattle.rng_model.specs.simple.Tree as tree
use Rattle.rng_model.specs.simple.Table.{Table, tree_at}
use Rattle.rng_model.specs.declared.simple.PatternId.{PatternId}
use Rattle.rng_model.specs.declared.simple.Simple.{Simple}
use Rattle.rng_model.specs.declared.simple.Simple.TheVariants as simple
use Rattle.rng_model.specs.matching.GrammarMatching.{Reading}
use Rattle.rng_deriv_laws.specs.plain.Taking.{Same}
use Rattle.rng_deriv_table.specs.plain.AskedFor.{IsAskedFor}
use Rattle.rng_deriv_table.specs.views.Node.{Node}
use Rattle.rng_deriv_table.specs.views.Trees.{attribute_found, data_found, tree_of}
use Rattle.rng_deriv_table.specs.declared.pattern.PatternNumber.{PatternNumber}

-- a pattern of a grammar, over the trees of its members; a pattern that matches one item is unchanged
abbrev pub taken_over : Table → (PatternId → tree.Simple ℕ) → Simple → tree.Simple ℕ
taken_over t of simple.NotAllowed = tree.s_not_allowed
taken_over t of simple.Empty = tree.s_empty
taken_over t of simple.Text = tree.s_text
taken_over t of (simple.Element e) = tree.s_leaf e.0
taken_over t of (simple.Attribute class body) = attribute_found t (Some (simple.Attribute class body))
taken_over t of (simple.List body) = data_found t (Some (simple.List body))
taken_over t of (simple.Data datatype) = data_found t (Some (simple.Data datatype))
taken_over t of (simple.DataExcept datatype except) = data_found t (Some (simple.DataExcept datatype except))
taken_over t of (simple.Value value) = data_found t (Some (simple.Value value))
taken_over t of (simple.OneOrMore body) = tree.s_one_or_more (of body)
taken_over t of (simple.Group a b) = tree.s_joined tree.group (of a) (of b)
taken_over t of (simple.Interleave a b) = tree.s_joined tree.interleave (of a) (of b)
taken_over t of (simple.Choice a b) = tree.s_joined tree.choice (of a) (of b)

-- the tree of the pattern whose number is at a position
abbrev pub tree_by : Table → List Node → List PatternNumber → PatternId → tree.Simple ℕ
tree_by t ns numbers id = tree_of t ns (slice_index_or numbers id.0 (record { 0 = 0 })).0

-- each of the first patterns of a grammar has a number in the table, and where the positions have a property, the pattern
-- of the number takes what the grammar's pattern takes
pub record AreTakenAt (Has : ℕ → Type 0) (t : Table) (ns : List Node) (numbers : List PatternNumber) : Type 0 where
  pub inside : (i : ℕ) → i < length numbers → (slice_index_or numbers i (record { 0 = 0 })).0 < length ns
  pub same : (i : ℕ) → i < length numbers → Has i → (g : Reading)
      → Same g (tree_by t ns numbers (record { 0 = i })) (tree_at t.patterns (record { 0 = i }))

-- the same for all positions that are asked for
abbrev pub AreTaken : Table → List Node → List PatternNumber → Type 0
AreTaken t = AreTakenAt (IsAskedFor t) t

-- the numbers at these positions
abbrev pub numbers_at : List PatternNumber → List PatternId → List PatternNumber
numbers_at numbers ids = map (λ (id : PatternId). slice_index_or numbers id.0 (record { 0 = 0 })) ids
