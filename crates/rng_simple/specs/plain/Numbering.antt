-- What makes a numbered grammar the simple form of a schema.
use Rattle.std.specs.Prelude.{◌≡◌, ℕ, ◌<◌, List, [], length, slice_get, slice_index_or, Some, All}
use Rattle.rng_model.specs.names.Names as names
use Rattle.rng_model.specs.names.Names.{NameClass}
use Rattle.rng_model.specs.simple.Tree.{Tree, Simple, as_tree}
use Rattle.rng_model.specs.simple.Grammar.{Grammar}
use Rattle.rng_model.specs.simple.Leaves.{AreLeavesBelow}
use Rattle.rng_model.specs.schema.Patterns as patterns
use Rattle.rng_model.specs.schema.Schema.{Schema}
use Rattle.rng_model.specs.schema.Unfolding.{Leaf, IsBodyOf, IsReachedBySimpleForms}
use Rattle.rng_simple.specs.plain.InTwos.{nested}
use Rattle.rng_simple.specs.plain.SimpleOf.{simple_of}
use Rattle.rng_simple.specs.plain.Renamed.{simple_renamed}

-- a default for an index outside a list of elements
abbrev pub no_element : Leaf
no_element = record { place = []; position = []; class = names.any_name; content = patterns.not_allowed }

-- the element with a number
abbrev pub element_at : List Leaf → ℕ → Leaf
element_at ls k = slice_index_or ls k no_element

-- no two are the same
abbrev pub AreDistinct : List Leaf → Type 0
AreDistinct ls = (j k : ℕ) → j < length ls → k < length ls → element_at ls j ≡ element_at ls k → j ≡ k

-- the grammar has for this element its class, and the simple form of its body
pub record IsListedAs (ls : List Leaf) (simples : Leaf → Simple Leaf) (l : Leaf) (e : NameClass × Simple ℕ) : Type 0 where
  pub below : AreLeavesBelow (length ls) (as_tree e.1)
  pub class : e.0 ≡ nested l.class
  pub body : simple_renamed (element_at ls) e.1 ≡ simples l

-- the simple form of the body of each element that is reached
abbrev pub AreBodies : Schema → (Leaf → Simple Leaf) → Type 0
AreBodies s simples = (l : Leaf) → IsReachedBySimpleForms s l → (t : Tree Leaf) → IsBodyOf s l t → simples l ≡ simple_of t

-- the grammar lists exactly these elements, each once, all of which are reached, and has the simple forms of their
-- bodies and of the start
pub record IsNumbering (s : Schema) (ls : List Leaf) (first : Simple Leaf) (simples : Leaf → Simple Leaf) (g : Grammar) : Type 0 where
  pub count : length ls ≡ length g.elements
  pub distinct : AreDistinct ls
  pub reached : All (IsReachedBySimpleForms s) ls
  pub below : AreLeavesBelow (length ls) (as_tree g.start)
  pub start : simple_renamed (element_at ls) g.start ≡ first
  pub each : (k : ℕ) (e : NameClass × Simple ℕ) → slice_get g.elements k ≡ Some e → IsListedAs ls simples (element_at ls k) e
