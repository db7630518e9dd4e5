-- The simple form of a schema: a start, and each element that is reached from it through simple forms (RELAX NG
-- Specification, sections 4.12 to 4.21). Also, when a numbered grammar is that form.
use Rattle.std.specs.Prelude.{◌≡◌, ℕ, ◌<◌, List, length, slice_get, Some, All, Contains}
use Rattle.rng_model.specs.names.Names.{NameClass}
use Rattle.rng_model.specs.simple.Tree.{Tree, Simple, as_tree}
use Rattle.rng_model.specs.simple.Grammar.{Grammar}
use Rattle.rng_model.specs.simple.Leaves.{renamed, AreLeavesBelow}
use Rattle.rng_model.specs.simple.Simplification.{IsSimpleClassOf, IsSimpleFormOf}
use Rattle.rng_model.specs.schema.Schema.{Schema, main_start}
use Rattle.rng_model.specs.schema.Unfolding.{Leaf, IsTreeOf, IsBodyOf, IsReachedBySimpleForms}

-- an element of a simple form: which one it is, its name class, and its body
pub record Element : Type 0 where
  pub name : Leaf
  pub class : NameClass
  pub body : Tree Leaf

-- a start, and elements in any order
pub record SimpleForm : Type 0 where
  pub start : Tree Leaf
  pub elements : List Element

-- an element that is reached, with the simple forms of its name class and of its body's tree
pub record IsElementOf (s : Schema) (e : Element) : Type 0 where
  pub reached : IsReachedBySimpleForms s e.name
  pub class : IsSimpleClassOf e.name.class e.class
  pub tree : Tree Leaf
  pub is_tree : IsBodyOf s e.name tree
  pub body : IsSimpleFormOf tree e.body

-- the simple form of the schema: the simple form of the start's tree, and exactly the elements that are reached; the
-- body of an element may be notAllowed
pub record IsSimpleFormOfSchema (s : Schema) (f : SimpleForm) : Type 0 where
  pub tree : Tree Leaf
  pub is_tree : IsTreeOf s (main_start s) tree
  pub start : IsSimpleFormOf tree f.start
  pub elements : All (IsElementOf s) f.elements
  pub reached : (l : Leaf) → IsReachedBySimpleForms s l → (e : Element) × Contains f.elements e × (e.name ≡ l)

-- The grammar is this form up to numbering. A one-to-one pairing of its numbers with the elements of the form maps the
-- start, the name classes and the bodies to those of the form.
pub record IsSameUpToNumbering (g : Grammar) (f : SimpleForm) : Type 0 where
  -- the element with this number
  pub element : ℕ → Leaf
  pub one_to_one : (j k : ℕ) → j < length g.elements → k < length g.elements → element j ≡ element k → j ≡ k
  pub all : All (λ e. (k : ℕ) × (k < length g.elements) × (element k ≡ e.name)) f.elements
  pub start : f.start ≡ renamed element (as_tree g.start)
  pub start_below : AreLeavesBelow (length g.elements) (as_tree g.start)
  pub bodies : (k : ℕ) (c : NameClass) (p : Simple ℕ) → slice_get g.elements k ≡ Some (c, p) →
      Contains f.elements (record { name = element k; class = c; body = renamed element (as_tree p) }) × AreLeavesBelow (length g.elements) (as_tree p)

-- the grammar is a simple form of the schema, up to numbering
abbrev pub IsSimpleGrammarOf : Schema → Grammar → Type 0
IsSimpleGrammarOf s g = (f : SimpleForm) × IsSimpleFormOfSchema s f × IsSameUpToNumbering g f

-- each simple form of the schema is the grammar, up to numbering
abbrev pub IsOnlySimpleGrammarOf : Schema → Grammar → Type 0
IsOnlySimpleGrammarOf s g = (f : SimpleForm) → IsSimpleFormOfSchema s f → IsSameUpToNumbering g f
