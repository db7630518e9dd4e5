-- Unfolding: which tree a pattern represents. Refs, parent refs and nested grammars are followed down to the elements,
-- which are leaves, named by their place and their position there (RELAX NG Specification, sections 4.18 and 4.19). Then
-- which elements a schema reaches from its start.
use Rattle.std.specs.Prelude.{◌≡◌, ℕ, List, ◌∷◌, Option, Some, None}
use Rattle.rng_model.specs.names.Names.{NameClass}
use Rattle.rng_model.specs.simple.Tree.{Datatype, Connector, Tree, not_allowed, empty, text, leaf, attribute, list, data_of, data_except, value, mixed}
use Rattle.rng_model.specs.simple.Tree.{optional, zero_or_more, one_or_more, joined, Trees, no_trees, tree_and}
use Rattle.rng_model.specs.schema.Patterns.{Place, Position, Pattern, Point, an_element, a_ref, a_parent_ref, a_grammar, pattern_tree}
use Rattle.rng_model.specs.schema.Schema.{Schema, Definition, body, main_start}
use Rattle.rng_model.specs.simple.Leaves.{LeafIn}
use Rattle.rng_model.specs.simple.Simplification.{IsSimpleFormOf}

-- an element by its place and its position there, with its class and its body as they are written
pub record Leaf : Type 0 where
  pub place : Place
  pub position : Position
  pub class : NameClass
  pub content : Pattern

-- an element's body as it is written, which is its only child
abbrev pub content_of : Leaf → Tree Point
content_of l = pattern_tree (0 ∷ l.position) l.content

-- what a point of a pattern is looked up as: an element, or a definition; or nothing, for a parent ref in a grammar
-- with none around it
pub data Aim : Type 0 where
  to_element : Leaf → Aim
  to_definition : Definition → Aim
  to_nothing : Aim

-- the definition of the name in the grammar around
abbrev pub outside : List ℕ → Option Place → Aim
outside y None = to_nothing
outside y (Some z) = to_definition (record { place = z; name = Some y })

-- What a point at a place is looked up as. A ref is looked up in the grammar there, a parent ref in the grammar around
-- it. A nested grammar is looked up as its start.
abbrev pub aim : Schema → Place → Point → Aim
aim s x (an_element n c p) = to_element (record { place = x; position = n; class = c; content = p })
aim s x (a_ref y) = to_definition (record { place = x; name = Some y })
aim s x (a_parent_ref y) = outside y (s.outer x)
aim s x (a_grammar z) = to_definition (record { place = z; name = None })

-- The tree that a pattern at a place represents. This is the least relation, so a pattern whose expansion loops has no
-- tree.
mutual
  pub data Unfolds (s : Schema) : Place → Tree Point → Tree Leaf → Type 0 where
    -- an element is a leaf
    element_is : {x : Place} {l : Point} {m : Leaf} → aim s x l ≡ to_element m → Unfolds s x (leaf l) (leaf m)
    -- a leaf that is looked up unfolds to the tree of the combined body that is found, at the place of that body
    found : {x : Place} {l : Point} {d : Definition} {a : Tree Point} {b : Tree Leaf} → aim s x l ≡ to_definition d → body s d ≡ Some a
        → Unfolds s d.place a b → Unfolds s x (leaf l) b
    -- every other pattern is itself, with its parts unfolded
    not_allowed_is : {x : Place} → Unfolds s x not_allowed not_allowed
    empty_is : {x : Place} → Unfolds s x empty empty
    text_is : {x : Place} → Unfolds s x text text
    attribute_is : {x : Place} {c : NameClass} {a : Tree Point} {b : Tree Leaf} → Unfolds s x a b → Unfolds s x (attribute c a) (attribute c b)
    list_is : {x : Place} {a : Tree Point} {b : Tree Leaf} → Unfolds s x a b → Unfolds s x (list a) (list b)
    data_is : {x : Place} {d : Datatype} → Unfolds s x (data_of d) (data_of d)
    except_is : {x : Place} {d : Datatype} {a : Tree Point} {b : Tree Leaf} → Unfolds s x a b → Unfolds s x (data_except d a) (data_except d b)
    value_is : {x : Place} {d : Datatype} {v : List ℕ} → Unfolds s x (value d v) (value d v)
    mixed_is : {x : Place} {a : Tree Point} {b : Tree Leaf} → Unfolds s x a b → Unfolds s x (mixed a) (mixed b)
    optional_is : {x : Place} {a : Tree Point} {b : Tree Leaf} → Unfolds s x a b → Unfolds s x (optional a) (optional b)
    zero_or_more_is : {x : Place} {a : Tree Point} {b : Tree Leaf} → Unfolds s x a b → Unfolds s x (zero_or_more a) (zero_or_more b)
    one_or_more_is : {x : Place} {a : Tree Point} {b : Tree Leaf} → Unfolds s x a b → Unfolds s x (one_or_more a) (one_or_more b)
    joined_is : {x : Place} {k : Connector} {a c : Tree Point} {b d : Tree Leaf} {ts : Trees Point} {us : Trees Leaf} →
        Unfolds s x a b → Unfolds s x c d → UnfoldAll s x ts us → Unfolds s x (joined k a c ts) (joined k b d us)

  pub data UnfoldAll (s : Schema) : Place → Trees Point → Trees Leaf → Type 0 where
    none_is : {x : Place} → UnfoldAll s x no_trees no_trees
    more_are : {x : Place} {a : Tree Point} {b : Tree Leaf} {ts : Trees Point} {us : Trees Leaf} → Unfolds s x a b → UnfoldAll s x ts us
        → UnfoldAll s x (tree_and a ts) (tree_and b us)

-- the tree of a definition
abbrev pub IsTreeOf : Schema → Definition → Tree Leaf → Type 0
IsTreeOf s d t = (a : Tree Point) × (body s d ≡ Some a) × Unfolds s d.place a t

-- the tree of an element's body
abbrev pub IsBodyOf : Schema → Leaf → Tree Leaf → Type 0
IsBodyOf s l t = Unfolds s l.place (content_of l) t

-- ---- by unfolded trees, without the rules of notAllowed, and by simple forms (sections 4.18 to 4.20)

-- an element that is a leaf of the start's tree, or of the tree of the body of an element that is reached
pub data IsReachedByTrees (s : Schema) : Leaf → Type 0 where
  from_start : {t : Tree Leaf} {l : Leaf} → IsTreeOf s (main_start s) t → LeafIn l t → IsReachedByTrees s l
  from_element : {m l : Leaf} {t : Tree Leaf} → IsReachedByTrees s m → IsBodyOf s m t → LeafIn l t → IsReachedByTrees s l

-- the start's tree, or that of the body of an element that is reached
pub data IsReachedTree (s : Schema) : Tree Leaf → Type 0 where
  of_start : {t : Tree Leaf} → IsTreeOf s (main_start s) t → IsReachedTree s t
  of_body : {l : Leaf} {t : Tree Leaf} → IsReachedByTrees s l → IsBodyOf s l t → IsReachedTree s t

-- an element that is a leaf of the start's simple form, or of the simple form of the body of an element that is reached
pub data IsReachedBySimpleForms (s : Schema) : Leaf → Type 0 where
  from_simple_start : {t b : Tree Leaf} {l : Leaf} → IsTreeOf s (main_start s) t → IsSimpleFormOf t b → LeafIn l b → IsReachedBySimpleForms s l
  from_simple_body : {m l : Leaf} {t b : Tree Leaf} → IsReachedBySimpleForms s m → IsBodyOf s m t → IsSimpleFormOf t b → LeafIn l b → IsReachedBySimpleForms s l
