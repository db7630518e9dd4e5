-- A schema: the components of the grammar at each place, and the place of the grammar around it. A ref is looked up as
-- the combined body of a name, or of the start, of the grammar at a place (RELAX NG Specification, sections 4.17 and
-- 4.18).
use Rattle.std.specs.Prelude.{◌≡◌, ℕ, ◌+◌, List, [], ◌∷◌, Option, Some, None, Bool, true, false, if◌then◌else◌}
use Rattle.std.specs.Str.{bytes_eq}
use Rattle.rng_model.specs.names.Lists.{Among}
use Rattle.rng_model.specs.simple.Tree.{Connector, choice, interleave}
use Rattle.rng_model.specs.simple.Tree.{Tree, joined, no_trees}
use Rattle.rng_model.specs.schema.Patterns.{Place, Pattern, Point, pattern_tree, IsWrittenIn}
use Rattle.rng_model.specs.declared.method.Method.{Method}
use Rattle.rng_model.specs.declared.method.Method.TheVariants as methods

-- a part of a grammar that defines a name, or its start, which has no name
pub record Component : Type 0 where
  pub name : Option (List ℕ)
  pub method : Method
  pub pattern : Pattern

-- the components at a place, in order, if there is a grammar at it; and the place of the grammar around it, if there is
-- one
pub record Schema : Type 0 where
  pub main : Place
  pub components : Place → Option (List Component)
  pub outer : Place → Option Place

-- what is looked up: a name, or the start, of the grammar at a place, whether or not some component defines it
pub record Definition : Type 0 where
  pub place : Place
  pub name : Option (List ℕ)

-- where matching starts
abbrev pub main_start : Schema → Definition
main_start s = record { place = s.main; name = None }

abbrev pub same_component_name : Option (List ℕ) → Option (List ℕ) → Bool
same_component_name None None = true
same_component_name None (Some b) = false
same_component_name (Some a) None = false
same_component_name (Some a) (Some b) = bytes_eq a b

-- the trees of the components of this name, in order, each at the position that is its component's number; the first of
-- the components has the number n
abbrev pub trees_named : Option (List ℕ) → ℕ → List Component → List (Tree Point)
trees_named y n [] = []
trees_named y n (c ∷ cs) =
    if same_component_name y c.name then pattern_tree (n ∷ []) c.pattern ∷ trees_named y (n + 1) cs else trees_named y (n + 1) cs

abbrev pub is_interleaved : Method → Bool
is_interleaved methods.Plain = false
is_interleaved methods.Choice = false
is_interleaved methods.Interleave = true

-- an interleave if a component of this name has `&=`, otherwise a choice
abbrev pub combining_connector : Option (List ℕ) → List Component → Connector
combining_connector y [] = choice
combining_connector y (c ∷ cs) =
    if same_component_name y c.name then (if is_interleaved c.method then interleave else combining_connector y cs) else combining_connector y cs

-- trees joined by a connector, nested in twos from the left
abbrev pub nested_from : {L : Type 0} → Connector → Tree L → List (Tree L) → Tree L
nested_from k a [] = a
nested_from k a (b ∷ ts) = nested_from k (joined k a b no_trees) ts

abbrev pub nested : {L : Type 0} → Connector → List (Tree L) → Option (Tree L)
nested k [] = None
nested k (a ∷ ts) = Some (nested_from k a ts)

abbrev pub body_among : Option (List ℕ) → Option (List Component) → Option (Tree Point)
body_among y None = None
body_among y (Some cs) = nested (combining_connector y cs) (trees_named y 0 cs)

-- the combined body of a definition (section 4.17), if some component has its name
unfoldable pub body : Schema → Definition → Option (Tree Point)
body s d = body_among d.name (s.components d.place)

-- the grammar at the place has this component
pub record HasComponent (s : Schema) (x : Place) (c : Component) : Type 0 where
  pub components : List Component
  pub there : s.components x ≡ Some components
  pub among : Among c components

-- the pattern is in a component of the grammar at the place, reached from the start or not
pub record IsWrittenAt (s : Schema) (x : Place) (q : Pattern) : Type 0 where
  pub component : Component
  pub there : HasComponent s x component
  pub written : IsWrittenIn q component.pattern
