-- A schema by numbers: the definitions and the elements that are met, each with one number, and their bodies with
-- numbers at the points. The steps after collecting need only the numbers.
use Rattle.std.specs.Prelude.{◌≡◌, ℕ, ◌+◌, ◌<◌, ◌≤◌, List, [], ◌∷◌, ◌++◌, length, slice_get, slice_index_or, Option, Some, None, Bool, true, ◌&&◌}
use Rattle.std.specs.Prelude.{if◌then◌else◌, Contains}
use Rattle.std.specs.Str.{bytes_eq}
use Rattle.rng_model.specs.names.Names.{NameClass}
use Rattle.rng_model.specs.simple.Tree.{Tree}
use Rattle.rng_model.specs.simple.Leaves.{renamed, LeafIn, class_depth, depth_limit}
use Rattle.rng_simple.specs.plain.InTwos.{nested}
use Rattle.rng_model.specs.schema.Patterns.{Place, Point}
use Rattle.rng_model.specs.schema.Schema.{Schema, Definition, main_start, body, same_component_name}
use Rattle.rng_model.specs.schema.Unfolding.{Leaf, content_of, Aim, to_element, to_definition, to_nothing, aim}
use Rattle.rng_simple.specs.plain.Met.{Met}
use Rattle.rng_simple.specs.plain.DepthWith.{depth_with}

-- a point, by the number of its element or of its definition
pub data Spot : Type 0 where
  at_element : ℕ → Spot
  at_definition : ℕ → Spot

-- the bodies of the definitions, the first of which is the start, and of the elements
pub record Graph : Type 0 where
  pub bodies : List (Tree Spot)
  pub contents : List (Tree Spot)

-- ---- which schema a graph is of

abbrev pub element_aim : Option Leaf → Aim
element_aim (Some m) = to_element m
element_aim None = to_nothing

abbrev pub definition_aim : Option Definition → Aim
definition_aim (Some d) = to_definition d
definition_aim None = to_nothing

abbrev pub aim_at : List Definition → List Leaf → Spot → Aim
aim_at ds ls (at_element k) = element_aim (slice_get ls k)
aim_at ds ls (at_definition j) = definition_aim (slice_get ds j)

abbrev pub IsSpotBelow : ℕ → ℕ → Spot → Type 0
IsSpotBelow m n (at_element k) = k < n
IsSpotBelow m n (at_definition j) = j < m

-- the pattern at the place, with numbers at its points
pub record IsResolved (s : Schema) (ds : List Definition) (ls : List Leaf) (x : Place) (a : Tree Point) (r : Tree Spot) : Type 0 where
  pub same : renamed (aim s x) a ≡ renamed (aim_at ds ls) r
  pub below : (p : Spot) → LeafIn p r → IsSpotBelow (length ds) (length ls) p

-- Definitions are the same if they have the same name and place; elements are the same if they have the same position
-- and place.
abbrev pub same_definition : Definition → Definition → Bool
same_definition d e = bytes_eq d.place e.place && same_component_name d.name e.name

abbrev pub same_leaf : Leaf → Leaf → Bool
same_leaf l m = bytes_eq l.place m.place && bytes_eq l.position m.position

-- no two are the same
abbrev pub ArePairwiseApart : {A : Type 0} → (A → A → Bool) → List A → Type 0
ArePairwiseApart {A} same xs = (i j : ℕ) (x y : A) → slice_get xs i ≡ Some x → slice_get xs j ≡ Some y → same x y ≡ true → i ≡ j

pub record IsGraphOf (s : Schema) (ds : List Definition) (ls : List Leaf) (g : Graph) : Type 0 where
  pub start : slice_get ds 0 ≡ Some (main_start s)
  pub all_bodies : length g.bodies ≡ length ds
  pub all_contents : length g.contents ≡ length ls
  pub bodies : (j : ℕ) (d : Definition) (r : Tree Spot) → slice_get ds j ≡ Some d → slice_get g.bodies j ≡ Some r
      → (a : Tree Point) × (body s d ≡ Some a) × IsResolved s ds ls d.place a r
  pub contents : (k : ℕ) (m : Leaf) (r : Tree Spot) → slice_get ls k ≡ Some m → slice_get g.contents k ≡ Some r → IsResolved s ds ls m.place (content_of m) r
  pub met_definitions : (d : Definition) → Contains ds d → Met s (to_definition d)
  pub met_elements : (m : Leaf) → Contains ls m → Met s (to_element m)
  pub definitions_apart : ArePairwiseApart same_definition ds
  pub elements_apart : ArePairwiseApart same_leaf ls

-- ---- on numbers alone

-- the body of a definition mentions another one outside elements
pub record Mentions (g : Graph) (j i : ℕ) : Type 0 where
  pub tree : Tree Spot
  pub is : slice_get g.bodies j ≡ Some tree
  pub there : LeafIn (at_definition i) tree

-- an order of numbers in which each mentions only earlier ones
pub data IsOrderBy {A : Type 0} (M : A → A → Type 0) : List A → Type 0 where
  no_numbers : IsOrderBy M []
  and_number : {xs ys : List A} (x : A) → IsOrderBy M xs → ((y : A) → M x y → Contains xs y) → ys ≡ xs ++ x ∷ [] → IsOrderBy M ys

-- one leads to another by one mention or more
pub data LeadsBy {A : Type 0} (M : A → A → Type 0) : A → A → Type 0 where
  by_one : {x y : A} → M x y → LeadsBy M x y
  by_more : {x y z : A} → M x y → LeadsBy M y z → LeadsBy M x z

-- the value of a table of numbers at a spot
abbrev pub of_spot : {A : Type 0} → (ℕ → A) → (ℕ → A) → Spot → A
of_spot element table (at_element k) = element k
of_spot element table (at_definition j) = table j

-- the depth of a body, given the depths of the definitions
abbrev pub spot_depth : (ℕ → ℕ) → Tree Spot → ℕ
spot_depth table r = depth_with (of_spot (λ k. 1) table) r

-- the table has for each of these numbers the value of its body
abbrev pub IsFilledBy : {A : Type 0} → Graph → (Tree Spot → A) → (ℕ → A) → List ℕ → Type 0
IsFilledBy g of_body table js = (j : ℕ) → Contains js j → (r : Tree Spot) → slice_get g.bodies j ≡ Some r → table j ≡ of_body r

-- the index of the first member with this test
abbrev pub first_with : {A : Type 0} → (A → Bool) → List A → ℕ
first_with test [] = 0
first_with test (x ∷ xs) = if test x then 0 else first_with test xs + 1

-- a default for an index outside a list of definitions
abbrev pub no_definition : Definition
no_definition = record { place = []; name = None }

abbrev pub definition_at : List Definition → ℕ → Definition
definition_at ds j = slice_index_or ds j no_definition

-- the number of a definition, and of an element
abbrev pub number_of : List Definition → Definition → ℕ
number_of ds d = first_with (same_definition d) ds

abbrev pub leaf_number : List Leaf → Leaf → ℕ
leaf_number ls m = first_with (same_leaf m) ls

-- by the numbers a tree is too deep; the name classes are those of the elements
pub data IsDeepBy (classes : List NameClass) (g : Graph) (values : ℕ → ℕ) : Type 0 where
  start_is_deep : depth_limit < values 0 → IsDeepBy classes g values
  body_is_deep : (k : ℕ) (r : Tree Spot) → slice_get g.contents k ≡ Some r → depth_limit < spot_depth values r → IsDeepBy classes g values
  class_is_deep : (k : ℕ) (c : NameClass) → slice_get classes k ≡ Some c → depth_limit < class_depth (nested c) → IsDeepBy classes g values

-- ---- a graph that is being made

-- the invariant while bodies are made in the order of their numbers: there may be more numbers than bodies
pub record IsPartOf (s : Schema) (ds : List Definition) (ls : List Leaf) (g : Graph) : Type 0 where
  pub start : slice_get ds 0 ≡ Some (main_start s)
  pub some_bodies : length g.bodies ≤ length ds
  pub some_contents : length g.contents ≤ length ls
  pub bodies : (j : ℕ) (d : Definition) (r : Tree Spot) → slice_get ds j ≡ Some d → slice_get g.bodies j ≡ Some r
      → (a : Tree Point) × (body s d ≡ Some a) × IsResolved s ds ls d.place a r
  pub contents : (k : ℕ) (m : Leaf) (r : Tree Spot) → slice_get ls k ≡ Some m → slice_get g.contents k ≡ Some r → IsResolved s ds ls m.place (content_of m) r
  pub met_definitions : (d : Definition) → Contains ds d → Met s (to_definition d)
  pub met_elements : (m : Leaf) → Contains ls m → Met s (to_element m)
  pub definitions_apart : ArePairwiseApart same_definition ds
  pub elements_apart : ArePairwiseApart same_leaf ls

-- what a body adds to the lists: each new member is the aim of one of its points, and no member is there twice
pub record Brings (s : Schema) (x : Place) (a : Tree Point) (ds : List Definition) (ls : List Leaf) (more_ds : List Definition)
    (more_ls : List Leaf) : Type 0 where
  pub definitions : (d : Definition) → Contains more_ds d → (l : Point) × LeafIn l a × (aim s x l ≡ to_definition d)
  pub elements : (m : Leaf) → Contains more_ls m → (l : Point) × LeafIn l a × (aim s x l ≡ to_element m)
  pub definitions_apart : ArePairwiseApart same_definition (ds ++ more_ds)
  pub elements_apart : ArePairwiseApart same_leaf (ls ++ more_ls)
