-- The plain function that fills a table of depths: the depth of a pattern, given those of its points. Private contracts
-- cite it.
use Rattle.std.specs.Prelude.{◌≡◌, ℕ, ◌+◌, ◌<◌, max, min, List, [], ◌∷◌, Some, Contains}
use Rattle.rng_model.specs.simple.Tree.{Tree, not_allowed, empty, text, leaf, attribute, list, data_of, data_except, value, mixed, optional, zero_or_more}
use Rattle.rng_model.specs.simple.Tree.{one_or_more}
use Rattle.rng_model.specs.simple.Tree.{joined, Trees, no_trees, tree_and}
use Rattle.rng_model.specs.simple.Leaves.{class_depth, depth, depth_limit}
use Rattle.rng_simple.specs.plain.InTwos.{nested, in_twos}
use Rattle.rng_model.specs.schema.Patterns.{Place, Point}
use Rattle.rng_model.specs.schema.Schema.{Schema, Definition, main_start, body}
use Rattle.rng_model.specs.schema.Unfolding.{Leaf, Aim, to_element, to_definition, to_nothing, aim, IsTreeOf, content_of}
use Rattle.rng_simple.specs.plain.Met.{Met}

-- A depth, at most the limit plus one: enough to check the limit, and small enough to count.
abbrev pub cut_off : ℕ → ℕ
cut_off n = min n (depth_limit + 1)

-- this depth plus one
abbrev pub one_more : ℕ → ℕ
one_more n = cut_off (n + 1)

-- the depth of a member of depth n and of the members after it, nested in twos from the left
abbrev pub nested_depth : ℕ → List ℕ → ℕ
nested_depth n [] = n
nested_depth n (m ∷ ms) = nested_depth (one_more (max n m)) ms

-- the depth with 4.12 to 4.15 applied, given that of the tree of each point
abbrev mutual
  pub depth_with : {P : Type 0} → (P → ℕ) → Tree P → ℕ
  depth_with g not_allowed = 1
  depth_with g empty = 1
  depth_with g text = 1
  depth_with g (leaf l) = g l
  depth_with g (attribute c a) = one_more (max (cut_off (class_depth (nested c))) (depth_with g a))
  depth_with g (list a) = one_more (depth_with g a)
  depth_with g (data_of d) = 1
  depth_with g (data_except d a) = one_more (depth_with g a)
  depth_with g (value d v) = 1
  depth_with g (mixed a) = one_more (max (depth_with g a) 1)
  depth_with g (optional a) = one_more (max (depth_with g a) 1)
  depth_with g (zero_or_more a) = one_more (one_more (depth_with g a))
  depth_with g (one_or_more a) = one_more (depth_with g a)
  depth_with g (joined k a b ts) = deeper_with g (one_more (max (depth_with g a) (depth_with g b))) ts

  -- the depth of what is nested already, of depth n, with the members after it
  pub deeper_with : {P : Type 0} → (P → ℕ) → ℕ → Trees P → ℕ
  deeper_with g n no_trees = n
  deeper_with g n (tree_and a ts) = deeper_with g (one_more (max n (depth_with g a))) ts

-- the value of a table of definitions at an aim; elements have the value of `one`
abbrev pub of_aim : {A : Type 0} → (Leaf → A) → A → (Definition → A) → Aim → A
of_aim one other table (to_element m) = one m
of_aim one other table (to_definition d) = table d
of_aim one other table to_nothing = other

-- the depth of a pattern at a place, given the depths of the definitions
abbrev pub depth_at : Schema → (Definition → ℕ) → Place → Tree Point → ℕ
depth_at s table x a = depth_with (λ l. of_aim (λ m. 1) 1 table (aim s x l)) a

-- the table has for each of these definitions the value of its body
abbrev pub IsFilled : {A : Type 0} → Schema → (Place → Tree Point → A) → (Definition → A) → List Definition → Type 0
IsFilled s of_body table ds = (d : Definition) → Contains ds d → (a : Tree Point) → body s d ≡ Some a → table d ≡ of_body d.place a

-- the table has the value of the definition's tree, if there is one
abbrev pub IsRight : {A : Type 0} → Schema → (Tree Leaf → A) → (Definition → A) → Definition → Type 0
IsRight s of_tree table d = (t : Tree Leaf) → IsTreeOf s d t → table d ≡ of_tree t

abbrev pub tree_depth : Tree Leaf → ℕ
tree_depth t = cut_off (depth (in_twos t))

-- by the table a tree is too deep: that of the start, that of the body of an element that is met, or a name class of
-- such an element
pub data IsFoundDeep (s : Schema) (table : Definition → ℕ) : Type 0 where
  deep_start : depth_limit < table (main_start s) → IsFoundDeep s table
  deep_body : (m : Leaf) → Met s (to_element m) → depth_limit < depth_at s table m.place (content_of m) → IsFoundDeep s table
  deep_name : (m : Leaf) → Met s (to_element m) → depth_limit < class_depth (nested m.class) → IsFoundDeep s table
