-- The plain functions that number what a pattern mentions: each definition when it is first met, each element when its
-- body is done. Private contracts cite them; `IsResolved` and `IsGraphOf` state what they must return.
use Rattle.std.specs.Prelude.{ℕ, List, [], ◌∷◌, ◌++◌, length, Option, Some, None, if◌then◌else◌}
use Rattle.std.specs.List.{list_any}
use Rattle.rng_model.specs.names.Names.{NameClass}
use Rattle.rng_model.specs.simple.Tree.{Tree, Trees, no_trees, tree_and, leaf}
use Rattle.rng_model.specs.simple.Tree as tree
use Rattle.rng_model.specs.schema.Patterns.{Place, Pattern, Patterns, no_patterns, pattern_and, not_allowed, empty, text, element, attribute, list, data_of}
use Rattle.rng_model.specs.schema.Patterns.{data_except}
use Rattle.rng_model.specs.schema.Patterns.{value, without_parameters, mixed, optional, zero_or_more, one_or_more, joined, ref, parent_ref, grammar, external}
use Rattle.rng_model.specs.schema.Schema.{Definition}
use Rattle.rng_simple.specs.plain.Graph.{Spot, at_element, at_definition, same_definition, number_of}

-- the definitions with this one, which is last if it is new
abbrev pub with_definition : List Definition → Definition → List Definition
with_definition ds d = if list_any (same_definition d) ds then ds else ds ++ d ∷ []

-- what is numbered: definitions, and elements with their name classes and their bodies
pub record Numbering : Type 0 where
  pub definitions : List Definition
  pub elements : List (NameClass × Tree Spot)

-- a resolved pattern, and the numbering after it
abbrev pub Resolved : Type 0
Resolved = Tree Spot × Numbering

-- inside a pattern that adds no numbers
abbrev pub within : (Tree Spot → Tree Spot) → Resolved → Resolved
within make r = (make r.0, r.1)

-- a definition is looked up
abbrev pub looked_up : Definition → Numbering → Resolved
looked_up d v = (leaf (at_definition (number_of v.definitions d)), record { definitions = with_definition v.definitions d; elements = v.elements })

-- a name in the grammar around, if there is one
unfoldable pub looked_up_outside : List ℕ → Option Place → Numbering → Resolved
looked_up_outside y None v = (tree.not_allowed, v)
looked_up_outside y (Some z) v = looked_up (record { place = z; name = Some y }) v

-- an element with this class and this body
abbrev pub with_element : NameClass → Resolved → Resolved
with_element c r = (leaf (at_element (length r.1.elements)), record { definitions = r.1.definitions; elements = r.1.elements ++ (c, r.0) ∷ [] })

-- in the grammar at a place, with the one at the other place around it
module _ (x : Place) (outer : Option Place) where
  unfoldable mutual
    pub resolve : Pattern → Numbering → Resolved
    resolve not_allowed v = (tree.not_allowed, v)
    resolve empty v = (tree.empty, v)
    resolve text v = (tree.text, v)
    resolve (element c p) v = with_element c (resolve p v)
    resolve (attribute c p) v = within (tree.attribute c) (resolve p v)
    resolve (list p) v = within tree.list (resolve p v)
    resolve (data_of d) v = (tree.data_of d, v)
    resolve (data_except d p) v = within (tree.data_except d) (resolve p v)
    resolve (value library name w) v = (tree.value (without_parameters library name) w, v)
    resolve (mixed p) v = within tree.mixed (resolve p v)
    resolve (optional p) v = within tree.optional (resolve p v)
    resolve (zero_or_more p) v = within tree.zero_or_more (resolve p v)
    resolve (one_or_more p) v = within tree.one_or_more (resolve p v)
    resolve (joined k p q ps) v =
        let a = resolve p v in
        let b = resolve q a.1 in
        let c = resolve_all ps b.1 in
        (tree.joined k a.0 b.0 c.0, c.1)
    resolve (ref y) v = looked_up (record { place = x; name = Some y }) v
    resolve (parent_ref y) v = looked_up_outside y outer v
    resolve (grammar z) v = looked_up (record { place = z; name = None }) v
    resolve (external p) v = resolve p v

    pub resolve_all : Patterns → Numbering → Trees Spot × Numbering
    resolve_all no_patterns v = (no_trees, v)
    resolve_all (pattern_and p ps) v =
        let a = resolve p v in
        let b = resolve_all ps a.1 in
        (tree_and a.0 b.0, b.1)

  -- patterns in order
  unfoldable pub resolve_each : List Pattern → Numbering → List (Tree Spot) × Numbering
  resolve_each [] v = ([], v)
  resolve_each (p ∷ ps) v =
      let a = resolve p v in
      let b = resolve_each ps a.1 in
      (a.0 ∷ b.0, b.1)
