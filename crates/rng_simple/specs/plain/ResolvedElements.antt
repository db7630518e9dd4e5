-- The elements of a pattern, each after those in its body: they get numbers when the pattern is resolved.
use Rattle.std.specs.Prelude.{ℕ, ◌+◌, List, [], ◌∷◌, ◌++◌, fold, Option, if◌then◌else◌}
use Rattle.rng_model.specs.schema.Patterns.{Place, Position, Pattern, Patterns, no_patterns, pattern_and, not_allowed, empty, text, element, attribute, list}
use Rattle.rng_model.specs.schema.Patterns.{data_of, data_except, value, mixed, optional, zero_or_more, one_or_more, joined, ref, parent_ref, grammar, external}
use Rattle.rng_model.specs.schema.Schema.{Schema, Component, Definition, same_component_name}
use Rattle.rng_model.specs.schema.Unfolding.{Leaf}
use Rattle.rng_simple.specs.views.ComponentTable.{components_at}

module _ (x : Place) where
  unfoldable mutual
    -- these elements, and those of the pattern at a position after them
    pub with_elements : Position → Pattern → List Leaf → List Leaf
    with_elements n not_allowed ls = ls
    with_elements n empty ls = ls
    with_elements n text ls = ls
    with_elements n (element c p) ls = with_elements (0 ∷ n) p ls ++ record { place = x; position = n; class = c; content = p } ∷ []
    with_elements n (attribute c p) ls = with_elements (0 ∷ n) p ls
    with_elements n (list p) ls = with_elements (0 ∷ n) p ls
    with_elements n (data_of d) ls = ls
    with_elements n (data_except d p) ls = with_elements (0 ∷ n) p ls
    with_elements n (value library name w) ls = ls
    with_elements n (mixed p) ls = with_elements (0 ∷ n) p ls
    with_elements n (optional p) ls = with_elements (0 ∷ n) p ls
    with_elements n (zero_or_more p) ls = with_elements (0 ∷ n) p ls
    with_elements n (one_or_more p) ls = with_elements (0 ∷ n) p ls
    with_elements n (joined k p q ps) ls = with_all_elements 2 n ps (with_elements (1 ∷ n) q (with_elements (0 ∷ n) p ls))
    with_elements n (ref y) ls = ls
    with_elements n (parent_ref y) ls = ls
    with_elements n (grammar z) ls = ls
    with_elements n (external p) ls = with_elements (0 ∷ n) p ls

    -- the first of these patterns is the child with this number
    pub with_all_elements : ℕ → Position → Patterns → List Leaf → List Leaf
    with_all_elements i n no_patterns ls = ls
    with_all_elements i n (pattern_and p ps) ls = with_all_elements (i + 1) n ps (with_elements (i ∷ n) p ls)

-- These elements, and those of the components of a name of the grammar at a place. The first component has the number
-- n.
unfoldable pub with_named_elements : Place → Option (List ℕ) → ℕ → List Component → List Leaf → List Leaf
with_named_elements x y n [] ls = ls
with_named_elements x y n (c ∷ cs) ls =
    with_named_elements x y (n + 1) cs (if same_component_name y c.name then with_elements x (n ∷ []) c.pattern ls else ls)

-- these elements, and those of a definition
abbrev pub with_elements_of : Schema → List Leaf → Definition → List Leaf
with_elements_of s ls d = with_named_elements d.place d.name 0 (components_at s d.place) ls

-- those of definitions, one after another
abbrev pub elements_of : Schema → List Definition → List Leaf
elements_of s ds = fold (with_elements_of s) [] ds
