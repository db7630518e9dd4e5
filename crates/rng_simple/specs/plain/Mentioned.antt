-- The definitions that a pattern mentions outside elements, in order. Private contracts cite it.
use Rattle.std.specs.Prelude.{ℕ, List, [], ◌∷◌, ◌++◌}
use Rattle.rng_model.specs.simple.Tree.{Tree, not_allowed, empty, text, leaf, attribute, list, data_of, data_except, value, mixed, optional, zero_or_more, one_or_more}
use Rattle.rng_model.specs.simple.Tree.{joined, Trees, no_trees, tree_and}
use Rattle.rng_simple.specs.plain.Graph.{Spot, at_element, at_definition}
use Rattle.rng_simple.specs.declared.graph.parts.GraphRow.{GraphRow}
use Rattle.rng_simple.specs.declared.graph.parts.GraphRow.TheVariants as row

abbrev pub definition_there : Spot → List ℕ
definition_there (at_element k) = []
definition_there (at_definition j) = j ∷ []

abbrev mutual
  pub mentioned : Tree Spot → List ℕ
  mentioned not_allowed = []
  mentioned empty = []
  mentioned text = []
  mentioned (leaf p) = definition_there p
  mentioned (attribute c a) = mentioned a
  mentioned (list a) = mentioned a
  mentioned (data_of d) = []
  mentioned (data_except d a) = mentioned a
  mentioned (value d v) = []
  mentioned (mixed a) = mentioned a
  mentioned (optional a) = mentioned a
  mentioned (zero_or_more a) = mentioned a
  mentioned (one_or_more a) = mentioned a
  mentioned (joined k a b ts) = mentioned a ++ (mentioned b ++ mentioned_among ts)

  pub mentioned_among : Trees Spot → List ℕ
  mentioned_among no_trees = []
  mentioned_among (tree_and a ts) = mentioned a ++ mentioned_among ts

abbrev pub all_mentioned : List (Tree Spot) → List ℕ
all_mentioned [] = []
all_mentioned (a ∷ ts) = mentioned a ++ all_mentioned ts

-- the definition that a row is, if it is one
abbrev pub definition_of_row : GraphRow → List ℕ
definition_of_row row.NotAllowed = []
definition_of_row row.Empty = []
definition_of_row row.Text = []
definition_of_row (row.Element k) = []
definition_of_row (row.Definition j) = j ∷ []
definition_of_row (row.Data d) = []
definition_of_row (row.Value v) = []
definition_of_row (row.Attribute c) = []
definition_of_row row.List = []
definition_of_row (row.DataExcept d) = []
definition_of_row row.Mixed = []
definition_of_row row.Optional = []
definition_of_row row.ZeroOrMore = []
definition_of_row row.OneOrMore = []
definition_of_row (row.Group n) = []
definition_of_row (row.Interleave n) = []
definition_of_row (row.Choice n) = []
