-- A pattern without its place in memory: its kind, and the numbers of its parts.
use Rattle.std.specs.Prelude.{ℕ, List, map}
use Rattle.rng_deriv_table.specs.declared.pattern.Pattern.{Pattern}
use Rattle.rng_deriv_table.specs.declared.pattern.Pattern.TheVariants as pattern

pub data Node : Type 0 where
  not_allowed : Node
  empty : Node
  text : Node
  choice : List ℕ → Node
  group : ℕ → ℕ → Node
  interleave : ℕ → ℕ → Node
  one_or_more : ℕ → Node
  -- by its number in the grammar
  element : ℕ → Node
  -- by its position in the grammar
  attribute : ℕ → Node
  data_at : ℕ → Node

abbrev pub node_of : Pattern → Node
node_of pattern.NotAllowed = not_allowed
node_of pattern.Empty = empty
node_of pattern.Text = text
node_of (pattern.Choice members) = choice (map (λ m. m.0) members.items)
node_of (pattern.Group a b) = group a.0 b.0
node_of (pattern.Interleave a b) = interleave a.0 b.0
node_of (pattern.OneOrMore a) = one_or_more a.0
node_of (pattern.Element e) = element e.0
node_of (pattern.Attribute a) = attribute a.0
node_of (pattern.Data d) = data_at d.0
