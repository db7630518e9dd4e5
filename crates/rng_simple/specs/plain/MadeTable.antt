-- What the simplification of a schema must return.
use Rattle.std.specs.Prelude.{ℕ, List}
use Rattle.rng_model.specs.names.Names.{NameClass}
use Rattle.rng_model.specs.simple.Table.{AreToldApart, Table, grammar_of}
use Rattle.rng_model.specs.simple.SimplifiedSchema.{IsInSimpleSyntax, AreAllUsed}
use Rattle.rng_simple.specs.plain.Graph.{Graph}
use Rattle.rng_simple.specs.plain.GrammarBy.{IsMadeOf}

-- the tables are made of the graph, along this order of its definitions
pub record IsMadeTable (classes : List NameClass) (g : Graph) (order : List ℕ) (t : Table) : Type 0 where
  pub made : IsMadeOf classes g order (grammar_of t)
  pub syntax : IsInSimpleSyntax (grammar_of t)
  pub used : AreAllUsed t
  pub apart : AreToldApart t
