-- A simple grammar with tests for texts: how names and texts of a document are judged.
use Rattle.std.specs.Prelude.{ℕ, Bool, false, Option, Some, None, slice_get}
use Rattle.rng_model.specs.names.Names.{Name, NameClass}
use Rattle.rng_model.specs.simple.Tree.{Simple, s_not_allowed}
use Rattle.rng_model.specs.matching.Matching.{Leaves}
use Rattle.rng_model.specs.matching.GrammarMatching.{grammar_leaves, Reading}
use Rattle.rng_model.specs.datatypes.Texts.{texts_of}
use Rattle.rng_names.specs.plain.Holding.{holds}

-- an element that is not listed has no names, and the body notAllowed
abbrev pub body_in : Option (NameClass × Simple ℕ) → Simple ℕ
body_in None = s_not_allowed
body_in (Some e) = e.1

abbrev pub named_in : Option (NameClass × Simple ℕ) → Name → Bool
named_in None q = false
named_in (Some e) q = holds e.0 q

module _ (g : Reading) where
  -- the body of the element of this number
  abbrev pub body_of : ℕ → Simple ℕ
  body_of k = body_in (slice_get g.grammar.elements k)

  -- the name class of the element of this number holds the name
  abbrev pub has_name : ℕ → Name → Bool
  has_name k q = named_in (slice_get g.grammar.elements k) q

  -- the leaves of the grammar's trees, as matching reads them
  abbrev pub leaves_of : Leaves (Unit {0}) ℕ
  leaves_of = grammar_leaves g.grammar (texts_of g.tests)
