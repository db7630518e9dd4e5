-- The ways of the code, without their place in memory.
use Rattle.std.specs.Prelude.{ℕ, List, [], ◌∷◌}
use Rattle.rng_model.specs.simple.Tree.{Simple}
use Rattle.rng_deriv_laws.specs.plain.Derivatives as ways
use Rattle.rng_plain_matcher.specs.declared.ways.Way.{Way}
use Rattle.rng_plain_matcher.specs.views.Trees.{tree_of}

abbrev pub way_of : Way → ways.Way
way_of w = record { leaf = tree_of w.leaf.now; rest = tree_of w.rest }

-- only this way
abbrev pub lone_way : Simple ℕ → Simple ℕ → List ways.Way
lone_way leaf rest = record { leaf = leaf; rest = rest } ∷ []
