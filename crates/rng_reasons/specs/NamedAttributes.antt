-- Whether a pattern has an attribute that may have a name (RELAX NG Specification, section 6.2.8).
use Rattle.std.specs.Prelude.{◌≡◌, ℕ, ◌<◌, List, length, get_or, Bool, false, ◌||◌}
use Rattle.rng_model.specs.names.Names.{Name}
use Rattle.rng_model.specs.simple.Tree.{Simple, s_not_allowed, s_empty, s_text, s_leaf, s_attribute, s_list, s_data, s_data_except, s_value}
use Rattle.rng_model.specs.simple.Tree.{s_one_or_more, s_joined}
use Rattle.rng_names.specs.plain.Holding.{holds}

-- an attribute whose name class holds the name is in the pattern, and neither in a list nor in another attribute
abbrev pub has_named : Name → Simple ℕ → Bool
has_named q s_not_allowed = false
has_named q s_empty = false
has_named q s_text = false
has_named q (s_leaf k) = false
has_named q (s_attribute c p) = holds c q
has_named q (s_list p) = false
has_named q (s_data d) = false
has_named q (s_data_except d p) = false
has_named q (s_value d v) = false
has_named q (s_one_or_more p) = has_named q p
has_named q (s_joined k p q') = has_named q p || has_named q q'

-- these are the tests of the first patterns
pub record AreTests (q : Name) (of : ℕ → Simple ℕ) (tests : List Bool) : Type 0 where
  pub each : (i : ℕ) → i < length tests → get_or tests i false ≡ has_named q (of i)
