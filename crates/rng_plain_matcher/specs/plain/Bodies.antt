-- The body that a leaf opens.
use Rattle.std.specs.Prelude.{ℕ, Option, Some, None, if◌then◌else◌}
use Rattle.rng_model.specs.names.Names.{Name}
use Rattle.rng_model.specs.simple.Tree.{Simple, s_not_allowed, s_empty, s_text, s_leaf, s_attribute, s_list, s_data, s_data_except, s_value}
use Rattle.rng_model.specs.simple.Tree.{s_one_or_more, s_joined}
use Rattle.rng_model.specs.matching.GrammarMatching.{Reading}
use Rattle.rng_deriv_laws.specs.plain.Reading.{body_of, has_name}

module _ (g : Reading) where
  -- the body of the element that a leaf is, if the leaf is an element with this name
  abbrev pub body_named : Name → Simple ℕ → Option (Simple ℕ)
  body_named q s_not_allowed = None
  body_named q s_empty = None
  body_named q s_text = None
  body_named q (s_leaf k) = if has_name g k q then Some (body_of g k) else None
  body_named q (s_attribute c p) = None
  body_named q (s_list p) = None
  body_named q (s_data d) = None
  body_named q (s_data_except d p) = None
  body_named q (s_value d v) = None
  body_named q (s_one_or_more p) = None
  body_named q (s_joined k p r) = None
