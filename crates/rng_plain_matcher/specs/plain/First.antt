-- What a pattern takes first: a string or an attribute.
use Rattle.std.specs.Prelude.{ℕ, List, Bool}
use Rattle.rng_model.specs.simple.Tree.{Simple}
use Rattle.rng_model.specs.documents.EventViews.{attribute_of}
use Rattle.rng_model.specs.matching.GrammarMatching.{Reading}
use Rattle.rng_deriv_laws.specs.plain.Derivatives.{Way, attribute_ways, item_ways, list_has, no_list, rests_of, takes_attribute, takes_text}
use Rattle.rng_plain_matcher.specs.declared.first.First.{First}
use Rattle.rng_plain_matcher.specs.declared.first.First.TheVariants as firsts

-- the ways of a pattern to begin with it
abbrev pub ways_for : First → Simple ℕ → List Way
ways_for (firsts.Piece s) p = item_ways p
ways_for (firsts.Text s) p = item_ways p
ways_for (firsts.Attribute a) p = attribute_ways p

module _ (g : Reading) where
  -- a leaf takes it
  abbrev pub takes_first : First → Simple ℕ → Bool
  takes_first (firsts.Piece s) leaf = takes_text g (no_list g) s.now leaf
  takes_first (firsts.Text s) leaf = takes_text g (list_has g) s.now leaf
  takes_first (firsts.Attribute a) leaf = takes_attribute g (attribute_of a.now) leaf

  -- what is left after it
  abbrev pub after_first : First → Simple ℕ → Simple ℕ
  after_first first p = rests_of (takes_first first) (ways_for first p)
