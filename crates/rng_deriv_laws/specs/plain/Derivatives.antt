-- What is left of a pattern after an attribute, a string or a start tag. Patterns are built with the rules of 4.20
-- (notAllowed) and of 4.21 about empty. One function returns the ways to begin with an item: the leaves that may take
-- the first item, each with what is left after it. Another does the same for attributes.
use Rattle.std.specs.Prelude.{ℕ, List, [], ◌∷◌, ◌++◌, Bool, true, false, ◌||◌, ◌&&◌, cond, not}
use Rattle.rng_model.specs.names.Names.{Name}
use Rattle.rng_model.specs.simple.Tree.{Simple, Connector, choice, group, interleave, s_not_allowed, s_empty, s_text, s_leaf, s_attribute, s_list, s_data}
use Rattle.rng_model.specs.simple.Tree.{s_data_except}
use Rattle.rng_model.specs.simple.Tree.{s_value, s_one_or_more, s_joined}
use Rattle.rng_model.specs.matching.Document.{Attribute}
use Rattle.rng_model.specs.datatypes.Texts.{is_blank}
use Rattle.rng_names.specs.plain.Holding.{holds}
use Rattle.rng_model.specs.matching.GrammarMatching.{Reading}
use Rattle.rng_deriv_laws.specs.plain.Reading.{body_of, has_name}

-- ---- patterns that are built

-- the pattern needs no attribute and no item
abbrev pub is_nullable : Simple ℕ → Bool
is_nullable s_not_allowed = false
is_nullable s_empty = true
is_nullable s_text = true
is_nullable (s_leaf k) = false
is_nullable (s_attribute c p) = false
is_nullable (s_list p) = false
is_nullable (s_data d) = false
is_nullable (s_data_except d p) = false
is_nullable (s_value d v) = false
is_nullable (s_one_or_more p) = is_nullable p
is_nullable (s_joined choice p q) = is_nullable p || is_nullable q
is_nullable (s_joined group p q) = is_nullable p && is_nullable q
is_nullable (s_joined interleave p q) = is_nullable p && is_nullable q

abbrev pub is_not_allowed : Simple ℕ → Bool
is_not_allowed s_not_allowed = true
is_not_allowed s_empty = false
is_not_allowed s_text = false
is_not_allowed (s_leaf k) = false
is_not_allowed (s_attribute c p) = false
is_not_allowed (s_list p) = false
is_not_allowed (s_data d) = false
is_not_allowed (s_data_except d p) = false
is_not_allowed (s_value d v) = false
is_not_allowed (s_one_or_more p) = false
is_not_allowed (s_joined k p q) = false

-- the pattern contains a data, a value or a list, outside attributes: a string is tested by what it says
abbrev pub has_data : Simple ℕ → Bool
has_data s_not_allowed = false
has_data s_empty = false
has_data s_text = false
has_data (s_leaf k) = false
has_data (s_attribute c p) = false
has_data (s_list p) = true
has_data (s_data d) = true
has_data (s_data_except d p) = true
has_data (s_value d v) = true
has_data (s_one_or_more p) = has_data p
has_data (s_joined k p q) = has_data p || has_data q

abbrev pub is_empty : Simple ℕ → Bool
is_empty s_not_allowed = false
is_empty s_empty = true
is_empty s_text = false
is_empty (s_leaf k) = false
is_empty (s_attribute c p) = false
is_empty (s_list p) = false
is_empty (s_data d) = false
is_empty (s_data_except d p) = false
is_empty (s_value d v) = false
is_empty (s_one_or_more p) = false
is_empty (s_joined k p q) = false

abbrev pub choice_of : Simple ℕ → Simple ℕ → Simple ℕ
choice_of p q = cond (is_not_allowed p) q (cond (is_not_allowed q) p (s_joined choice p q))

-- a group or an interleave
abbrev pub joined_of : Connector → Simple ℕ → Simple ℕ → Simple ℕ
joined_of k p q =
    cond (is_not_allowed p) s_not_allowed (cond (is_not_allowed q) s_not_allowed (cond (is_empty p) q (cond (is_empty q) p (s_joined k p q))))

abbrev pub group_of : Simple ℕ → Simple ℕ → Simple ℕ
group_of = joined_of group

abbrev pub interleave_of : Simple ℕ → Simple ℕ → Simple ℕ
interleave_of = joined_of interleave

abbrev pub repeat_of : Simple ℕ → Simple ℕ
repeat_of p = cond (is_not_allowed p) s_not_allowed (cond (is_empty p) s_empty (s_one_or_more p))

-- the copies that may follow the first copy of a oneOrMore
abbrev pub more_of : Simple ℕ → Simple ℕ
more_of p = s_joined choice (s_one_or_more p) s_empty

abbrev pub group_before : Simple ℕ → Simple ℕ → Simple ℕ
group_before q r = group_of r q

abbrev pub interleave_before : Simple ℕ → Simple ℕ → Simple ℕ
interleave_before q r = interleave_of r q

-- ---- ways to begin

-- a leaf that takes the first item or attribute, and what is left after it
pub record Way : Type 0 where
  pub leaf : Simple ℕ
  pub rest : Simple ℕ

abbrev pub alone : Simple ℕ → List Way
alone p = record { leaf = p; rest = s_empty } ∷ []

-- the same leaves, with a function applied to what is left
abbrev pub behind : (Simple ℕ → Simple ℕ) → List Way → List Way
behind f [] = []
behind f (w ∷ ws) = record { leaf = w.leaf; rest = f w.rest } ∷ behind f ws

abbrev pub item_ways : Simple ℕ → List Way
item_ways s_not_allowed = []
item_ways s_empty = []
item_ways s_text = record { leaf = s_text; rest = s_text } ∷ []
item_ways (s_leaf k) = alone (s_leaf k)
item_ways (s_attribute c p) = []
item_ways (s_list p) = alone (s_list p)
item_ways (s_data d) = alone (s_data d)
item_ways (s_data_except d p) = alone (s_data_except d p)
item_ways (s_value d v) = alone (s_value d v)
item_ways (s_one_or_more p) = behind (group_before (more_of p)) (item_ways p)
item_ways (s_joined choice p q) = item_ways p ++ item_ways q
item_ways (s_joined group p q) = behind (group_before q) (item_ways p) ++ cond (is_nullable p) (item_ways q) []
item_ways (s_joined interleave p q) = behind (interleave_before q) (item_ways p) ++ behind (interleave_of p) (item_ways q)

abbrev pub attribute_ways : Simple ℕ → List Way
attribute_ways s_not_allowed = []
attribute_ways s_empty = []
attribute_ways s_text = []
attribute_ways (s_leaf k) = []
attribute_ways (s_attribute c p) = alone (s_attribute c p)
attribute_ways (s_list p) = []
attribute_ways (s_data d) = []
attribute_ways (s_data_except d p) = []
attribute_ways (s_value d v) = []
attribute_ways (s_one_or_more p) = behind (group_before (more_of p)) (attribute_ways p)
attribute_ways (s_joined choice p q) = attribute_ways p ++ attribute_ways q
attribute_ways (s_joined group p q) = behind (group_before q) (attribute_ways p) ++ behind (group_of p) (attribute_ways q)
attribute_ways (s_joined interleave p q) = behind (interleave_before q) (attribute_ways p) ++ behind (interleave_of p) (attribute_ways q)

-- a choice of what is left after the leaves that pass a test
abbrev pub rests_of : (Simple ℕ → Bool) → List Way → Simple ℕ
rests_of takes [] = s_not_allowed
rests_of takes (w ∷ ws) = choice_of (cond (takes w.leaf) w.rest s_not_allowed) (rests_of takes ws)

-- the pattern after all attributes of a tag: a part that still needs an attribute is notAllowed
abbrev pub closed : Simple ℕ → Simple ℕ
closed s_not_allowed = s_not_allowed
closed s_empty = s_empty
closed s_text = s_text
closed (s_leaf k) = s_leaf k
closed (s_attribute c p) = s_not_allowed
closed (s_list p) = s_list p
closed (s_data d) = s_data d
closed (s_data_except d p) = s_data_except d p
closed (s_value d v) = s_value d v
closed (s_one_or_more p) = repeat_of (closed p)
closed (s_joined choice p q) = choice_of (closed p) (closed q)
closed (s_joined group p q) = group_of (closed p) (closed q)
closed (s_joined interleave p q) = interleave_of (closed p) (closed q)

-- ---- tests of leaves

-- what is left of a pattern after a list of texts, one after another
abbrev pub in_turn : (Simple ℕ → List ℕ → Simple ℕ) → Simple ℕ → List (List ℕ) → Simple ℕ
in_turn next p [] = p
in_turn next p (s ∷ ss) = in_turn next (next p s) ss

module _ (g : Reading) where
  -- the except of a data has the text (section 6.2.8)
  abbrev pub is_excepted : Simple ℕ → List ℕ → Bool
  is_excepted s_not_allowed s = false
  is_excepted s_empty s = false
  is_excepted s_text s = false
  is_excepted (s_leaf k) s = false
  is_excepted (s_attribute c p) s = false
  is_excepted (s_list p) s = false
  is_excepted (s_data d) s = g.tests.allows d s
  is_excepted (s_data_except d p) s = g.tests.allows d s && not (is_excepted p s)
  is_excepted (s_value d v) s = g.tests.equals d v s
  is_excepted (s_one_or_more p) s = false
  is_excepted (s_joined choice p q) s = is_excepted p s || is_excepted q s
  is_excepted (s_joined group p q) s = false
  is_excepted (s_joined interleave p q) s = false

  -- a leaf takes the string, given a test `lists` for whether the body of a list has the pieces of a string
  abbrev pub takes_text : (Simple ℕ → List ℕ → Bool) → List ℕ → Simple ℕ → Bool
  takes_text lists s s_not_allowed = false
  takes_text lists s s_empty = false
  takes_text lists s s_text = true
  takes_text lists s (s_leaf k) = false
  takes_text lists s (s_attribute c p) = false
  takes_text lists s (s_list p) = lists p s
  takes_text lists s (s_data d) = g.tests.allows d s
  takes_text lists s (s_data_except d p) = g.tests.allows d s && not (is_excepted p s)
  takes_text lists s (s_value d v) = g.tests.equals d v s
  takes_text lists s (s_one_or_more p) = false
  takes_text lists s (s_joined k p q) = false

  abbrev pub after_string : (Simple ℕ → List ℕ → Bool) → Simple ℕ → List ℕ → Simple ℕ
  after_string lists p s = rests_of (takes_text lists s) (item_ways p)

  -- the test for a piece of a list, which has no list inside
  abbrev pub no_list : Simple ℕ → List ℕ → Bool
  no_list p s = false

  abbrev pub after_piece : Simple ℕ → List ℕ → Simple ℕ
  after_piece = after_string no_list

  -- the body of a list has the pieces of the text (section 6.2.10)
  abbrev pub list_has : Simple ℕ → List ℕ → Bool
  list_has p s = is_nullable (in_turn after_piece p (g.tests.pieces s))

  -- ---- derivatives

  -- what is left after a string
  abbrev pub after_text : Simple ℕ → List ℕ → Simple ℕ
  after_text = after_string list_has

  -- a string that is the only child, or the value of an attribute, weakly matches (section 6.2.7)
  abbrev pub has_text : Simple ℕ → List ℕ → Bool
  has_text p s = is_nullable (after_text p s) || (is_nullable p && is_blank s)

  -- a leaf takes the attribute
  abbrev pub takes_attribute : Attribute → Simple ℕ → Bool
  takes_attribute a s_not_allowed = false
  takes_attribute a s_empty = false
  takes_attribute a s_text = false
  takes_attribute a (s_leaf k) = false
  takes_attribute a (s_attribute c p) = holds c a.name && has_text p a.content
  takes_attribute a (s_list p) = false
  takes_attribute a (s_data d) = false
  takes_attribute a (s_data_except d p) = false
  takes_attribute a (s_value d v) = false
  takes_attribute a (s_one_or_more p) = false
  takes_attribute a (s_joined k p q) = false

  -- what is left after an attribute
  abbrev pub after_attribute : Simple ℕ → Attribute → Simple ℕ
  after_attribute p a = rests_of (takes_attribute a) (attribute_ways p)

  abbrev pub after_attributes : Simple ℕ → List Attribute → Simple ℕ
  after_attributes p [] = p
  after_attributes p (a ∷ xs) = after_attributes (after_attribute p a) xs

  -- the list with one more way if the leaf takes an element of this name: the body of the element, with what is left
  abbrev pub started : Simple ℕ → Simple ℕ → Name → List Way → List Way
  started s_not_allowed r q ws = ws
  started s_empty r q ws = ws
  started s_text r q ws = ws
  started (s_leaf k) r q ws = cond (has_name g k q) (record { leaf = body_of g k; rest = r } ∷ ws) ws
  started (s_attribute c p) r q ws = ws
  started (s_list p) r q ws = ws
  started (s_data d) r q ws = ws
  started (s_data_except d p) r q ws = ws
  started (s_value d v) r q ws = ws
  started (s_one_or_more p) r q ws = ws
  started (s_joined k p p') r q ws = ws

  -- the bodies of the leaves that take an element of this name, each with what is left after the element
  abbrev pub bodies_of : Name → List Way → List Way
  bodies_of q [] = []
  bodies_of q (w ∷ ws) = started w.leaf w.rest q (bodies_of q ws)

  -- the ways after a start of this name
  abbrev pub after_start : Simple ℕ → Name → List Way
  after_start p q = bodies_of q (item_ways p)
