-- The kinds of pattern in the simple syntax, which patterns are inside a pattern, and grammars (RELAX NG Specification,
-- section 5).
use Rattle.std.specs.Prelude.{◌≢◌, ⊤, ℕ, List}
use Rattle.rng_model.specs.names.Names.{NameClass}
use Rattle.rng_model.specs.simple.Tree as tree
use Rattle.rng_model.specs.simple.Tree.{Connector, Simple, s_not_allowed, s_empty, s_text, s_leaf, s_attribute, s_list, s_data, s_data_except, s_value}
use Rattle.rng_model.specs.simple.Tree.{s_one_or_more, s_joined}

pub data Kind : Type 0 where
  not_allowed_kind : Kind
  empty_kind : Kind
  text_kind : Kind
  ref_kind : Kind
  attribute_kind : Kind
  list_kind : Kind
  data_kind : Kind
  value_kind : Kind
  one_or_more_kind : Kind
  choice_kind : Kind
  group_kind : Kind
  interleave_kind : Kind

abbrev pub kind_between : Connector → Kind
kind_between tree.choice = choice_kind
kind_between tree.group = group_kind
kind_between tree.interleave = interleave_kind

-- choice, group, interleave and oneOrMore
pub data IsTransparent : Kind → Type 0 where
  choice_is : IsTransparent choice_kind
  group_is : IsTransparent group_kind
  interleave_is : IsTransparent interleave_kind
  one_or_more_is : IsTransparent one_or_more_kind

module _ {L : Type 0} where
  -- a leaf is a ref to an element
  abbrev pub kind_of : Simple L → Kind
  kind_of s_not_allowed = not_allowed_kind
  kind_of s_empty = empty_kind
  kind_of s_text = text_kind
  kind_of (s_leaf l) = ref_kind
  kind_of (s_attribute c p) = attribute_kind
  kind_of (s_list p) = list_kind
  kind_of (s_data d) = data_kind
  kind_of (s_data_except d p) = data_kind
  kind_of (s_value d v) = value_kind
  kind_of (s_one_or_more p) = one_or_more_kind
  kind_of (s_joined k p q) = kind_between k

  -- q is a child of p; a ref has none, since the body after it is another pattern
  pub data IsChild (q : Simple L) : Simple L → Type 0 where
    of_attribute : {c : NameClass} → IsChild q (s_attribute c q)
    of_list : IsChild q (s_list q)
    of_except : {d : tree.Datatype} → IsChild q (s_data_except d q)
    of_one_or_more : IsChild q (s_one_or_more q)
    of_left : {k : Connector} {r : Simple L} → IsChild q (s_joined k q r)
    of_right : {k : Connector} {r : Simple L} → IsChild q (s_joined k r q)

  -- q is p, or inside p, and each pattern around q is of such a kind, p included
  pub data Through (IsSuch : Kind → Type 0) (q : Simple L) : Simple L → Type 0 where
    itself : Through IsSuch q q
    below : {p r : Simple L} → IsSuch (kind_of p) → IsChild r p → Through IsSuch q r → Through IsSuch q p

  -- q is p, or inside p
  abbrev pub StandsIn : Simple L → Simple L → Type 0
  StandsIn q p = Through (λ k. ⊤) q p

  -- q is inside p
  abbrev pub Inside : Simple L → Simple L → Type 0
  Inside q p = (r : Simple L) × IsChild r p × StandsIn q r

  -- q is p, or inside p and not inside a oneOrMore
  abbrev pub StandsUnrepeated : Simple L → Simple L → Type 0
  StandsUnrepeated q p = Through (λ k. k ≢ one_or_more_kind) q p

  -- q occurs in p: only through choices, groups, interleaves and oneOrMores (RELAX NG Specification, section 7.3)
  abbrev pub OccursIn : Simple L → Simple L → Type 0
  OccursIn q p = Through IsTransparent q p

-- a start, and the class and the body of each element; a leaf is the number of an element
pub record Grammar : Type 0 where
  pub start : Simple ℕ
  pub elements : List (NameClass × Simple ℕ)
