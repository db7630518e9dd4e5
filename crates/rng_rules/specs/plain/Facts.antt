-- What is known of a pattern without looking into it again.
use Rattle.std.specs.Prelude.{◌≡◌, ℕ, List, Option, Some, None, Bool, true, false, ◌&&◌, ◌||◌, slice_get}
use Rattle.rng_model.specs.names.Names.{NameClass, NameClasses, any_name, any_except, ns_name, ns_except, name_is, one_of, no_classes, class_and}
use Rattle.rng_model.specs.restrictions.Contents as model
use Rattle.rng_model.specs.restrictions.Contents.{empty_content, complex_content, simple_content}
use Rattle.rng_model.specs.simple.Grammar.{kind_of}
use Rattle.rng_model.specs.simple.Tree as tree
use Rattle.rng_model.specs.simple.Tree.{Simple, s_not_allowed, s_empty, s_text, s_leaf, s_attribute, s_list, s_data, s_data_except, s_value}
use Rattle.rng_model.specs.simple.Tree.{s_one_or_more, s_joined}
use Rattle.rng_model.specs.declared.simple.PatternId.{PatternId}
use Rattle.rng_rules.specs.plain.Kinds.{is_attribute, is_one_or_more, is_list, is_data, is_between, is_barred_from_attribute, is_barred_from_list}
use Rattle.rng_rules.specs.plain.Kinds.{is_barred_from_except, is_barred_from_start, is_not_allowed}
use Rattle.rng_rules.specs.declared.content.ContentType.{ContentType}
use Rattle.rng_rules.specs.declared.content.ContentType.TheVariants as content
use Rattle.rng_rules.specs.declared.facts.Facts.{Facts}
use Rattle.rng_rules.specs.declared.held.Held.{Held}

-- ---- tests of what a pattern contains

module _ {L : Type 0} where
  -- the test passes for something inside the pattern
  abbrev pub inside : (Simple L → Bool) → Simple L → Bool
  inside test s_not_allowed = false
  inside test s_empty = false
  inside test s_text = false
  inside test (s_leaf l) = false
  inside test (s_attribute c p) = test p || inside test p
  inside test (s_list p) = test p || inside test p
  inside test (s_data d) = false
  inside test (s_data_except d p) = test p || inside test p
  inside test (s_value d v) = false
  inside test (s_one_or_more p) = test p || inside test p
  inside test (s_joined k p q) = (test p || inside test p) || (test q || inside test q)

  -- the test passes for the pattern, or for something inside it
  abbrev pub somewhere : (Simple L → Bool) → Simple L → Bool
  somewhere test p = test p || inside test p

  abbrev pub attribute_test : Simple L → Bool
  attribute_test p = is_attribute (kind_of p)

  abbrev pub barred_from_attribute : Simple L → Bool
  barred_from_attribute p = is_barred_from_attribute (kind_of p)

  abbrev pub barred_from_list : Simple L → Bool
  barred_from_list p = is_barred_from_list (kind_of p)

  abbrev pub barred_from_except : Simple L → Bool
  barred_from_except p = is_barred_from_except (kind_of p)

  abbrev pub barred_from_start : Simple L → Bool
  barred_from_start p = is_barred_from_start (kind_of p)

  -- a group or an interleave that contains an attribute
  abbrev pub joins_attribute : Simple L → Bool
  joins_attribute p = is_between (kind_of p) && inside attribute_test p

  -- an attribute that contains what is not allowed there
  abbrev pub bad_attribute : Simple L → Bool
  bad_attribute p = is_attribute (kind_of p) && inside barred_from_attribute p

  -- a oneOrMore that contains a group or an interleave that contains an attribute
  abbrev pub bad_one_or_more : Simple L → Bool
  bad_one_or_more p = is_one_or_more (kind_of p) && inside joins_attribute p

  -- a list that contains what is not allowed there
  abbrev pub bad_list : Simple L → Bool
  bad_list p = is_list (kind_of p) && inside barred_from_list p

  -- a datatype whose except contains what is not allowed there
  abbrev pub bad_except : Simple L → Bool
  bad_except p = is_data (kind_of p) && inside barred_from_except p

  abbrev pub held_in : Simple L → Held
  held_in p = record {
    attribute = somewhere attribute_test p;
    joined_attribute = somewhere joins_attribute p;
    barred_from_attribute = somewhere barred_from_attribute p;
    barred_from_list = somewhere barred_from_list p;
    barred_from_except = somewhere barred_from_except p;
    barred_from_start = somewhere barred_from_start p;
    breaks_attribute = somewhere bad_attribute p;
    breaks_one_or_more = somewhere bad_one_or_more p;
    breaks_list = somewhere bad_list p;
    breaks_except = somewhere bad_except p;
  }

abbrev pub nothing_held : Held
nothing_held = record {
  attribute = false;
  joined_attribute = false;
  barred_from_attribute = false;
  barred_from_list = false;
  barred_from_except = false;
  barred_from_start = false;
  breaks_attribute = false;
  breaks_one_or_more = false;
  breaks_list = false;
  breaks_except = false;
}

-- ---- content types

abbrev pub content_seen : ContentType → model.ContentType
content_seen content.Empty = empty_content
content_seen content.Complex = complex_content
content_seen content.Simple = simple_content

abbrev pub greater : ContentType → ContentType → ContentType
greater content.Empty t = t
greater content.Complex content.Simple = content.Simple
greater content.Complex _ = content.Complex
greater content.Simple t = content.Simple

-- the greater of two
abbrev pub of_either : Option ContentType → Option ContentType → Option ContentType
of_either (Some t) (Some u) = Some (greater t u)
of_either _ _ = None

-- the greater of two, if they may be grouped
abbrev pub groupable : ContentType → ContentType → Option ContentType
groupable content.Empty t = Some t
groupable t content.Empty = Some t
groupable content.Complex content.Complex = Some content.Complex
groupable _ _ = None

abbrev pub of_both : Option ContentType → Option ContentType → Option ContentType
of_both (Some t) (Some u) = groupable t u
of_both _ _ = None

-- an attribute has a content type if its content has one
abbrev pub of_attribute : Option ContentType → Option ContentType
of_attribute (Some t) = Some content.Empty
of_attribute None = None

abbrev pub of_sides : tree.Connector → Option ContentType → Option ContentType → Option ContentType
of_sides tree.choice t u = of_either t u
of_sides tree.group t u = of_both t u
of_sides tree.interleave t u = of_both t u

module _ {L : Type 0} where
  abbrev pub content_of : Simple L → Option ContentType
  content_of s_not_allowed = None
  content_of s_empty = Some content.Empty
  content_of s_text = Some content.Complex
  content_of (s_leaf l) = Some content.Complex
  content_of (s_attribute c p) = of_attribute (content_of p)
  content_of (s_list p) = Some content.Simple
  content_of (s_data d) = Some content.Simple
  content_of (s_data_except d p) = Some content.Simple
  content_of (s_value d v) = Some content.Simple
  content_of (s_one_or_more p) = of_both (content_of p) (content_of p)
  content_of (s_joined k p q) = of_sides k (content_of p) (content_of q)

-- ---- wildcards and text

abbrev mutual
  pub has_wildcard : NameClass → Bool
  has_wildcard any_name = true
  has_wildcard (any_except c) = true
  has_wildcard (ns_name u) = true
  has_wildcard (ns_except u c) = true
  has_wildcard (name_is n) = false
  has_wildcard (one_of c d cs) = has_wildcard c || (has_wildcard d || have_wildcard cs)

  pub have_wildcard : NameClasses → Bool
  have_wildcard no_classes = false
  have_wildcard (class_and c cs) = has_wildcard c || have_wildcard cs

module _ {L : Type 0} where
  -- an attribute with a wildcard, outside every oneOrMore
  abbrev pub unrepeated_wildcard : Simple L → Bool
  unrepeated_wildcard s_not_allowed = false
  unrepeated_wildcard s_empty = false
  unrepeated_wildcard s_text = false
  unrepeated_wildcard (s_leaf l) = false
  unrepeated_wildcard (s_attribute c p) = has_wildcard c || unrepeated_wildcard p
  unrepeated_wildcard (s_list p) = unrepeated_wildcard p
  unrepeated_wildcard (s_data d) = false
  unrepeated_wildcard (s_data_except d p) = unrepeated_wildcard p
  unrepeated_wildcard (s_value d v) = false
  unrepeated_wildcard (s_one_or_more p) = false
  unrepeated_wildcard (s_joined k p q) = unrepeated_wildcard p || unrepeated_wildcard q

  abbrev pub text_occurs : Simple L → Bool
  text_occurs s_not_allowed = false
  text_occurs s_empty = false
  text_occurs s_text = true
  text_occurs (s_leaf l) = false
  text_occurs (s_attribute c p) = false
  text_occurs (s_list p) = false
  text_occurs (s_data d) = false
  text_occurs (s_data_except d p) = false
  text_occurs (s_value d v) = false
  text_occurs (s_one_or_more p) = text_occurs p
  text_occurs (s_joined k p q) = text_occurs p || text_occurs q

  -- an interleave with text on both sides
  abbrev pub bad_text : Simple L → Bool
  bad_text (s_joined tree.interleave p q) = text_occurs p && text_occurs q
  bad_text _ = false

  -- ---- all of them

  unfoldable pub facts_of : Simple L → Facts
  facts_of p = record {
    held = held_in p;
    not_allowed = is_not_allowed (kind_of p);
    content = content_of p;
    unrepeated_wildcard = unrepeated_wildcard p;
    text_occurs = text_occurs p;
    breaks_text = somewhere bad_text p;
  }

-- a table has the facts of the pattern at each of its positions
abbrev pub HasFacts : (PatternId → Simple ℕ) → List Facts → Type 0
HasFacts of facts = (id : PatternId) (f : Facts) → slice_get facts id.0 ≡ Some f → f ≡ facts_of (of id)
