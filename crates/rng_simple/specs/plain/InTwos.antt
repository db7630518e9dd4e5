-- Trees and name classes in twos: exactly the rules of sections 4.12 to 4.15 of the RELAX NG Specification are applied,
-- from the leaves up. Private contracts cite them; `IsRewritten` and `IsSimpleClassOf` of `rng_model` state what they
-- must return.
use Rattle.rng_model.specs.names.Names.{NameClass, any_name, any_except, ns_name, ns_except, name_is, one_of, NameClasses, no_classes, class_and}
use Rattle.rng_model.specs.simple.Tree.{Connector, choice, interleave}
use Rattle.rng_model.specs.simple.Tree.{Tree, not_allowed, empty, text, leaf, attribute, list, data_of, data_except, value, mixed, optional, zero_or_more, one_or_more}
use Rattle.rng_model.specs.simple.Tree.{joined, Trees, no_trees, tree_and}
use Rattle.rng_model.specs.simple.Tree.{Simple, s_not_allowed, s_empty, s_text, s_leaf, s_attribute, s_list, s_data, s_data_except, s_value, s_one_or_more, s_joined}

-- a name class with its members nested in twos from the left (4.12)
abbrev mutual
  pub nested : NameClass → NameClass
  nested any_name = any_name
  nested (any_except c) = any_except (nested c)
  nested (ns_name u) = ns_name u
  nested (ns_except u c) = ns_except u (nested c)
  nested (name_is n) = name_is n
  nested (one_of c d cs) = nested_after (one_of (nested c) (nested d) no_classes) cs

  -- a class, and the members after it
  pub nested_after : NameClass → NameClasses → NameClass
  nested_after c no_classes = c
  nested_after c (class_and d ds) = nested_after (one_of c (nested d) no_classes) ds

-- the tree with exactly the rules of 4.12 to 4.15 applied: members are nested in twos from the left, mixed is an
-- interleave with text, optional is a choice with empty, zeroOrMore is a choice of oneOrMore and empty
abbrev mutual
  pub in_twos : {L : Type 0} → Tree L → Simple L
  in_twos not_allowed = s_not_allowed
  in_twos empty = s_empty
  in_twos text = s_text
  in_twos (leaf l) = s_leaf l
  in_twos (attribute c a) = s_attribute (nested c) (in_twos a)
  in_twos (list a) = s_list (in_twos a)
  in_twos (data_of d) = s_data d
  in_twos (data_except d a) = s_data_except d (in_twos a)
  in_twos (value d v) = s_value d v
  in_twos (mixed a) = s_joined interleave (in_twos a) s_text
  in_twos (optional a) = s_joined choice (in_twos a) s_empty
  in_twos (zero_or_more a) = s_joined choice (s_one_or_more (in_twos a)) s_empty
  in_twos (one_or_more a) = s_one_or_more (in_twos a)
  in_twos (joined k a b ts) = more_in_twos k (s_joined k (in_twos a) (in_twos b)) ts

  -- what is nested already, and the members after it
  pub more_in_twos : {L : Type 0} → Connector → Simple L → Trees L → Simple L
  more_in_twos k s no_trees = s
  more_in_twos k s (tree_and a ts) = more_in_twos k (s_joined k s (in_twos a)) ts
