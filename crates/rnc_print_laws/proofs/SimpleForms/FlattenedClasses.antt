-- A name class with its first members taken apart nests to the same class. The same holds for each class in a tree.
use Rattle.std.proofs.Common.{◌≡◌, ◌∙◌, refl, ap, ap₂, List, ◌∷◌, ◌++◌}
use Rattle.rng_model.specs.names.Names.{NameClass, any_name, any_except, ns_name, ns_except, name_is, one_of, NameClasses, no_classes, class_and, class_list}
use Rattle.rng_model.specs.names.Names.{some_of}
use Rattle.rng_model.specs.simple.Tree.{Simple, s_not_allowed, s_empty, s_text, s_leaf, s_attribute, s_list, s_data, s_data_except, s_value, s_one_or_more}
use Rattle.rng_model.specs.simple.Tree.{s_joined}
use Rattle.rng_model.specs.simple.Tree.{as_tree}
use Rattle.rng_model.specs.simple.Leaves.{LeafIn}
use Rattle.rng_model.specs.simple.Leaves as at
use Rattle.rng_simple.specs.plain.InTwos.{nested, nested_after, in_twos}
use Rattle.rng_simple.specs.plain.SimpleOf.{sort_of, attribute_by, list_by, except_by, join, some_of as repeated, simple_of, join_all}
use Rattle.rnc_print_laws.specs.plain.LinesSchema.{list_of, members_in, flattened, all_flattened}

-- one class more after members, followed by others
after_members : (e : NameClass) (cs : NameClasses) (x : NameClass) (xs : List NameClass)
    → nested_after e (class_list (list_of cs ++ x ∷ xs)) ≡ nested_after (one_of (nested_after e cs) (nested x) no_classes) (class_list xs)
after_members e no_classes x xs = refl
after_members e (class_and d ds) x xs = after_members (one_of e (nested d) no_classes) ds x xs

nested_members : (c x : NameClass) (xs : List NameClass)
    → nested (some_of (members_in c ++ x ∷ xs)) ≡ nested_after (one_of (nested c) (nested x) no_classes) (class_list xs)
nested_members any_name x xs = refl
nested_members (any_except c) x xs = refl
nested_members (ns_name u) x xs = refl
nested_members (ns_except u c) x xs = refl
nested_members (name_is n) x xs = refl
nested_members (one_of c d cs) x xs = after_members (one_of (nested c) (nested d) no_classes) cs x xs

mutual
  pub nested_flattened : (c : NameClass) → nested (flattened c) ≡ nested c
  nested_flattened any_name = refl
  nested_flattened (any_except c) = ap any_except (nested_flattened c)
  nested_flattened (ns_name u) = refl
  nested_flattened (ns_except u c) = ap (ns_except u) (nested_flattened c)
  nested_flattened (name_is n) = refl
  nested_flattened (one_of c d cs) =
      nested_members (flattened c) (flattened d) (all_flattened cs)
      ∙ ap₂ (λ a b. nested_after (one_of a b no_classes) (class_list (all_flattened cs))) (nested_flattened c) (nested_flattened d)
      ∙ after_flattened cs (one_of (nested c) (nested d) no_classes)

  after_flattened : (cs : NameClasses) (e : NameClass) → nested_after e (class_list (all_flattened cs)) ≡ nested_after e cs
  after_flattened no_classes e = refl
  after_flattened (class_and c cs) e =
      ap (λ a. nested_after (one_of e a no_classes) (class_list (all_flattened cs))) (nested_flattened c) ∙ after_flattened cs (one_of e (nested c) no_classes)

module _ {L : Type 0} where
  -- the tree with classes as its lines show them
  abbrev pub with_flattened : Simple L → Simple L
  with_flattened s_not_allowed = s_not_allowed
  with_flattened s_empty = s_empty
  with_flattened s_text = s_text
  with_flattened (s_leaf l) = s_leaf l
  with_flattened (s_attribute c a) = s_attribute (flattened c) (with_flattened a)
  with_flattened (s_list a) = s_list (with_flattened a)
  with_flattened (s_data d) = s_data d
  with_flattened (s_data_except d a) = s_data_except d (with_flattened a)
  with_flattened (s_value d v) = s_value d v
  with_flattened (s_one_or_more a) = s_one_or_more (with_flattened a)
  with_flattened (s_joined k a b) = s_joined k (with_flattened a) (with_flattened b)

  pub simple_flattened : (a : Simple L) → simple_of (as_tree (with_flattened a)) ≡ simple_of (as_tree a)
  unfolding simple_of join_all
  simple_flattened s_not_allowed = refl
  simple_flattened s_empty = refl
  simple_flattened s_text = refl
  simple_flattened (s_leaf l) = refl
  simple_flattened (s_attribute c a) = ap₂ (λ (d : NameClass) (s : Simple L). attribute_by (sort_of s) d s) (nested_flattened c) (simple_flattened a)
  simple_flattened (s_list a) = ap (λ (s : Simple L). list_by (sort_of s) s) (simple_flattened a)
  simple_flattened (s_data d) = refl
  simple_flattened (s_data_except d a) = ap (λ (s : Simple L). except_by (sort_of s) d s) (simple_flattened a)
  simple_flattened (s_value d v) = refl
  simple_flattened (s_one_or_more a) = ap repeated (simple_flattened a)
  simple_flattened (s_joined k a b) = ap₂ (join k) (simple_flattened a) (simple_flattened b)

  pub twos_flattened : (a : Simple L) → in_twos (as_tree (with_flattened a)) ≡ in_twos (as_tree a)
  twos_flattened s_not_allowed = refl
  twos_flattened s_empty = refl
  twos_flattened s_text = refl
  twos_flattened (s_leaf l) = refl
  twos_flattened (s_attribute c a) = ap₂ s_attribute (nested_flattened c) (twos_flattened a)
  twos_flattened (s_list a) = ap s_list (twos_flattened a)
  twos_flattened (s_data d) = refl
  twos_flattened (s_data_except d a) = ap (s_data_except d) (twos_flattened a)
  twos_flattened (s_value d v) = refl
  twos_flattened (s_one_or_more a) = ap s_one_or_more (twos_flattened a)
  twos_flattened (s_joined k a b) = ap₂ (s_joined k) (twos_flattened a) (twos_flattened b)

  pub leaves_flattened : (l : L) (a : Simple L) → LeafIn l (as_tree (with_flattened a)) → LeafIn l (as_tree a)
  leaves_flattened l s_not_allowed i = i
  leaves_flattened l s_empty i = i
  leaves_flattened l s_text i = i
  leaves_flattened l (s_leaf m) i = i
  leaves_flattened l (s_attribute c a) (at.of_attribute i) = at.of_attribute (leaves_flattened l a i)
  leaves_flattened l (s_list a) (at.of_list i) = at.of_list (leaves_flattened l a i)
  leaves_flattened l (s_data d) i = i
  leaves_flattened l (s_data_except d a) (at.of_except i) = at.of_except (leaves_flattened l a i)
  leaves_flattened l (s_value d v) i = i
  leaves_flattened l (s_one_or_more a) (at.of_one_or_more i) = at.of_one_or_more (leaves_flattened l a i)
  leaves_flattened l (s_joined k a b) (at.of_first i) = at.of_first (leaves_flattened l a i)
  leaves_flattened l (s_joined k a b) (at.of_second i) = at.of_second (leaves_flattened l b i)
  leaves_flattened l (s_joined k a b) (at.of_others i) = elim i [ ]
