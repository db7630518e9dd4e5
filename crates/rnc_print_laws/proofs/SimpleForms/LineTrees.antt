-- What is written for a pattern has the pattern's tree, with its elements named by their lines.
use Rattle.std.proofs.Common.{◌≡◌, refl, sym, ap, subst, ℕ, ◌<◌, ◌^◌, List, [], ◌∷◌, length}
use Rattle.rng_model.specs.names.Lists.{Among, here}
use Rattle.rng_model.specs.simple.Tree.{Datatype, Tree, leaf, value, as_tree}
use Rattle.rng_model.specs.simple.Tree.{Simple, s_not_allowed, s_empty, s_text, s_leaf, s_attribute, s_list, s_data, s_data_except, s_value, s_one_or_more}
use Rattle.rng_model.specs.simple.Tree.{s_joined}
use Rattle.rng_model.specs.simple.Grammar.{Grammar}
use Rattle.rng_model.specs.simple.Leaves.{LeafIn}
use Rattle.rng_model.specs.simple.Leaves as at
use Rattle.rng_model.specs.schema.Patterns.{Position, Point, a_ref, pattern_tree, without_parameters}
use Rattle.rng_model.specs.schema.Schema.{Schema, main_start}
use Rattle.rng_model.specs.schema.Unfolding as u
use Rattle.rng_model.specs.schema.Unfolding.{Leaf, Unfolds, IsTreeOf, IsBodyOf}
use Rattle.rncv_model.specs.printed.Items.{PrintedItem, element, pattern, named_item, element_at, parts_of, IsItemsOf}
use Rattle.rncv_model.specs.printed.PrintedText.{item_name}
use Rattle.rng_simple.specs.plain.Renamed.{simple_renamed}
use Rattle.rnc_print_laws.specs.plain.LinesSchema.{flattened, reference_pattern, item_pattern, IsSchemaOfLines}
use Rattle.rnc_print_laws.proofs.Lines.ListedLines.{AreAmong, among_left, start_among, line_among}
use Rattle.rnc_print_laws.proofs.SimpleForms.FlattenedClasses.{with_flattened}
use Rattle.rnc_print_laws.proofs.Lines.LinesFound.{line_number, item_found, start_found}
use Rattle.rnc_print_laws.proofs.SimpleForms.GoodGrammars.{IsGoodTree}
use Rattle.rng_load.proofs.NameLists.{in_right}

pub plain_datatype : (d : Datatype) → d.parameters ≡ [] → without_parameters d.library d.name ≡ d
plain_datatype d e = ap (λ ps. record { library = d.library; name = d.name; parameters = ps }) (sym e)

module _ (g : Grammar) (items : List PrintedItem) where
  -- the element of this number, where its line puts it
  abbrev pub leaf_at : ℕ → Leaf
  leaf_at k = record {
    place = [];
    position = line_number items (element k) ∷ [];
    class = flattened (element_at g k).0;
    content = reference_pattern items (element_at g k).1;
  }

  -- the tree with its elements where their lines put them
  abbrev pub placed : Simple ℕ → Simple Leaf
  placed a = simple_renamed leaf_at a

  -- the same with classes as its lines show them
  abbrev pub line_tree_of : Simple ℕ → Tree Leaf
  line_tree_of a = as_tree (with_flattened (placed a))

  module _ (numbered : IsItemsOf g items) where
    -- the elements in a tree whose items have lines have lines too
    pub leaf_among : (a : Simple ℕ) (k : ℕ) → AreAmong items (named_item a) → LeafIn k (as_tree a) → Among (element k) items
    leaf_among s_not_allowed k h i = elim i [ ]
    leaf_among s_empty k h i = elim i [ ]
    leaf_among s_text k h i = elim i [ ]
    leaf_among (s_leaf l) k h at.here = h (element l) here
    leaf_among (s_attribute c a) k h (at.of_attribute i) =
        leaf_among a k (line_among g items numbered (pattern (s_attribute c a)) (h (pattern (s_attribute c a)) here)) i
    leaf_among (s_list a) k h (at.of_list i) = leaf_among a k (line_among g items numbered (pattern (s_list a)) (h (pattern (s_list a)) here)) i
    leaf_among (s_data d) k h i = elim i [ ]
    leaf_among (s_data_except d a) k h (at.of_except i) =
        leaf_among a k (line_among g items numbered (pattern (s_data_except d a)) (h (pattern (s_data_except d a)) here)) i
    leaf_among (s_value d v) k h i = elim i [ ]
    leaf_among (s_one_or_more a) k h (at.of_one_or_more i) =
        leaf_among a k (line_among g items numbered (pattern (s_one_or_more a)) (h (pattern (s_one_or_more a)) here)) i
    leaf_among (s_joined m a b) k h (at.of_first i) =
        let p = line_among g items numbered (pattern (s_joined m a b)) (h (pattern (s_joined m a b)) here) in
        leaf_among a k (λ j c. p j (among_left (named_item b) c)) i
    leaf_among (s_joined m a b) k h (at.of_second i) =
        let p = line_among g items numbered (pattern (s_joined m a b)) (h (pattern (s_joined m a b)) here) in
        leaf_among b k (λ j c. p j (in_right (named_item a) c)) i
    leaf_among (s_joined m a b) k h (at.of_others i) = elim i [ ]

    module _ (few : length items < 2 ^ 64) (r : Schema) (lines : IsSchemaOfLines g items r) where
      abbrev line_of : PrintedItem → Tree Point
      line_of i = pattern_tree (line_number items i ∷ []) (item_pattern g items i)

      -- a name has the tree of its line
      through : (i : PrintedItem) (t : Tree Leaf) → Among i items → Unfolds r [] (line_of i) t → Unfolds r [] (leaf (a_ref (item_name items i))) t
      through i t a d = u.found refl (item_found g items numbered few r lines i a) d

      parts_among : (a : Simple ℕ) → Among (pattern a) items → AreAmong items (parts_of a)
      parts_among a b = line_among g items numbered (pattern a) b

      module _ (n : ℕ) where
        pub reference_unfolds : (a : Simple ℕ) (x : Position) → IsGoodTree n a → AreAmong items (named_item a)
            → Unfolds r [] (pattern_tree x (reference_pattern items a)) (line_tree_of a)
        reference_unfolds s_not_allowed x f h = u.not_allowed_is
        reference_unfolds s_empty x f h = u.empty_is
        reference_unfolds s_text x f h = u.text_is
        reference_unfolds (s_leaf k) x f h = through (element k) (leaf (leaf_at k)) (h (element k) here) (u.element_is refl)
        reference_unfolds (s_attribute c a) x f h =
            let i = pattern (s_attribute c a) in
            through i (line_tree_of (s_attribute c a)) (h i here) (u.attribute_is (reference_unfolds a _ f.1 (parts_among (s_attribute c a) (h i here))))
        reference_unfolds (s_list a) x f h =
            let i = pattern (s_list a) in
            through i (line_tree_of (s_list a)) (h i here) (u.list_is (reference_unfolds a _ f (parts_among (s_list a) (h i here))))
        reference_unfolds (s_data d) x f h = u.data_is
        reference_unfolds (s_data_except d a) x f h =
            let i = pattern (s_data_except d a) in
            through i (line_tree_of (s_data_except d a)) (h i here) (u.except_is (reference_unfolds a _ f.1 (parts_among (s_data_except d a) (h i here))))
        reference_unfolds (s_value d v) x f h =
            subst (λ (e : Datatype). Unfolds r [] (value (without_parameters d.library d.name) v) (value e v)) (plain_datatype d f.0) u.value_is
        reference_unfolds (s_one_or_more a) x f h =
            let i = pattern (s_one_or_more a) in
            through i (line_tree_of (s_one_or_more a)) (h i here) (u.one_or_more_is (reference_unfolds a _ f (parts_among (s_one_or_more a) (h i here))))
        reference_unfolds (s_joined k a b) x f h =
            let i = pattern (s_joined k a b) in
            let p = parts_among (s_joined k a b) (h i here) in
            through i (line_tree_of (s_joined k a b)) (h i here)
            (u.joined_is (reference_unfolds a _ f.0 (λ j c. p j (among_left (named_item b) c)))
            (reference_unfolds b _ f.1.0 (λ j c. p j (in_right (named_item a) c))) u.none_is)

        -- the start has its tree, and the body of an element has its own
        pub start_tree_is : IsGoodTree n g.start → IsTreeOf r (main_start r) (line_tree_of g.start)
        start_tree_is f = (
          pattern_tree (0 ∷ []) (reference_pattern items g.start),
          start_found g items numbered few r lines,
          subst (λ x. Unfolds r x (pattern_tree (0 ∷ []) (reference_pattern items g.start)) (line_tree_of g.start)) (sym lines.main)
              (reference_unfolds g.start (0 ∷ []) f (start_among g items numbered)),
        )

        pub body_tree_is : (k : ℕ) → IsGoodTree n (element_at g k).1 → Among (element k) items → IsBodyOf r (leaf_at k) (line_tree_of (element_at g k).1)
        body_tree_is k f a = reference_unfolds (element_at g k).1 _ f (line_among g items numbered (element k) a)
