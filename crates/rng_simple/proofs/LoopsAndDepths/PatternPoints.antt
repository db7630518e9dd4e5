-- A tree and the trees of the points of its pattern.
use Rattle.std.proofs.Common.{◌≡◌, subst, Some, ◌⊎◌, inl, inr}
use Rattle.rng_model.specs.simple.Tree.{Tree, not_allowed, empty, text, leaf, attribute, list, data_of, data_except, value, mixed, optional, zero_or_more}
use Rattle.rng_model.specs.simple.Tree.{one_or_more, joined, Trees, no_trees, tree_and}
use Rattle.rng_model.specs.schema.Patterns.{Place, Point}
use Rattle.rng_model.specs.schema.Schema.{Schema, Definition, body}
use Rattle.rng_model.specs.simple.Leaves.{LeafIn, LeafAmong}
use Rattle.rng_model.specs.simple.Leaves as at
use Rattle.rng_model.specs.schema.Unfolding.{Leaf, Aim, to_element, to_definition, aim, Unfolds, UnfoldAll}
use Rattle.rng_simple.specs.plain.Expansion.{HasTree}
use Rattle.rng_model.specs.schema.Unfolding as u

pub mapped : {A B C : Type 0} → (A → C) → A ⊎ B → C ⊎ B
mapped f (inl a) = inl (f a)
mapped f (inr b) = inr b

pub bound : {A B C : Type 0} → (A → C ⊎ B) → A ⊎ B → C ⊎ B
bound f (inl a) = f a
bound f (inr b) = inr b

-- a leaf has no other leaf
pub only_leaf : {L : Type 0} (P : L → Type 0) {q : L} → P q → (p : L) → LeafIn p (leaf q) → P p
only_leaf P h p at.here = h

-- a pattern has a tree if each of its points has one
module _ (s : Schema) (x : Place) (B : Type 0) where
  mutual
    pub tree_or : (a : Tree Point) → ((l : Point) → LeafIn l a → HasTree s x (leaf l) ⊎ B) → HasTree s x a ⊎ B
    tree_or not_allowed f = inl (not_allowed, u.not_allowed_is)
    tree_or empty f = inl (empty, u.empty_is)
    tree_or text f = inl (text, u.text_is)
    tree_or (leaf l) f = f l at.here
    tree_or (attribute c a) f = mapped (λ t. (attribute c t.0, u.attribute_is t.1)) (tree_or a (λ l i. f l (at.of_attribute i)))
    tree_or (list a) f = mapped (λ t. (list t.0, u.list_is t.1)) (tree_or a (λ l i. f l (at.of_list i)))
    tree_or (data_of d) f = inl (data_of d, u.data_is)
    tree_or (data_except d a) f = mapped (λ t. (data_except d t.0, u.except_is t.1)) (tree_or a (λ l i. f l (at.of_except i)))
    tree_or (value d v) f = inl (value d v, u.value_is)
    tree_or (mixed a) f = mapped (λ t. (mixed t.0, u.mixed_is t.1)) (tree_or a (λ l i. f l (at.of_mixed i)))
    tree_or (optional a) f = mapped (λ t. (optional t.0, u.optional_is t.1)) (tree_or a (λ l i. f l (at.of_optional i)))
    tree_or (zero_or_more a) f = mapped (λ t. (zero_or_more t.0, u.zero_or_more_is t.1)) (tree_or a (λ l i. f l (at.of_zero_or_more i)))
    tree_or (one_or_more a) f = mapped (λ t. (one_or_more t.0, u.one_or_more_is t.1)) (tree_or a (λ l i. f l (at.of_one_or_more i)))
    tree_or (joined k a b ts) f =
        bound (λ t. bound (λ v. mapped (λ w. (joined k t.0 v.0 w.0, u.joined_is t.1 v.1 w.1)) (trees_or ts (λ l i. f l (at.of_others i))))
        (tree_or b (λ l i. f l (at.of_second i)))) (tree_or a (λ l i. f l (at.of_first i)))

    trees_or : (ts : Trees Point) → ((l : Point) → LeafAmong l ts → HasTree s x (leaf l) ⊎ B) → ((us : Trees Leaf) × UnfoldAll s x ts us) ⊎ B
    trees_or no_trees f = inl (no_trees, u.none_is)
    trees_or (tree_and a ts) f =
        bound (λ t. mapped (λ w. (tree_and t.0 w.0, u.more_are t.1 w.1)) (trees_or ts (λ l i. f l (at.in_later i)))) (tree_or a (λ l i. f l (at.in_this i)))

-- the tree of a point within the tree of its pattern
pub record IsWithin (s : Schema) (x : Place) (l : Point) (P : Leaf → Type 0) : Type 0 where
  pub tree : Tree Leaf
  pub unfolds : Unfolds s x (leaf l) tree
  pub leaves : (m : Leaf) → LeafIn m tree → P m

abbrev wider : {s : Schema} {x : Place} {l : Point} {P Q : Leaf → Type 0} → ((m : Leaf) → P m → Q m) → IsWithin s x l P → IsWithin s x l Q
wider f w = record { tree = w.tree; unfolds = w.unfolds; leaves = λ m i. f m (w.leaves m i) }

module _ (s : Schema) where
  mutual
    pub point_tree : {x : Place} {a : Tree Point} {t : Tree Leaf} {l : Point} → LeafIn l a → Unfolds s x a t → IsWithin s x l (λ m. LeafIn m t)
    point_tree at.here d = record { tree = _; unfolds = d; leaves = λ m i. i }
    point_tree (at.of_attribute i) (u.attribute_is d) = wider (λ m j. at.of_attribute j) (point_tree i d)
    point_tree (at.of_list i) (u.list_is d) = wider (λ m j. at.of_list j) (point_tree i d)
    point_tree (at.of_except i) (u.except_is d) = wider (λ m j. at.of_except j) (point_tree i d)
    point_tree (at.of_mixed i) (u.mixed_is d) = wider (λ m j. at.of_mixed j) (point_tree i d)
    point_tree (at.of_optional i) (u.optional_is d) = wider (λ m j. at.of_optional j) (point_tree i d)
    point_tree (at.of_zero_or_more i) (u.zero_or_more_is d) = wider (λ m j. at.of_zero_or_more j) (point_tree i d)
    point_tree (at.of_one_or_more i) (u.one_or_more_is d) = wider (λ m j. at.of_one_or_more j) (point_tree i d)
    point_tree (at.of_first i) (u.joined_is d e es) = wider (λ m j. at.of_first j) (point_tree i d)
    point_tree (at.of_second i) (u.joined_is d e es) = wider (λ m j. at.of_second j) (point_tree i e)
    point_tree (at.of_others i) (u.joined_is d e es) = wider (λ m j. at.of_others j) (point_tree_among i es)

    point_tree_among : {x : Place} {ts : Trees Point} {us : Trees Leaf} {l : Point} → LeafAmong l ts → UnfoldAll s x ts us
        → IsWithin s x l (λ m. LeafAmong m us)
    point_tree_among (at.in_this i) (u.more_are d es) = wider (λ m j. at.in_this j) (point_tree i d)
    point_tree_among (at.in_later i) (u.more_are d es) = wider (λ m j. at.in_later j) (point_tree_among i es)

-- a property of the points that passes from a definition to the points of its body holds for the leaves of the tree
module _ (s : Schema) (C : Aim → Type 0)
    (goes_on : (d : Definition) (a : Tree Point) (l : Point) → C (to_definition d) → body s d ≡ Some a → LeafIn l a → C (aim s d.place l)) where
  mutual
    pub inside : {x : Place} {a : Tree Point} {t : Tree Leaf} {m : Leaf} → Unfolds s x a t → ((l : Point) → LeafIn l a → C (aim s x l)) → LeafIn m t
        → C (to_element m)
    inside (u.element_is e) f at.here = subst C e (f _ at.here)
    inside (u.found {d = d} e b v) f i = inside v (λ l j. goes_on d _ l (subst C e (f _ at.here)) b j) i
    inside u.not_allowed_is f i = elim i [ ]
    inside u.empty_is f i = elim i [ ]
    inside u.text_is f i = elim i [ ]
    inside u.data_is f i = elim i [ ]
    inside u.value_is f i = elim i [ ]
    inside (u.attribute_is d) f (at.of_attribute i) = inside d (λ l j. f l (at.of_attribute j)) i
    inside (u.list_is d) f (at.of_list i) = inside d (λ l j. f l (at.of_list j)) i
    inside (u.except_is d) f (at.of_except i) = inside d (λ l j. f l (at.of_except j)) i
    inside (u.mixed_is d) f (at.of_mixed i) = inside d (λ l j. f l (at.of_mixed j)) i
    inside (u.optional_is d) f (at.of_optional i) = inside d (λ l j. f l (at.of_optional j)) i
    inside (u.zero_or_more_is d) f (at.of_zero_or_more i) = inside d (λ l j. f l (at.of_zero_or_more j)) i
    inside (u.one_or_more_is d) f (at.of_one_or_more i) = inside d (λ l j. f l (at.of_one_or_more j)) i
    inside (u.joined_is d e es) f (at.of_first i) = inside d (λ l j. f l (at.of_first j)) i
    inside (u.joined_is d e es) f (at.of_second i) = inside e (λ l j. f l (at.of_second j)) i
    inside (u.joined_is d e es) f (at.of_others i) = inside_among es (λ l j. f l (at.of_others j)) i

    inside_among : {x : Place} {ts : Trees Point} {us : Trees Leaf} {m : Leaf} → UnfoldAll s x ts us → ((l : Point) → LeafAmong l ts → C (aim s x l))
        → LeafAmong m us → C (to_element m)
    inside_among u.none_is f i = elim i [ ]
    inside_among (u.more_are d es) f (at.in_this i) = inside d (λ l j. f l (at.in_this j)) i
    inside_among (u.more_are d es) f (at.in_later i) = inside_among es (λ l j. f l (at.in_later j)) i
