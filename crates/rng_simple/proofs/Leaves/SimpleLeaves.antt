-- The leaves of a simple form are leaves of the tree. What is reached through simple forms is reached. And the plain
-- function on patterns with numbers instead of leaves.
use Rattle.std.proofs.Common.{◌≡◌, ◌⊎◌, inl, inr, refl, ap, ap₂, ◌∙◌, sym, subst}
use Rattle.rng_model.specs.names.Names.{NameClass}
use Rattle.rng_model.specs.simple.Tree.{Datatype, Connector, choice, interleave, Tree, not_allowed, empty, text, leaf, attribute, list, data_of, data_except}
use Rattle.rng_model.specs.simple.Tree.{value, mixed, optional, zero_or_more, one_or_more, joined, Trees, no_trees, tree_and, Simple, s_empty, s_text, as_tree}
use Rattle.rng_simple.specs.plain.SimpleOf.{Sort, nothing, blank, proper, sort_of, attribute_by, list_by, except_by, one_or_more_by, join, some_of, simple_of}
use Rattle.rng_simple.specs.plain.SimpleOf.{join_all}
use Rattle.rng_simple.specs.plain.InTwos.{nested}
use Rattle.rng_model.specs.simple.Simplification.{IsSimpleFormOf}
use Rattle.rng_model.specs.schema.Schema.{Schema}
use Rattle.rng_model.specs.simple.Leaves.{LeafIn, LeafAmong, renamed, all_renamed}
use Rattle.rng_model.specs.simple.Leaves as at
use Rattle.rng_model.specs.schema.Unfolding.{Leaf, IsReachedByTrees, from_start, from_element, IsReachedBySimpleForms, from_simple_start, from_simple_body}
use Rattle.rng_simple.specs.plain.SimpleWith.{simple_with, join_all_with}
use Rattle.rng_simple.specs.plain.Renamed.{simple_renamed}
use Rattle.rng_simple.proofs.Trees.TreeSplits.{Sorted, is_nothing, is_blank, is_proper, sorted}
use Rattle.rng_simple.proofs.Leaves.Renamed.{join_leaves, join_renamed, renamed_sort}
use Rattle.rng_simple.proofs.Trees.SimpleForms.{is_only_simple_form}

left : {A B : Type 0} → (B → ⊥) → A ⊎ B → A
left n (inl a) = a
left n (inr b) = absurd (n b)

either : {A B C : Type 0} → (A → C) → (B → C) → A ⊎ B → C
either f g (inl a) = f a
either f g (inr b) = g b

-- ---- leaves

module _ {L : Type 0} where
  attribute_leaves : (l : L) (c : NameClass) {s : Simple L} {x : Sort} → Sorted s x → LeafIn l (as_tree (attribute_by x c s)) → LeafIn l (as_tree s)
  attribute_leaves l c is_nothing i = i
  attribute_leaves l c is_blank (at.of_attribute i) = i
  attribute_leaves l c (is_proper p) (at.of_attribute i) = i

  list_leaves : (l : L) {s : Simple L} {x : Sort} → Sorted s x → LeafIn l (as_tree (list_by x s)) → LeafIn l (as_tree s)
  list_leaves l is_nothing i = i
  list_leaves l is_blank (at.of_list i) = i
  list_leaves l (is_proper p) (at.of_list i) = i

  except_leaves : (l : L) (d : Datatype) {s : Simple L} {x : Sort} → Sorted s x → LeafIn l (as_tree (except_by x d s)) → LeafIn l (as_tree s)
  except_leaves l d is_nothing i = elim i [ ]
  except_leaves l d is_blank (at.of_except i) = i
  except_leaves l d (is_proper p) (at.of_except i) = i

  some_leaves : (l : L) {s : Simple L} {x : Sort} → Sorted s x → LeafIn l (as_tree (one_or_more_by x s)) → LeafIn l (as_tree s)
  some_leaves l is_nothing i = i
  some_leaves l is_blank i = i
  some_leaves l (is_proper p) (at.of_one_or_more i) = i

  mutual
    unfolding simple_of join_all

    pub simple_leaves : (l : L) (a : Tree L) → LeafIn l (as_tree (simple_of a)) → LeafIn l a
    simple_leaves l not_allowed i = i
    simple_leaves l empty i = i
    simple_leaves l text i = i
    simple_leaves l (leaf m) i = i
    simple_leaves l (attribute c a) i = at.of_attribute (simple_leaves l a (attribute_leaves l (nested c) (sorted (simple_of a)) i))
    simple_leaves l (list a) i = at.of_list (simple_leaves l a (list_leaves l (sorted (simple_of a)) i))
    simple_leaves l (data_of d) i = i
    simple_leaves l (data_except d a) i = at.of_except (simple_leaves l a (except_leaves l d (sorted (simple_of a)) i))
    simple_leaves l (value d v) i = i
    simple_leaves l (mixed a) i = at.of_mixed (simple_leaves l a (left (λ j. elim j [ ]) (join_leaves interleave l (simple_of a) s_text i)))
    simple_leaves l (optional a) i = at.of_optional (simple_leaves l a (left (λ j. elim j [ ]) (join_leaves choice l (simple_of a) s_empty i)))
    simple_leaves l (zero_or_more a) i = at.of_zero_or_more (simple_leaves l a
        (some_leaves l (sorted (simple_of a)) (left (λ j. elim j [ ]) (join_leaves choice l (some_of (simple_of a)) s_empty i))))
    simple_leaves l (one_or_more a) i = at.of_one_or_more (simple_leaves l a (some_leaves l (sorted (simple_of a)) i))
    simple_leaves l (joined k a b ts) i =
        either (λ j. either (λ p. at.of_first (simple_leaves l a p)) (λ p. at.of_second (simple_leaves l b p))
        (join_leaves k l (simple_of a) (simple_of b) j)) (λ j. at.of_others j)
        (joined_leaves l k (join k (simple_of a) (simple_of b)) ts i)

    joined_leaves : (l : L) (k : Connector) (s : Simple L) (ts : Trees L) → LeafIn l (as_tree (join_all k s ts)) → LeafIn l (as_tree s) ⊎ LeafAmong l ts
    joined_leaves l k s no_trees i = inl i
    joined_leaves l k s (tree_and a ts) i =
        either (λ j. either (λ p. inl p) (λ p. inr (at.in_this (simple_leaves l a p))) (join_leaves k l s (simple_of a) j)) (λ j. inr (at.in_later j))
        (joined_leaves l k (join k s (simple_of a)) ts i)

pub form_leaves : {t b : Tree Leaf} {l : Leaf} → IsSimpleFormOf t b → LeafIn l b → LeafIn l t
form_leaves {t} {b} {l} f i = simple_leaves l t (subst (LeafIn l) (is_only_simple_form t b f) i)

pub simply_is_reached : (s : Schema) {l : Leaf} → IsReachedBySimpleForms s l → IsReachedByTrees s l
simply_is_reached s (from_simple_start d f i) = from_start d (form_leaves f i)
simply_is_reached s (from_simple_body r d f i) = from_element (simply_is_reached s r) d (form_leaves f i)

-- ---- numbers instead of leaves

module _ {K L : Type 0} (f : K → L) where
  attribute_renamed : (x : Sort) (c : NameClass) (s : Simple K) → simple_renamed f (attribute_by x c s) ≡ attribute_by x c (simple_renamed f s)
  attribute_renamed nothing c s = refl
  attribute_renamed blank c s = refl
  attribute_renamed proper c s = refl

  list_renamed : (x : Sort) (s : Simple K) → simple_renamed f (list_by x s) ≡ list_by x (simple_renamed f s)
  list_renamed nothing s = refl
  list_renamed blank s = refl
  list_renamed proper s = refl

  except_renamed : (x : Sort) (d : Datatype) (s : Simple K) → simple_renamed f (except_by x d s) ≡ except_by x d (simple_renamed f s)
  except_renamed nothing d s = refl
  except_renamed blank d s = refl
  except_renamed proper d s = refl

  some_by_renamed : (x : Sort) (s : Simple K) → simple_renamed f (one_or_more_by x s) ≡ one_or_more_by x (simple_renamed f s)
  some_by_renamed nothing s = refl
  some_by_renamed blank s = refl
  some_by_renamed proper s = refl

  some_renamed : (s : Simple K) → simple_renamed f (some_of s) ≡ some_of (simple_renamed f s)
  some_renamed s = rw (renamed_sort f s) (some_by_renamed (sort_of s) s)

  module _ {P : Type 0} (g : P → Simple K) where
    mutual
      unfolding simple_with join_all_with

      -- the renamed result of the function on numbers is the result of the function on leaves
      pub with_renamed : (a : Tree P) → simple_renamed f (simple_with g a) ≡ simple_with (λ l. simple_renamed f (g l)) a
      with_renamed not_allowed = refl
      with_renamed empty = refl
      with_renamed text = refl
      with_renamed (leaf l) = refl
      with_renamed (attribute c a) = rw (sym (with_renamed a), renamed_sort f (simple_with g a))
          (attribute_renamed (sort_of (simple_with g a)) (nested c) (simple_with g a))
      with_renamed (list a) = rw (sym (with_renamed a), renamed_sort f (simple_with g a)) (list_renamed (sort_of (simple_with g a)) (simple_with g a))
      with_renamed (data_of d) = refl
      with_renamed (data_except d a) = rw (sym (with_renamed a), renamed_sort f (simple_with g a))
          (except_renamed (sort_of (simple_with g a)) d (simple_with g a))
      with_renamed (value d v) = refl
      with_renamed (mixed a) = join_renamed interleave f (simple_with g a) s_text ∙ ap (λ s. join interleave s s_text) (with_renamed a)
      with_renamed (optional a) = join_renamed choice f (simple_with g a) s_empty ∙ ap (λ s. join choice s s_empty) (with_renamed a)
      with_renamed (zero_or_more a) = join_renamed choice f (some_of (simple_with g a)) s_empty
          ∙ ap (λ s. join choice s s_empty) (some_renamed (simple_with g a) ∙ ap some_of (with_renamed a))
      with_renamed (one_or_more a) = some_renamed (simple_with g a) ∙ ap some_of (with_renamed a)
      with_renamed (joined k a b ts) =
          all_with_renamed k (join k (simple_with g a) (simple_with g b)) _
          (join_renamed k f (simple_with g a) (simple_with g b) ∙ ap (λ s. join k s (simple_renamed f (simple_with g b))) (with_renamed a)
          ∙ ap (λ s. join k (simple_with (λ l. simple_renamed f (g l)) a) s) (with_renamed b)) ts

      all_with_renamed : (k : Connector) (s : Simple K) (u : Simple L) → simple_renamed f s ≡ u → (ts : Trees P)
          → simple_renamed f (join_all_with g k s ts) ≡ join_all_with (λ l. simple_renamed f (g l)) k u ts
      all_with_renamed k s u e no_trees = e
      all_with_renamed k s u e (tree_and a ts) =
          all_with_renamed k (join k s (simple_with g a)) _
          (join_renamed k f s (simple_with g a) ∙ ap (λ z. join k z (simple_renamed f (simple_with g a))) e ∙ ap (λ z. join k u z) (with_renamed a)) ts

-- ---- trees with renamed leaves: only the values of the leaves matter

module _ {K L M : Type 0} (f : K → L) (h : L → Simple M) (g : K → Simple M) where
  mutual
    unfolding simple_with join_all_with

    pub simple_same : (a : Tree K) → ((k : K) → LeafIn k a → h (f k) ≡ g k) → simple_with h (renamed f a) ≡ simple_with g a
    simple_same not_allowed e = refl
    simple_same empty e = refl
    simple_same text e = refl
    simple_same (leaf k) e = e k at.here
    simple_same (attribute c a) e = ap (λ r. attribute_by (sort_of r) (nested c) r) (simple_same a (λ k i. e k (at.of_attribute i)))
    simple_same (list a) e = ap (λ r. list_by (sort_of r) r) (simple_same a (λ k i. e k (at.of_list i)))
    simple_same (data_of d) e = refl
    simple_same (data_except d a) e = ap (λ r. except_by (sort_of r) d r) (simple_same a (λ k i. e k (at.of_except i)))
    simple_same (value d v) e = refl
    simple_same (mixed a) e = ap (λ r. join interleave r s_text) (simple_same a (λ k i. e k (at.of_mixed i)))
    simple_same (optional a) e = ap (λ r. join choice r s_empty) (simple_same a (λ k i. e k (at.of_optional i)))
    simple_same (zero_or_more a) e = ap (λ r. join choice (some_of r) s_empty) (simple_same a (λ k i. e k (at.of_zero_or_more i)))
    simple_same (one_or_more a) e = ap some_of (simple_same a (λ k i. e k (at.of_one_or_more i)))
    simple_same (joined j a b ts) e = all_same ts (λ k i. e k (at.of_others i)) j _ _
        (ap₂ (λ r q. join j r q) (simple_same a (λ k i. e k (at.of_first i))) (simple_same b (λ k i. e k (at.of_second i))))

    all_same : (ts : Trees K) → ((k : K) → LeafAmong k ts → h (f k) ≡ g k) → (j : Connector) (r q : Simple M) → r ≡ q
        → join_all_with h j r (all_renamed f ts) ≡ join_all_with g j q ts
    all_same no_trees e j r q p = p
    all_same (tree_and a ts) e j r q p = all_same ts (λ k i. e k (at.in_later i)) j _ _ (ap₂ (λ x y. join j x y) p (simple_same a (λ k i. e k (at.in_this i))))
