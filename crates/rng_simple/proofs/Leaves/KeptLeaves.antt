-- What simplification keeps: a leaf of a part with no notAllowed beside it, outside choices, is a leaf of the simple
-- form of the whole; and what is made of such parts is not notAllowed.
use Rattle.std.proofs.Common.{◌≡◌, ◌⊎◌, inl, inr, refl, List, ℕ}
use Rattle.rng_model.specs.names.Names.{NameClass}
use Rattle.rng_model.specs.simple.Tree.{Datatype, Connector, choice, group, interleave, Tree, empty, text, leaf, attribute, list, data_of, data_except}
use Rattle.rng_model.specs.simple.Tree.{value, mixed, optional, zero_or_more, one_or_more, joined, Trees, no_trees, tree_and, Simple, s_empty, s_text, as_tree}
use Rattle.rng_model.specs.simple.Leaves.{LeafIn}
use Rattle.rng_model.specs.simple.Leaves as at
use Rattle.rng_simple.specs.plain.InTwos.{nested}
use Rattle.rng_simple.specs.plain.SimpleOf.{Sort, nothing, sort_of, attribute_by, list_by, except_by, one_or_more_by, choice_by, both_by, join, some_of, simple_of}
use Rattle.rng_simple.specs.plain.SimpleOf.{join_all}
use Rattle.rng_simple.proofs.Trees.TreeSplits.{Sorted, is_nothing, is_blank, is_proper, sorted}

module _ {L : Type 0} where
  -- ---- two sides, by their sorts

  first_in_choice : {l : L} {s u : Simple L} {x y : Sort} → Sorted s x → Sorted u y → LeafIn l (as_tree s) → LeafIn l (as_tree (choice_by x y s u))
  first_in_choice is_nothing v i = elim i [ ]
  first_in_choice is_blank v i = elim i [ ]
  first_in_choice (is_proper p) is_nothing i = i
  first_in_choice (is_proper p) is_blank i = at.of_second i
  first_in_choice (is_proper p) (is_proper q) i = at.of_first i

  second_in_choice : {l : L} {s u : Simple L} {x y : Sort} → Sorted s x → Sorted u y → LeafIn l (as_tree u) → LeafIn l (as_tree (choice_by x y s u))
  second_in_choice v is_nothing i = elim i [ ]
  second_in_choice v is_blank i = elim i [ ]
  second_in_choice is_nothing (is_proper q) i = i
  second_in_choice is_blank (is_proper q) i = at.of_second i
  second_in_choice (is_proper p) (is_proper q) i = at.of_second i

  first_in_both : (k : Connector) {l : L} {s u : Simple L} {x y : Sort} → Sorted s x → Sorted u y → (y ≡ nothing → ⊥) → LeafIn l (as_tree s)
      → LeafIn l (as_tree (both_by k x y s u))
  first_in_both k is_nothing v n i = elim i [ ]
  first_in_both k is_blank v n i = elim i [ ]
  first_in_both k (is_proper p) is_nothing n i = absurd (n refl)
  first_in_both k (is_proper p) is_blank n i = i
  first_in_both k (is_proper p) (is_proper q) n i = at.of_first i

  second_in_both : (k : Connector) {l : L} {s u : Simple L} {x y : Sort} → Sorted s x → Sorted u y → (x ≡ nothing → ⊥) → LeafIn l (as_tree u)
      → LeafIn l (as_tree (both_by k x y s u))
  second_in_both k is_nothing v n i = absurd (n refl)
  second_in_both k is_blank v n i = i
  second_in_both k (is_proper p) is_nothing n i = elim i [ ]
  second_in_both k (is_proper p) is_blank n i = elim i [ ]
  second_in_both k (is_proper p) (is_proper q) n i = at.of_second i

  choice_of_first : {s u : Simple L} {x y : Sort} → Sorted s x → Sorted u y → (x ≡ nothing → ⊥) → sort_of (choice_by x y s u) ≡ nothing → ⊥
  choice_of_first is_nothing v n e = n refl
  choice_of_first is_blank is_nothing n e = cc
  choice_of_first is_blank is_blank n e = cc
  choice_of_first is_blank (is_proper q) n e = cc
  choice_of_first (is_proper p) is_nothing n e = cc
  choice_of_first (is_proper p) is_blank n e = cc
  choice_of_first (is_proper p) (is_proper q) n e = cc

  choice_of_second : {s u : Simple L} {x y : Sort} → Sorted s x → Sorted u y → (y ≡ nothing → ⊥) → sort_of (choice_by x y s u) ≡ nothing → ⊥
  choice_of_second v is_nothing n e = n refl
  choice_of_second is_nothing is_blank n e = cc
  choice_of_second is_blank is_blank n e = cc
  choice_of_second (is_proper p) is_blank n e = cc
  choice_of_second is_nothing (is_proper q) n e = cc
  choice_of_second is_blank (is_proper q) n e = cc
  choice_of_second (is_proper p) (is_proper q) n e = cc

  both_of : (k : Connector) {s u : Simple L} {x y : Sort} → Sorted s x → Sorted u y → (x ≡ nothing → ⊥) → (y ≡ nothing → ⊥)
      → sort_of (both_by k x y s u) ≡ nothing → ⊥
  both_of k is_nothing v m n e = m refl
  both_of k is_blank v m n e = n (both_blank v e) where
    both_blank : {u : Simple L} {y : Sort} → Sorted u y → sort_of u ≡ nothing → y ≡ nothing
    both_blank is_nothing e = refl
    both_blank is_blank e = e
    both_blank (is_proper p) e = cc
  both_of k (is_proper p) is_nothing m n e = n refl
  both_of k (is_proper p) is_blank m n e = cc
  both_of k (is_proper p) (is_proper q) m n e = cc

  -- ---- two sides

  -- the simple tree is not notAllowed
  abbrev IsSomething : Simple L → Type 0
  IsSomething s = sort_of s ≡ nothing → ⊥

  -- the other side is kept beside it
  abbrev Keeps : Connector → Simple L → Type 0
  Keeps k s = (k ≡ choice → ⊥) → IsSomething s

  first_kept : (k : Connector) {l : L} (s u : Simple L) → Keeps k u → LeafIn l (as_tree s) → LeafIn l (as_tree (join k s u))
  first_kept choice s u n i = first_in_choice (sorted s) (sorted u) i
  first_kept group s u n i = first_in_both group (sorted s) (sorted u) (n (λ e. cc)) i
  first_kept interleave s u n i = first_in_both interleave (sorted s) (sorted u) (n (λ e. cc)) i

  second_kept : (k : Connector) {l : L} (s u : Simple L) → Keeps k s → LeafIn l (as_tree u) → LeafIn l (as_tree (join k s u))
  second_kept choice s u n i = second_in_choice (sorted s) (sorted u) i
  second_kept group s u n i = second_in_both group (sorted s) (sorted u) (n (λ e. cc)) i
  second_kept interleave s u n i = second_in_both interleave (sorted s) (sorted u) (n (λ e. cc)) i

  both_something : (k : Connector) (s u : Simple L) → IsSomething s → IsSomething u → IsSomething (join k s u)
  both_something choice s u m n = choice_of_first (sorted s) (sorted u) m
  both_something group s u m n = both_of group (sorted s) (sorted u) m n
  both_something interleave s u m n = both_of interleave (sorted s) (sorted u) m n

  some_in : {l : L} {s : Simple L} {x : Sort} → Sorted s x → LeafIn l (as_tree s) → LeafIn l (as_tree (one_or_more_by x s))
  some_in is_nothing i = elim i [ ]
  some_in is_blank i = elim i [ ]
  some_in (is_proper p) i = at.of_one_or_more i

  attribute_in : {l : L} (c : NameClass) {s : Simple L} {x : Sort} → Sorted s x → LeafIn l (as_tree s) → LeafIn l (as_tree (attribute_by x c s))
  attribute_in c is_nothing i = elim i [ ]
  attribute_in c is_blank i = elim i [ ]
  attribute_in c (is_proper p) i = at.of_attribute i

  list_in : {l : L} {s : Simple L} {x : Sort} → Sorted s x → LeafIn l (as_tree s) → LeafIn l (as_tree (list_by x s))
  list_in is_nothing i = elim i [ ]
  list_in is_blank i = elim i [ ]
  list_in (is_proper p) i = at.of_list i

  some_of_something : {s : Simple L} {x : Sort} → Sorted s x → (x ≡ nothing → ⊥) → sort_of (one_or_more_by x s) ≡ nothing → ⊥
  some_of_something is_nothing n e = n refl
  some_of_something is_blank n e = cc
  some_of_something (is_proper p) n e = cc

  attribute_of_something : (c : NameClass) {s : Simple L} {x : Sort} → Sorted s x → (x ≡ nothing → ⊥) → sort_of (attribute_by x c s) ≡ nothing → ⊥
  attribute_of_something c is_nothing n e = n refl
  attribute_of_something c is_blank n e = cc
  attribute_of_something c (is_proper p) n e = cc

  list_of_something : {s : Simple L} {x : Sort} → Sorted s x → (x ≡ nothing → ⊥) → sort_of (list_by x s) ≡ nothing → ⊥
  list_of_something is_nothing n e = n refl
  list_of_something is_blank n e = cc
  list_of_something (is_proper p) n e = cc

  except_is_something : (d : Datatype) {s : Simple L} {x : Sort} → Sorted s x → sort_of (except_by x d s) ≡ nothing → ⊥
  except_is_something d is_nothing e = cc
  except_is_something d is_blank e = cc
  except_is_something d (is_proper p) e = cc

  -- ---- trees and their simple forms

  -- the simple form of the tree is not notAllowed
  pub record IsAllowed (a : Tree L) : Type 0 where
    pub holds : IsSomething (simple_of a)

  abbrev pub AreAllowed : Trees L → Type 0
  AreAllowed no_trees = Unit {0}
  AreAllowed (tree_and a ts) = IsAllowed a × AreAllowed ts

  abbrev pub IsOneAllowed : Trees L → Type 0
  IsOneAllowed no_trees = ⊥
  IsOneAllowed (tree_and a ts) = IsAllowed a ⊎ IsOneAllowed ts

  -- a leaf of the simple form of the tree
  pub record FormHas (l : L) (a : Tree L) : Type 0 where
    pub there : LeafIn l (as_tree (simple_of a))

  abbrev pub OneFormHas : L → Trees L → Type 0
  OneFormHas l no_trees = ⊥
  OneFormHas l (tree_and a ts) = FormHas l a ⊎ OneFormHas l ts

  front_kept : (ts : Trees L) (k : Connector) (s : Simple L) {l : L} → ((k ≡ choice → ⊥) → AreAllowed ts) → LeafIn l (as_tree s)
      → LeafIn l (as_tree (join_all k s ts))
  unfolding join_all
  front_kept no_trees k s n i = i
  front_kept (tree_and a ts) k s n i = front_kept ts k (join k s (simple_of a)) (λ m. (n m).1) (first_kept k s (simple_of a) (λ m. (n m).0.holds) i)

  among_kept : (ts : Trees L) (k : Connector) (s : Simple L) {l : L} → Keeps k s → ((k ≡ choice → ⊥) → AreAllowed ts) → OneFormHas l ts
      → LeafIn l (as_tree (join_all k s ts))
  unfolding join_all
  among_kept no_trees k s m n i = absurd i
  among_kept (tree_and a ts) k s m n (inl i) = front_kept ts k (join k s (simple_of a)) (λ o. (n o).1) (second_kept k s (simple_of a) m i.there)
  among_kept (tree_and a ts) k s m n (inr i) =
      among_kept ts k (join k s (simple_of a)) (λ o. both_something k s (simple_of a) (m o) (n o).0.holds) (λ o. (n o).1) i

  all_something : (ts : Trees L) (k : Connector) (s : Simple L) → IsSomething s → AreAllowed ts → IsSomething (join_all k s ts)
  unfolding join_all
  all_something no_trees k s m n = m
  all_something (tree_and a ts) k s m n = all_something ts k (join k s (simple_of a)) (both_something k s (simple_of a) m n.0.holds) n.1

  front_something : (ts : Trees L) (s : Simple L) → IsSomething s → IsSomething (join_all choice s ts)
  unfolding join_all
  front_something no_trees s n = n
  front_something (tree_and a ts) s n = front_something ts (join choice s (simple_of a)) (choice_of_first (sorted s) (sorted (simple_of a)) n)

  among_something : (ts : Trees L) (s : Simple L) → IsOneAllowed ts → IsSomething (join_all choice s ts)
  unfolding join_all
  among_something no_trees s n = absurd n
  among_something (tree_and a ts) s (inl n) =
      front_something ts (join choice s (simple_of a)) (choice_of_second (sorted s) (sorted (simple_of a)) n.holds)
  among_something (tree_and a ts) s (inr n) = among_something ts (join choice s (simple_of a)) n

  -- ---- each kind of tree: its leaves

  pub of_itself : {l : L} → FormHas l (leaf l)
  unfolding simple_of
  of_itself = record { there = at.here }

  pub of_attribute : {l : L} (c : NameClass) (a : Tree L) → FormHas l a → FormHas l (attribute c a)
  unfolding simple_of
  of_attribute c a i = record { there = attribute_in (nested c) (sorted (simple_of a)) i.there }

  pub of_list : {l : L} (a : Tree L) → FormHas l a → FormHas l (list a)
  unfolding simple_of
  of_list a i = record { there = list_in (sorted (simple_of a)) i.there }

  pub of_mixed : {l : L} (a : Tree L) → FormHas l a → FormHas l (mixed a)
  unfolding simple_of
  of_mixed a i = record { there = first_kept interleave (simple_of a) s_text (λ n e. cc) i.there }

  pub of_optional : {l : L} (a : Tree L) → FormHas l a → FormHas l (optional a)
  unfolding simple_of
  of_optional a i = record { there = first_kept choice (simple_of a) s_empty (λ n e. cc) i.there }

  pub of_one_or_more : {l : L} (a : Tree L) → FormHas l a → FormHas l (one_or_more a)
  unfolding simple_of
  of_one_or_more a i = record { there = some_in (sorted (simple_of a)) i.there }

  pub of_zero_or_more : {l : L} (a : Tree L) → FormHas l (one_or_more a) → FormHas l (zero_or_more a)
  unfolding simple_of
  of_zero_or_more a i = record { there = first_kept choice (some_of (simple_of a)) s_empty (λ n e. cc) i.there }

  pub of_first : {l : L} (k : Connector) (a b : Tree L) (ts : Trees L) → ((k ≡ choice → ⊥) → IsAllowed b) → ((k ≡ choice → ⊥) → AreAllowed ts) → FormHas l a
      → FormHas l (joined k a b ts)
  unfolding simple_of
  of_first k a b ts m n i =
      record { there = front_kept ts k (join k (simple_of a) (simple_of b)) n (first_kept k (simple_of a) (simple_of b) (λ o. (m o).holds) i.there) }

  pub of_second : {l : L} (k : Connector) (a b : Tree L) (ts : Trees L) → ((k ≡ choice → ⊥) → IsAllowed a) → ((k ≡ choice → ⊥) → AreAllowed ts) → FormHas l b
      → FormHas l (joined k a b ts)
  unfolding simple_of
  of_second k a b ts m n i =
      record { there = front_kept ts k (join k (simple_of a) (simple_of b)) n (second_kept k (simple_of a) (simple_of b) (λ o. (m o).holds) i.there) }

  pub of_others : {l : L} (k : Connector) (a b : Tree L) (ts : Trees L) → ((k ≡ choice → ⊥) → IsAllowed a × IsAllowed b)
      → ((k ≡ choice → ⊥) → AreAllowed ts) → OneFormHas l ts → FormHas l (joined k a b ts)
  unfolding simple_of
  of_others k a b ts m n i =
      let sides : Keeps k (join k (simple_of a) (simple_of b)) = λ o. both_something k (simple_of a) (simple_of b) (m o).0.holds (m o).1.holds in
      record { there = among_kept ts k (join k (simple_of a) (simple_of b)) sides n i }

  -- ---- each kind of tree: when it is allowed

  pub empty_allowed : IsAllowed empty
  unfolding simple_of
  empty_allowed = record { holds = λ e. cc }

  pub text_allowed : IsAllowed text
  unfolding simple_of
  text_allowed = record { holds = λ e. cc }

  pub data_allowed : (d : Datatype) → IsAllowed (data_of d)
  unfolding simple_of
  data_allowed d = record { holds = λ e. cc }

  pub value_allowed : (d : Datatype) (v : List ℕ) → IsAllowed (value d v)
  unfolding simple_of
  value_allowed d v = record { holds = λ e. cc }

  pub leaf_allowed : (l : L) → IsAllowed (leaf l)
  unfolding simple_of
  leaf_allowed l = record { holds = λ e. cc }

  pub attribute_allowed : (c : NameClass) (a : Tree L) → IsAllowed a → IsAllowed (attribute c a)
  unfolding simple_of
  attribute_allowed c a n = record { holds = attribute_of_something (nested c) (sorted (simple_of a)) n.holds }

  pub list_allowed : (a : Tree L) → IsAllowed a → IsAllowed (list a)
  unfolding simple_of
  list_allowed a n = record { holds = list_of_something (sorted (simple_of a)) n.holds }

  pub except_allowed : (d : Datatype) (a : Tree L) → IsAllowed (data_except d a)
  unfolding simple_of
  except_allowed d a = record { holds = except_is_something d (sorted (simple_of a)) }

  pub mixed_allowed : (a : Tree L) → IsAllowed a → IsAllowed (mixed a)
  unfolding simple_of
  mixed_allowed a n = record { holds = both_something interleave (simple_of a) s_text n.holds (λ e. cc) }

  pub optional_allowed : (a : Tree L) → IsAllowed (optional a)
  unfolding simple_of
  optional_allowed a = record { holds = choice_of_second (sorted (simple_of a)) is_blank (λ e. cc) }

  pub one_or_more_allowed : (a : Tree L) → IsAllowed a → IsAllowed (one_or_more a)
  unfolding simple_of
  one_or_more_allowed a n = record { holds = some_of_something (sorted (simple_of a)) n.holds }

  pub zero_or_more_allowed : (a : Tree L) → IsAllowed (zero_or_more a)
  unfolding simple_of
  zero_or_more_allowed a = record { holds = choice_of_second (sorted (some_of (simple_of a))) is_blank (λ e. cc) }

  pub first_allowed : (a b : Tree L) (ts : Trees L) → IsAllowed a → IsAllowed (joined choice a b ts)
  unfolding simple_of
  first_allowed a b ts n =
      let sides = choice_of_first (sorted (simple_of a)) (sorted (simple_of b)) n.holds in
      record { holds = front_something ts (join choice (simple_of a) (simple_of b)) sides }

  pub second_allowed : (a b : Tree L) (ts : Trees L) → IsAllowed b → IsAllowed (joined choice a b ts)
  unfolding simple_of
  second_allowed a b ts n =
      let sides = choice_of_second (sorted (simple_of a)) (sorted (simple_of b)) n.holds in
      record { holds = front_something ts (join choice (simple_of a) (simple_of b)) sides }

  pub another_allowed : (a b : Tree L) (ts : Trees L) → IsOneAllowed ts → IsAllowed (joined choice a b ts)
  unfolding simple_of
  another_allowed a b ts n = record { holds = among_something ts (join choice (simple_of a) (simple_of b)) n }

  pub all_allowed : (k : Connector) (a b : Tree L) (ts : Trees L) → IsAllowed a → IsAllowed b → AreAllowed ts → IsAllowed (joined k a b ts)
  unfolding simple_of
  all_allowed k a b ts m n o =
      record { holds = all_something ts k (join k (simple_of a) (simple_of b)) (both_something k (simple_of a) (simple_of b) m.holds n.holds) o }
