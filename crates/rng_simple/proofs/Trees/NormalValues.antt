-- No rule applies to the value.
use Rattle.std.proofs.Common.{◌≡◌, refl, List, ℕ}
use Rattle.rng_model.specs.names.Names.{NameClass}
use Rattle.rng_model.specs.simple.Tree.{Datatype, Connector, choice, group, interleave}
use Rattle.rng_model.specs.simple.Tree.{Tree, not_allowed, empty, text, leaf, attribute, list, data_of, data_except, value, mixed, optional, zero_or_more}
use Rattle.rng_model.specs.simple.Tree.{one_or_more}
use Rattle.rng_model.specs.simple.Tree.{joined, Trees, no_trees, tree_and}
use Rattle.rng_model.specs.simple.Tree.{Simple, s_empty, s_text, as_tree}
use Rattle.rng_model.specs.simple.Simplification.{ClassStep, RuleGroup, Step}
use Rattle.rng_model.specs.simple.Simplification as step
use Rattle.rng_simple.specs.plain.SimpleOf.{Sort, attribute_by, list_by, except_by, one_or_more_by, choice_by, both_by, join, some_of, simple_of, join_all}
use Rattle.rng_simple.specs.plain.InTwos.{nested}
use Rattle.rng_simple.proofs.Trees.SimpleClass.{class_normal}
use Rattle.rng_simple.proofs.Trees.NoStep.{HasNoStep}
use Rattle.rng_simple.proofs.Trees.TreeSplits.{Sorted, is_nothing, is_blank, is_proper, sorted, proper_is_allowed, proper_is_not_empty}

module _ {L : Type 0} where
  attribute_plain : (c : NameClass) (a : Tree L) → ((d : NameClass) → ClassStep c d → ⊥) → HasNoStep a → (a ≡ not_allowed → ⊥) → (g : RuleGroup) (b : Tree L)
      → Step g (attribute c a) b → ⊥
  attribute_plain c a m n x _ b step.attribute_not_allowed = x refl
  attribute_plain c a m n x _ b (step.in_class s) = m _ s
  attribute_plain c a m n x _ b (step.in_attribute s) = n _ _ s

  list_plain : (a : Tree L) → HasNoStep a → (a ≡ not_allowed → ⊥) → (g : RuleGroup) (b : Tree L) → Step g (list a) b → ⊥
  list_plain a n x _ b step.list_not_allowed = x refl
  list_plain a n x _ b (step.in_list s) = n _ _ s

  except_plain : (d : Datatype) (a : Tree L) → HasNoStep a → (a ≡ not_allowed → ⊥) → (g : RuleGroup) (b : Tree L) → Step g (data_except d a) b → ⊥
  except_plain d a n x _ b step.no_except = x refl
  except_plain d a n x _ b (step.in_except s) = n _ _ s

  some_plain : (a : Tree L) → HasNoStep a → (a ≡ not_allowed → ⊥) → (a ≡ empty → ⊥) → (g : RuleGroup) (b : Tree L) → Step g (one_or_more a) b → ⊥
  some_plain a n x y _ b step.one_or_more_not_allowed = x refl
  some_plain a n x y _ b step.one_or_more_empty = y refl
  some_plain a n x y _ b (step.in_one_or_more s) = n _ _ s

  choice_plain : (a b : Tree L) → HasNoStep a → HasNoStep b → (a ≡ not_allowed → ⊥) → (b ≡ not_allowed → ⊥) → (b ≡ empty → ⊥) → (g : RuleGroup) (c : Tree L)
      → Step g (joined choice a b no_trees) c → ⊥
  choice_plain a b m n x y z _ c (step.first_not_allowed k) = k refl
  choice_plain a b m n x y z _ c (step.second_not_allowed k) = k refl
  choice_plain a b m n x y z _ c (step.other_not_allowed k h) = k refl
  choice_plain a b m n x y z _ c step.no_first_side = x refl
  choice_plain a b m n x y z _ c step.no_second_side = y refl
  choice_plain a b m n x y z _ c step.two_empties = z refl
  choice_plain a b m n x y z _ c (step.first_empty k) = k refl
  choice_plain a b m n x y z _ c (step.second_empty k) = k refl
  choice_plain a b m n x y z _ c (step.sides_change k) = z refl
  choice_plain a b m n x y z _ c (step.in_first s) = m _ _ s
  choice_plain a b m n x y z _ c (step.in_second s) = n _ _ s
  choice_plain a b m n x y z _ c (step.in_others s) = elim s [ ]

  both_plain : (k : Connector) → (k ≡ choice → ⊥) → (a b : Tree L) → HasNoStep a → HasNoStep b → (a ≡ not_allowed → ⊥) → (a ≡ empty → ⊥)
      → (b ≡ not_allowed → ⊥) → (b ≡ empty → ⊥) → (g : RuleGroup) (c : Tree L) → Step g (joined k a b no_trees) c → ⊥
  both_plain k h a b m n x y z w _ c (step.first_not_allowed _) = x refl
  both_plain k h a b m n x y z w _ c (step.second_not_allowed _) = z refl
  both_plain k h a b m n x y z w _ c (step.other_not_allowed _ i) = elim i [ ]
  both_plain k h a b m n x y z w _ c step.no_first_side = h refl
  both_plain k h a b m n x y z w _ c step.no_second_side = h refl
  both_plain k h a b m n x y z w _ c step.two_empties = y refl
  both_plain k h a b m n x y z w _ c (step.first_empty _) = y refl
  both_plain k h a b m n x y z w _ c (step.second_empty _) = w refl
  both_plain k h a b m n x y z w _ c (step.sides_change _) = h refl
  both_plain k h a b m n x y z w _ c (step.in_first s) = m _ _ s
  both_plain k h a b m n x y z w _ c (step.in_second s) = n _ _ s
  both_plain k h a b m n x y z w _ c (step.in_others s) = elim s [ ]

  nothing_plain : HasNoStep {L = L} not_allowed
  nothing_plain g b s = elim s [ ]

  empty_plain : HasNoStep {L = L} empty
  empty_plain g b s = elim s [ ]

  text_plain : HasNoStep {L = L} text
  text_plain g b s = elim s [ ]

  leaf_plain : (l : L) → HasNoStep (leaf l)
  leaf_plain l g b s = elim s [ ]

  data_plain : (d : Datatype) → HasNoStep {L = L} (data_of d)
  data_plain d g b s = elim s [ ]

  value_plain : (d : Datatype) (v : List ℕ) → HasNoStep {L = L} (value d v)
  value_plain d v g b s = elim s [ ]

  attribute_normal : (c : NameClass) {s : Simple L} {x : Sort} → Sorted s x → ((d : NameClass) → ClassStep c d → ⊥) → HasNoStep (as_tree s)
      → HasNoStep (as_tree (attribute_by x c s))
  attribute_normal c is_nothing m n = n
  attribute_normal c is_blank m n = attribute_plain c empty m n (λ e. cc)
  attribute_normal c (is_proper {s} p) m n = attribute_plain c (as_tree s) m n (proper_is_allowed s p)

  list_normal : {s : Simple L} {x : Sort} → Sorted s x → HasNoStep (as_tree s) → HasNoStep (as_tree (list_by x s))
  list_normal is_nothing n = n
  list_normal is_blank n = list_plain empty n (λ e. cc)
  list_normal (is_proper {s} p) n = list_plain (as_tree s) n (proper_is_allowed s p)

  except_normal : (d : Datatype) {s : Simple L} {x : Sort} → Sorted s x → HasNoStep (as_tree s) → HasNoStep (as_tree (except_by x d s))
  except_normal d is_nothing n = data_plain d
  except_normal d is_blank n = except_plain d empty n (λ e. cc)
  except_normal d (is_proper {s} p) n = except_plain d (as_tree s) n (proper_is_allowed s p)

  some_normal : {s : Simple L} {x : Sort} → Sorted s x → HasNoStep (as_tree s) → HasNoStep (as_tree (one_or_more_by x s))
  some_normal is_nothing n = n
  some_normal is_blank n = n
  some_normal (is_proper {s} p) n = some_plain (as_tree s) n (proper_is_allowed s p) (proper_is_not_empty s p)

  choice_normal : {s u : Simple L} {x y : Sort} → Sorted s x → Sorted u y → HasNoStep (as_tree s) → HasNoStep (as_tree u)
      → HasNoStep (as_tree (choice_by x y s u))
  choice_normal is_nothing v m n = n
  choice_normal is_blank is_nothing m n = m
  choice_normal (is_proper p) is_nothing m n = m
  choice_normal is_blank is_blank m n = m
  choice_normal (is_proper {s} p) is_blank m n = choice_plain empty (as_tree s) n m (λ e. cc) (proper_is_allowed s p) (proper_is_not_empty s p)
  choice_normal is_blank (is_proper {s} q) m n = choice_plain empty (as_tree s) m n (λ e. cc) (proper_is_allowed s q) (proper_is_not_empty s q)
  choice_normal (is_proper {s} p) (is_proper {s = u} q) m n =
      choice_plain (as_tree s) (as_tree u) m n (proper_is_allowed s p) (proper_is_allowed u q) (proper_is_not_empty u q)

  both_normal : (k : Connector) → (k ≡ choice → ⊥) → {s u : Simple L} {x y : Sort} → Sorted s x → Sorted u y → HasNoStep (as_tree s) → HasNoStep (as_tree u)
      → HasNoStep (as_tree (both_by k x y s u))
  both_normal k h is_nothing v m n = m
  both_normal k h is_blank v m n = n
  both_normal k h (is_proper p) is_nothing m n = n
  both_normal k h (is_proper p) is_blank m n = m
  both_normal k h (is_proper {s} p) (is_proper {s = u} q) m n =
      both_plain k h (as_tree s) (as_tree u) m n (proper_is_allowed s p) (proper_is_not_empty s p) (proper_is_allowed u q) (proper_is_not_empty u q)

  join_normal : (k : Connector) (s u : Simple L) → HasNoStep (as_tree s) → HasNoStep (as_tree u) → HasNoStep (as_tree (join k s u))
  join_normal choice s u = choice_normal (sorted s) (sorted u)
  join_normal group s u = both_normal group (λ e. cc) (sorted s) (sorted u)
  join_normal interleave s u = both_normal interleave (λ e. cc) (sorted s) (sorted u)

  mutual
    unfolding simple_of join_all

    pub normal : (a : Tree L) → HasNoStep (as_tree (simple_of a))
    normal not_allowed = nothing_plain
    normal empty = empty_plain
    normal text = text_plain
    normal (leaf l) = leaf_plain l
    normal (attribute c a) = attribute_normal (nested c) (sorted (simple_of a)) (class_normal c) (normal a)
    normal (list a) = list_normal (sorted (simple_of a)) (normal a)
    normal (data_of d) = data_plain d
    normal (data_except d a) = except_normal d (sorted (simple_of a)) (normal a)
    normal (value d v) = value_plain d v
    normal (mixed a) = join_normal interleave (simple_of a) s_text (normal a) text_plain
    normal (optional a) = join_normal choice (simple_of a) s_empty (normal a) empty_plain
    normal (zero_or_more a) = join_normal choice (some_of (simple_of a)) s_empty (some_normal (sorted (simple_of a)) (normal a)) empty_plain
    normal (one_or_more a) = some_normal (sorted (simple_of a)) (normal a)
    normal (joined k a b ts) = all_normal ts k (join k (simple_of a) (simple_of b)) (join_normal k (simple_of a) (simple_of b) (normal a) (normal b))

    all_normal : (ts : Trees L) (k : Connector) (s : Simple L) → HasNoStep (as_tree s) → HasNoStep (as_tree (join_all k s ts))
    all_normal no_trees k s n = n
    all_normal (tree_and a ts) k s n = all_normal ts k (join k s (simple_of a)) (join_normal k s (simple_of a) n (normal a))
