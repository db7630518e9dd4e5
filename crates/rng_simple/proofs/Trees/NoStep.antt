-- A tree to which no rule applies is its own value.
use Rattle.std.proofs.Common.{◌≡◌, refl, subst}
use Rattle.rng_model.specs.names.Names.{NameClass}
use Rattle.rng_model.specs.simple.Tree.{Datatype, Connector, choice, group, interleave}
use Rattle.rng_model.specs.simple.Tree.{Tree, not_allowed, empty, text, leaf, attribute, list, data_of, data_except, value, mixed, optional, zero_or_more, one_or_more}
use Rattle.rng_model.specs.simple.Tree.{joined, no_trees, tree_and}
use Rattle.rng_model.specs.simple.Tree.{Simple, as_tree}
use Rattle.rng_model.specs.simple.Simplification.{RuleGroup, Step}
use Rattle.rng_model.specs.simple.Simplification as step
use Rattle.rng_simple.specs.plain.SimpleOf.{Sort, sort_of, attribute_by, list_by, except_by, one_or_more_by, choice_by, both_by, join, some_of, simple_of, join_all}
use Rattle.rng_simple.proofs.Trees.SimpleClass.{class_unchanged}
use Rattle.rng_simple.proofs.Trees.TreeSplits.{Sorted, is_nothing, is_blank, is_proper, sorted, proper_is_not_empty}

-- no step of either group is possible
abbrev pub HasNoStep : {L : Type 0} → Tree L → Type 0
HasNoStep a = (g : RuleGroup) (b : Tree _) → Step g a b → ⊥

module _ {L : Type 0} where
  attribute_unchanged : (c : NameClass) {s : Simple L} {x : Sort} → Sorted s x → HasNoStep (attribute c (as_tree s))
      → as_tree (attribute_by x c s) ≡ attribute c (as_tree s)
  attribute_unchanged c is_nothing n = absurd (n _ _ step.attribute_not_allowed)
  attribute_unchanged c is_blank n = refl
  attribute_unchanged c (is_proper p) n = refl

  list_unchanged : {s : Simple L} {x : Sort} → Sorted s x → HasNoStep (list (as_tree s)) → as_tree (list_by x s) ≡ list (as_tree s)
  list_unchanged is_nothing n = absurd (n _ _ step.list_not_allowed)
  list_unchanged is_blank n = refl
  list_unchanged (is_proper p) n = refl

  except_unchanged : (d : Datatype) {s : Simple L} {x : Sort} → Sorted s x → HasNoStep (data_except d (as_tree s))
      → as_tree (except_by x d s) ≡ data_except d (as_tree s)
  except_unchanged d is_nothing n = absurd (n _ _ step.no_except)
  except_unchanged d is_blank n = refl
  except_unchanged d (is_proper p) n = refl

  some_unchanged : {s : Simple L} {x : Sort} → Sorted s x → HasNoStep (one_or_more (as_tree s)) → as_tree (one_or_more_by x s) ≡ one_or_more (as_tree s)
  some_unchanged is_nothing n = absurd (n _ _ step.one_or_more_not_allowed)
  some_unchanged is_blank n = absurd (n _ _ step.one_or_more_empty)
  some_unchanged (is_proper p) n = refl

  choice_unchanged : {s u : Simple L} {x y : Sort} → Sorted s x → Sorted u y → HasNoStep (joined choice (as_tree s) (as_tree u) no_trees)
      → as_tree (choice_by x y s u) ≡ joined choice (as_tree s) (as_tree u) no_trees
  choice_unchanged is_nothing v n = absurd (n _ _ step.no_first_side)
  choice_unchanged is_blank is_nothing n = absurd (n _ _ step.no_second_side)
  choice_unchanged (is_proper p) is_nothing n = absurd (n _ _ step.no_second_side)
  choice_unchanged is_blank is_blank n = absurd (n _ _ step.two_empties)
  choice_unchanged (is_proper {s} p) is_blank n = absurd (n _ _ (step.sides_change (proper_is_not_empty s p)))
  choice_unchanged is_blank (is_proper q) n = refl
  choice_unchanged (is_proper p) (is_proper q) n = refl

  both_unchanged : (k : Connector) → (k ≡ choice → ⊥) → {s u : Simple L} {x y : Sort} → Sorted s x → Sorted u y
      → HasNoStep (joined k (as_tree s) (as_tree u) no_trees) → as_tree (both_by k x y s u) ≡ joined k (as_tree s) (as_tree u) no_trees
  both_unchanged k m is_nothing v n = absurd (n _ _ (step.first_not_allowed m))
  both_unchanged k m is_blank v n = absurd (n _ _ (step.first_empty m))
  both_unchanged k m (is_proper p) is_nothing n = absurd (n _ _ (step.second_not_allowed m))
  both_unchanged k m (is_proper p) is_blank n = absurd (n _ _ (step.second_empty m))
  both_unchanged k m (is_proper p) (is_proper q) n = refl

  join_unchanged : (k : Connector) (s u : Simple L) → HasNoStep (joined k (as_tree s) (as_tree u) no_trees)
      → as_tree (join k s u) ≡ joined k (as_tree s) (as_tree u) no_trees
  join_unchanged choice s u = choice_unchanged (sorted s) (sorted u)
  join_unchanged group s u = both_unchanged group (λ e. cc) (sorted s) (sorted u)
  join_unchanged interleave s u = both_unchanged interleave (λ e. cc) (sorted s) (sorted u)

  pub unchanged : (a : Tree L) → HasNoStep a → as_tree (simple_of a) ≡ a
  unfolding simple_of join_all
  unchanged not_allowed n = refl
  unchanged empty n = refl
  unchanged text n = refl
  unchanged (leaf l) n = refl
  unchanged (attribute c a) n =
      let e = unchanged a (λ g b s. n _ _ (step.in_attribute s)) in
      let f = class_unchanged c (λ d s. n _ _ (step.in_class s)) in
      rw f (subst (λ b. HasNoStep (attribute c b) → as_tree (attribute_by (sort_of (simple_of a)) c (simple_of a)) ≡ attribute c b) e
      (attribute_unchanged c (sorted (simple_of a))) n)
  unchanged (list a) n =
      let e = unchanged a (λ g b s. n _ _ (step.in_list s)) in
      subst (λ b. HasNoStep (list b) → as_tree (list_by (sort_of (simple_of a)) (simple_of a)) ≡ list b) e (list_unchanged (sorted (simple_of a))) n
  unchanged (data_of d) n = refl
  unchanged (data_except d a) n =
      let e = unchanged a (λ g b s. n _ _ (step.in_except s)) in
      subst (λ b. HasNoStep (data_except d b) → as_tree (except_by (sort_of (simple_of a)) d (simple_of a)) ≡ data_except d b) e
      (except_unchanged d (sorted (simple_of a))) n
  unchanged (value d v) n = refl
  unchanged (mixed a) n = absurd (n _ _ step.mixed_is)
  unchanged (optional a) n = absurd (n _ _ step.optional_is)
  unchanged (zero_or_more a) n = absurd (n _ _ step.zero_or_more_is)
  unchanged (one_or_more a) n =
      let e = unchanged a (λ g b s. n _ _ (step.in_one_or_more s)) in
      subst (λ b. HasNoStep (one_or_more b) → as_tree (some_of (simple_of a)) ≡ one_or_more b) e (some_unchanged (sorted (simple_of a))) n
  unchanged (joined k a b no_trees) n =
      let e = unchanged a (λ g c s. n _ _ (step.in_first s)) in
      let f = unchanged b (λ g c s. n _ _ (step.in_second s)) in
      subst (λ c. HasNoStep (joined k c b no_trees) → as_tree (join k (simple_of a) (simple_of b)) ≡ joined k c b no_trees) e
      (subst (λ d. HasNoStep (joined k (as_tree (simple_of a)) d no_trees)
      → as_tree (join k (simple_of a) (simple_of b)) ≡ joined k (as_tree (simple_of a)) d no_trees) f (join_unchanged k (simple_of a) (simple_of b))) n
  unchanged (joined k a b (tree_and c cs)) n = absurd (n _ _ step.nest)
