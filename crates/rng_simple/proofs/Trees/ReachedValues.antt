-- The value is reached by steps.
use Rattle.std.proofs.Common.{◌≡◌}
use Rattle.rng_model.specs.names.Names.{NameClass}
use Rattle.rng_model.specs.simple.Tree.{Datatype, Connector, choice, group, interleave}
use Rattle.rng_model.specs.simple.Tree.{Tree, not_allowed, empty, text, leaf, attribute, list, data_of, data_except, value, mixed, optional, zero_or_more}
use Rattle.rng_model.specs.simple.Tree.{one_or_more}
use Rattle.rng_model.specs.simple.Tree.{joined, Trees, no_trees, tree_and}
use Rattle.rng_model.specs.simple.Tree.{Simple, s_empty, s_text, as_tree}
use Rattle.rng_model.specs.simple.Simplification.{ClassSteps, RuleGroup, Step, AnyStep, Steps}
use Rattle.rng_model.specs.simple.Simplification as step
use Rattle.rng_simple.specs.plain.SimpleOf.{Sort, attribute_by, list_by, except_by, one_or_more_by, choice_by, both_by, join, some_of, simple_of, join_all}
use Rattle.rng_simple.specs.plain.InTwos.{nested}
use Rattle.rng_simple.proofs.Trees.SimpleClass.{class_reached}
use Rattle.rng_simple.proofs.Trees.TreeSplits.{Sorted, is_nothing, is_blank, is_proper, sorted, proper_is_not_empty}

module _ {L : Type 0} where
  -- b is reached from a by steps of either group
  abbrev Reaches : Tree L → Tree L → Type 0
  Reaches a b = Steps AnyStep a b

  pub then : {a b c : Tree L} → Reaches a b → Reaches b c → Reaches a c
  then step.no_step e = e
  then (step.step_and s d) e = step.step_and s (then d e)

  once : {g : RuleGroup} {a b : Tree L} → Step g a b → Reaches a b
  once s = step.step_and (_, s) step.no_step

  -- inside a tree
  inside : (F : Tree L → Tree L) → ((g : RuleGroup) (a b : Tree L) → Step g a b → Step g (F a) (F b)) → {a b : Tree L} → Reaches a b → Reaches (F a) (F b)
  inside F f step.no_step = step.no_step
  inside F f (step.step_and s d) = step.step_and (s.0, f _ _ _ s.1) (inside F f d)

  -- steps in the name class of an attribute
  class_inside : {c d : NameClass} {a : Tree L} → ClassSteps c d → Reaches (attribute c a) (attribute d a)
  class_inside step.no_class_step = step.no_step
  class_inside (step.class_step_and s d) = step.step_and (_, step.in_class s) (class_inside d)

  attribute_reached : (c : NameClass) {s : Simple L} {x : Sort} → Sorted s x → Reaches (attribute c (as_tree s)) (as_tree (attribute_by x c s))
  attribute_reached c is_nothing = once step.attribute_not_allowed
  attribute_reached c is_blank = step.no_step
  attribute_reached c (is_proper p) = step.no_step

  list_reached : {s : Simple L} {x : Sort} → Sorted s x → Reaches (list (as_tree s)) (as_tree (list_by x s))
  list_reached is_nothing = once step.list_not_allowed
  list_reached is_blank = step.no_step
  list_reached (is_proper p) = step.no_step

  except_reached : (d : Datatype) {s : Simple L} {x : Sort} → Sorted s x → Reaches (data_except d (as_tree s)) (as_tree (except_by x d s))
  except_reached d is_nothing = once step.no_except
  except_reached d is_blank = step.no_step
  except_reached d (is_proper p) = step.no_step

  some_reached : {s : Simple L} {x : Sort} → Sorted s x → Reaches (one_or_more (as_tree s)) (as_tree (one_or_more_by x s))
  some_reached is_nothing = once step.one_or_more_not_allowed
  some_reached is_blank = once step.one_or_more_empty
  some_reached (is_proper p) = step.no_step

  choice_reached : {s u : Simple L} {x y : Sort} → Sorted s x → Sorted u y
      → Reaches (joined choice (as_tree s) (as_tree u) no_trees) (as_tree (choice_by x y s u))
  choice_reached is_nothing v = once step.no_first_side
  choice_reached is_blank is_nothing = once step.no_second_side
  choice_reached (is_proper p) is_nothing = once step.no_second_side
  choice_reached is_blank is_blank = once step.two_empties
  choice_reached (is_proper {s} p) is_blank = once (step.sides_change (proper_is_not_empty s p))
  choice_reached is_blank (is_proper q) = step.no_step
  choice_reached (is_proper p) (is_proper q) = step.no_step

  both_reached : (k : Connector) → (k ≡ choice → ⊥) → {s u : Simple L} {x y : Sort} → Sorted s x → Sorted u y
      → Reaches (joined k (as_tree s) (as_tree u) no_trees) (as_tree (both_by k x y s u))
  both_reached k m is_nothing v = once (step.first_not_allowed m)
  both_reached k m is_blank v = once (step.first_empty m)
  both_reached k m (is_proper p) is_nothing = once (step.second_not_allowed m)
  both_reached k m (is_proper p) is_blank = once (step.second_empty m)
  both_reached k m (is_proper p) (is_proper q) = step.no_step

  join_reached : (k : Connector) (s u : Simple L) → Reaches (joined k (as_tree s) (as_tree u) no_trees) (as_tree (join k s u))
  join_reached choice s u = choice_reached (sorted s) (sorted u)
  join_reached group s u = both_reached group (λ e. cc) (sorted s) (sorted u)
  join_reached interleave s u = both_reached interleave (λ e. cc) (sorted s) (sorted u)

  mutual
    unfolding simple_of join_all

    pub reached : (a : Tree L) → Reaches a (as_tree (simple_of a))
    reached not_allowed = step.no_step
    reached empty = step.no_step
    reached text = step.no_step
    reached (leaf l) = step.no_step
    reached (attribute c a) =
        then (class_inside (class_reached c))
        (then (inside (attribute (nested c)) (λ g x y s. step.in_attribute s) (reached a)) (attribute_reached (nested c) (sorted (simple_of a))))
    reached (list a) = then (inside list (λ g x y s. step.in_list s) (reached a)) (list_reached (sorted (simple_of a)))
    reached (data_of d) = step.no_step
    reached (data_except d a) = then (inside (data_except d) (λ g x y s. step.in_except s) (reached a)) (except_reached d (sorted (simple_of a)))
    reached (value d v) = step.no_step
    reached (mixed a) =
        step.step_and (_, step.mixed_is)
        (then (inside (λ x. joined interleave x text no_trees) (λ g x y s. step.in_first s) (reached a)) (join_reached interleave (simple_of a) s_text))
    reached (optional a) =
        step.step_and (_, step.optional_is)
        (then (inside (λ x. joined choice x empty no_trees) (λ g x y s. step.in_first s) (reached a)) (join_reached choice (simple_of a) s_empty))
    reached (zero_or_more a) =
        step.step_and (_, step.zero_or_more_is)
        (then (inside (λ x. joined choice (one_or_more x) empty no_trees) (λ g x y s. step.in_first (step.in_one_or_more s)) (reached a))
        (then (inside (λ x. joined choice x empty no_trees) (λ g x y s. step.in_first s) (some_reached (sorted (simple_of a))))
        (join_reached choice (some_of (simple_of a)) s_empty)))
    reached (one_or_more a) = then (inside one_or_more (λ g x y s. step.in_one_or_more s) (reached a)) (some_reached (sorted (simple_of a)))
    reached (joined k a b ts) =
        then (inside (λ x. joined k x b ts) (λ g x y s. step.in_first s) (reached a))
        (then (inside (λ x. joined k (as_tree (simple_of a)) x ts) (λ g x y s. step.in_second s) (reached b))
        (more_reached ts k (simple_of a) (simple_of b)))

    more_reached : (ts : Trees L) (k : Connector) (s u : Simple L) → Reaches (joined k (as_tree s) (as_tree u) ts) (as_tree (join_all k (join k s u) ts))
    more_reached no_trees k s u = join_reached k s u
    more_reached (tree_and c cs) k s u =
        step.step_and (_, step.nest)
        (then (inside (λ x. joined k x c cs) (λ g x y s. step.in_first s) (join_reached k s u))
        (then (inside (λ x. joined k (as_tree (join k s u)) x cs) (λ g x y s. step.in_second s) (reached c))
        (more_reached cs k (join k s u) (simple_of c))))
