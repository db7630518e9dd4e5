-- Trees and their simple forms.
use Rattle.std.proofs.Common.{refl, [], codes}
use Rattle.rng_model.specs.simple.Tree.{Datatype, Tree, choice, group, data_of, data_except, value, joined, no_trees, tree_and, not_allowed, empty, text}
use Rattle.rng_model.specs.simple.Simplification.{RuleGroup, rewriting, propagation, Step, IsSimpleFormOf, no_step, step_and}
use Rattle.rng_model.specs.simple.Simplification as steps

abbrev plain : Datatype
plain = record { library = []; name = codes "string"; parameters = [] }

abbrev token_x : {L : Type 0} → Tree L
token_x = value (record { library = []; name = codes "token"; parameters = [] }) (codes "x")

module _ (L : Type 0) where
  data_stays : {g : RuleGroup} {c : Tree L} → ¬ (Step g (data_of plain) c)
  data_stays d = elim d [ ]

  except_stays : {g : RuleGroup} {c : Tree L} → ¬ (Step g (data_except plain token_x) c)
  except_stays (steps.in_except d) = elim d [ ]

  -- the simple form of `string - (notAllowed, "x")` is `string`: the content of the except is gone before the
  -- restrictions are judged
  not_allowed_except : IsSimpleFormOf {L = L} (data_except plain (joined group not_allowed token_x no_trees)) (data_of plain)
  not_allowed_except = record {
    reached = step_and (propagation, steps.in_except (steps.first_not_allowed (λ e. cc))) (step_and (propagation, steps.no_except) no_step);
    last = λ c s. data_stays s.1;
  }

  -- the simple form of `string - ("x", empty)` is `string - "x"`
  except_of_a_group : IsSimpleFormOf {L = L} (data_except plain (joined group token_x empty no_trees)) (data_except plain token_x)
  except_of_a_group = record {
    reached = step_and (propagation, steps.in_except (steps.second_empty (λ e. cc))) no_step;
    last = λ c s. except_stays s.1;
  }

  empty_side_stays : {g : RuleGroup} {c : Tree L} → ¬ (Step g (joined choice empty text no_trees) c)
  empty_side_stays (steps.other_not_allowed n h) = n refl
  empty_side_stays (steps.first_empty n) = n refl
  empty_side_stays (steps.in_first d) = elim d [ ]
  empty_side_stays (steps.in_second d) = elim d [ ]
  empty_side_stays (steps.in_others d) = elim d [ ]

  -- the simple form of `(empty, text) | empty` is `empty | text`
  sides_change : IsSimpleFormOf {L = L} (joined choice (joined group empty text no_trees) empty no_trees) (joined choice empty text no_trees)
  sides_change = record {
    reached = step_and (propagation, steps.in_first (steps.first_empty (λ e. cc))) (step_and (propagation, steps.sides_change (λ e. cc)) no_step);
    last = λ c s. empty_side_stays s.1;
  }

  nested_stays : {g : RuleGroup} {c : Tree L} → ¬ (Step g (joined choice (joined choice empty text no_trees) text no_trees) c)
  nested_stays (steps.other_not_allowed n h) = n refl
  nested_stays (steps.in_first d) = empty_side_stays d
  nested_stays (steps.in_second d) = elim d [ ]
  nested_stays (steps.in_others d) = elim d [ ]

  -- `text | empty | text` is nested from the left, and then the inner choice swaps its sides
  nested_from_the_left : IsSimpleFormOf {L = L} (joined choice text empty (tree_and text no_trees))
      (joined choice (joined choice empty text no_trees) text no_trees)
  nested_from_the_left = record {
    reached = step_and (rewriting, steps.nest) (step_and (propagation, steps.in_first (steps.sides_change (λ e. cc))) no_step);
    last = λ c s. nested_stays s.1;
  }
