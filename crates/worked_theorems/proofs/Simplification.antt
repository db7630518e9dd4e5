-- Simplification (RELAX NG Specification, sections 4.12 to 4.21): the simple forms of small trees.
use Rattle.std.proofs.Common.{◌≡◌, refl, subst}
use Rattle.rng_model.specs.simple.Tree.{Tree, choice, group, joined, no_trees, not_allowed, empty, text, optional}
use Rattle.rng_model.specs.simple.Simplification.{RuleGroup, rewriting, propagation, Step, AnyStep, Steps, IsSimpleFormOf, no_step, step_and}
use Rattle.rng_model.specs.simple.Simplification as steps

module _ (L : Type 0) where
  not_allowed_stays : {g : RuleGroup} {c : Tree L} → ¬ (Step g not_allowed c)
  not_allowed_stays d = elim d [ ]

  -- the simple form of `notAllowed, text` is `notAllowed` (section 4.20)
  group_with_not_allowed : IsSimpleFormOf {L = L} (joined group not_allowed text no_trees) not_allowed
  group_with_not_allowed = record {
    reached = step_and (propagation, steps.first_not_allowed (λ e. cc)) no_step;
    last = λ c s. not_allowed_stays s.1;
  }

  text_stays : {g : RuleGroup} {c : Tree L} → ¬ (Step g text c)
  text_stays d = elim d [ ]

  -- the simple form of `notAllowed | text` is `text` (section 4.20)
  choice_with_not_allowed : IsSimpleFormOf {L = L} (joined choice not_allowed text no_trees) text
  choice_with_not_allowed = record {
    reached = step_and (propagation, steps.no_first_side) no_step;
    last = λ c s. text_stays s.1;
  }

  -- only one step applies to `notAllowed | text`
  to_the_other_side : {g : RuleGroup} {c : Tree L} → Step g (joined choice not_allowed text no_trees) c → c ≡ text
  to_the_other_side (steps.first_not_allowed n) = absurd (n refl)
  to_the_other_side (steps.other_not_allowed n h) = absurd (n refl)
  to_the_other_side steps.no_first_side = refl
  to_the_other_side (steps.in_first d) = elim d [ ]
  to_the_other_side (steps.in_second d) = elim d [ ]
  to_the_other_side (steps.in_others d) = elim d [ ]

  from_text : {a c : Tree L} → a ≡ text → Steps AnyStep a c → c ≡ text
  from_text e no_step = e
  from_text e (step_and {b = b} s more) = absurd (text_stays (subst (λ t. Step s.0 t b) e s.1))

  text_is_allowed : ¬ (◌≡◌ {A = Tree L} not_allowed text)
  text_is_allowed e = cc

  -- so `notAllowed` is not its simple form: a choice is as the rest of its members
  choice_is_not_not_allowed : ¬ (IsSimpleFormOf {L = L} (joined choice not_allowed text no_trees) not_allowed)
  choice_is_not_not_allowed f = refuted f.reached where
    refuted : ¬ (Steps {L = L} AnyStep (joined choice not_allowed text no_trees) not_allowed)
    refuted (step_and s more) = text_is_allowed (from_text (to_the_other_side s.1) more)

  empty_or_text_stays : {g : RuleGroup} {c : Tree L} → ¬ (Step g (joined choice empty text no_trees) c)
  empty_or_text_stays (steps.other_not_allowed n h) = n refl
  empty_or_text_stays (steps.first_empty n) = n refl
  empty_or_text_stays (steps.in_first d) = elim d [ ]
  empty_or_text_stays (steps.in_second d) = elim d [ ]
  empty_or_text_stays (steps.in_others d) = elim d [ ]

  -- the simple form of `text?` is `empty | text` (sections 4.14 and 4.21)
  optional_text : IsSimpleFormOf {L = L} (optional text) (joined choice empty text no_trees)
  optional_text = record {
    reached = step_and (rewriting, steps.optional_is) (step_and (propagation, steps.sides_change (λ e. cc)) no_step);
    last = λ c s. empty_or_text_stays s.1;
  }
