-- A step of simplification does not depend on the names of leaves, so a step of a tree is one of the tree with other
-- names.
use Rattle.std.proofs.Common.{◌≡◌, refl}
use Rattle.rng_model.specs.simple.Tree.{Tree, not_allowed, empty, text, leaf, attribute, list, data_of, data_except, value, mixed, optional}
use Rattle.rng_model.specs.simple.Tree.{zero_or_more, one_or_more, joined, Trees}
use Rattle.rng_model.specs.simple.Leaves.{renamed, all_renamed}
use Rattle.rng_model.specs.simple.Simplification as step
use Rattle.rng_model.specs.simple.Simplification.{RuleGroup, Step, StepAmong, HasNotAllowed}

module _ {K L : Type 0} (f : K → L) where
  not_empty : (a : Tree K) → (a ≡ empty → ⊥) → renamed f a ≡ empty → ⊥
  not_empty not_allowed n e = cc
  not_empty empty n e = n refl
  not_empty text n e = cc
  not_empty (leaf l) n e = cc
  not_empty (attribute c a) n e = cc
  not_empty (list a) n e = cc
  not_empty (data_of d) n e = cc
  not_empty (data_except d a) n e = cc
  not_empty (value d v) n e = cc
  not_empty (mixed a) n e = cc
  not_empty (optional a) n e = cc
  not_empty (zero_or_more a) n e = cc
  not_empty (one_or_more a) n e = cc
  not_empty (joined k a b ts) n e = cc

  has_renamed : {ts : Trees K} → HasNotAllowed ts → HasNotAllowed (all_renamed f ts)
  has_renamed step.this_one = step.this_one
  has_renamed (step.later_one h) = step.later_one (has_renamed h)

  mutual
    pub step_renamed : {g : RuleGroup} {a b : Tree K} → Step g a b → Step g (renamed f a) (renamed f b)
    step_renamed step.nest = step.nest
    step_renamed (step.in_class s) = step.in_class s
    step_renamed step.mixed_is = step.mixed_is
    step_renamed step.optional_is = step.optional_is
    step_renamed step.zero_or_more_is = step.zero_or_more_is
    step_renamed step.attribute_not_allowed = step.attribute_not_allowed
    step_renamed step.list_not_allowed = step.list_not_allowed
    step_renamed step.one_or_more_not_allowed = step.one_or_more_not_allowed
    step_renamed (step.first_not_allowed n) = step.first_not_allowed n
    step_renamed (step.second_not_allowed n) = step.second_not_allowed n
    step_renamed (step.other_not_allowed n i) = step.other_not_allowed n (has_renamed i)
    step_renamed step.no_first_side = step.no_first_side
    step_renamed step.no_second_side = step.no_second_side
    step_renamed step.no_except = step.no_except
    step_renamed step.two_empties = step.two_empties
    step_renamed (step.first_empty n) = step.first_empty n
    step_renamed (step.second_empty n) = step.second_empty n
    step_renamed (step.sides_change {a} n) = step.sides_change (not_empty a n)
    step_renamed step.one_or_more_empty = step.one_or_more_empty
    step_renamed (step.in_attribute s) = step.in_attribute (step_renamed s)
    step_renamed (step.in_list s) = step.in_list (step_renamed s)
    step_renamed (step.in_except s) = step.in_except (step_renamed s)
    step_renamed (step.in_mixed s) = step.in_mixed (step_renamed s)
    step_renamed (step.in_optional s) = step.in_optional (step_renamed s)
    step_renamed (step.in_zero_or_more s) = step.in_zero_or_more (step_renamed s)
    step_renamed (step.in_one_or_more s) = step.in_one_or_more (step_renamed s)
    step_renamed (step.in_first s) = step.in_first (step_renamed s)
    step_renamed (step.in_second s) = step.in_second (step_renamed s)
    step_renamed (step.in_others s) = step.in_others (among_renamed s)

    among_renamed : {g : RuleGroup} {ts us : Trees K} → StepAmong g ts us → StepAmong g (all_renamed f ts) (all_renamed f us)
    among_renamed (step.this_member s) = step.this_member (step_renamed s)
    among_renamed (step.later_member s) = step.later_member (among_renamed s)
