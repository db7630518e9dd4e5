-- Each step keeps the result of the function.
use Rattle.std.proofs.Common.{◌≡◌, refl, ap, ◌∙◌}
use Rattle.rng_model.specs.simple.Tree.{Connector, choice, group, interleave}
use Rattle.rng_model.specs.simple.Tree.{Tree, Trees, no_trees, tree_and}
use Rattle.rng_model.specs.simple.Tree.{Simple, s_not_allowed, s_empty, s_text}
use Rattle.rng_model.specs.simple.Simplification.{RuleGroup, HasNotAllowed, Step, StepAmong, AnyStep, Steps}
use Rattle.rng_model.specs.simple.Simplification as step
use Rattle.rng_simple.proofs.Trees.SimpleClass.{class_keeps}
use Rattle.rng_simple.specs.plain.SimpleOf.{Sort, nothing, blank, proper, sort_of, attribute_by, list_by, except_by, joined_by, join, some_of, simple_of}
use Rattle.rng_simple.specs.plain.InTwos.{nested}
use Rattle.rng_simple.specs.plain.SimpleOf.{join_all}

module _ {L : Type 0} where
  join_nothing_first : (k : Connector) (s : Simple L) → (k ≡ choice → ⊥) → join k s_not_allowed s ≡ s_not_allowed
  join_nothing_first choice s n = absurd (n refl)
  join_nothing_first group s n = refl
  join_nothing_first interleave s n = refl

  by_nothing_second : (k : Connector) (t : Sort) (s : Simple L) → (k ≡ choice → ⊥) → joined_by k t nothing s s_not_allowed ≡ s_not_allowed
  by_nothing_second choice t s n = absurd (n refl)
  by_nothing_second group nothing s n = refl
  by_nothing_second group blank s n = refl
  by_nothing_second group proper s n = refl
  by_nothing_second interleave nothing s n = refl
  by_nothing_second interleave blank s n = refl
  by_nothing_second interleave proper s n = refl

  join_all_nothing : (k : Connector) (ts : Trees L) → (k ≡ choice → ⊥) → join_all k s_not_allowed ts ≡ s_not_allowed
  unfolding simple_of join_all
  join_all_nothing k no_trees n = refl
  join_all_nothing k (tree_and a ts) n = rw (join_nothing_first k (simple_of a) n) (join_all_nothing k ts n)

  among_nothing : {k : Connector} {ts : Trees L} → HasNotAllowed ts → (k ≡ choice → ⊥) → (s : Simple L) → join_all k s ts ≡ s_not_allowed
  unfolding simple_of join_all
  among_nothing (step.this_one {ts}) n s = rw (by_nothing_second _ (sort_of s) s n) (join_all_nothing _ ts n)
  among_nothing (step.later_one h) n s = among_nothing h n _

  no_side : (s : Simple L) → join choice s s_not_allowed ≡ s
  no_side s_not_allowed = refl
  no_side s_empty = refl
  no_side _ = refl

  side_empty : (k : Connector) (s : Simple L) → (k ≡ choice → ⊥) → join k s s_empty ≡ s
  side_empty choice s n = absurd (n refl)
  side_empty group s_not_allowed n = refl
  side_empty group s_empty n = refl
  side_empty group _ n = refl
  side_empty interleave s_not_allowed n = refl
  side_empty interleave s_empty n = refl
  side_empty interleave _ n = refl

  empty_side : (k : Connector) (s : Simple L) → (k ≡ choice → ⊥) → join k s_empty s ≡ s
  empty_side choice s n = absurd (n refl)
  empty_side group s n = refl
  empty_side interleave s n = refl

  sides : (s : Simple L) → join choice s s_empty ≡ join choice s_empty s
  sides s_not_allowed = refl
  sides s_empty = refl
  sides _ = refl

  empties : (k : Connector) → ◌≡◌ {A = Simple L} (join k s_empty s_empty) s_empty
  empties choice = refl
  empties group = refl
  empties interleave = refl

  mutual
    unfolding simple_of join_all

    pub step_keeps : {g : RuleGroup} {a b : Tree L} → Step g a b → simple_of a ≡ simple_of b
    step_keeps step.nest = refl
    step_keeps step.mixed_is = refl
    step_keeps step.optional_is = refl
    step_keeps step.zero_or_more_is = refl
    step_keeps step.attribute_not_allowed = refl
    step_keeps step.list_not_allowed = refl
    step_keeps step.one_or_more_not_allowed = refl
    step_keeps (step.first_not_allowed {k} {b} {ts} n) = rw (join_nothing_first k (simple_of b) n) (join_all_nothing k ts n)
    step_keeps (step.second_not_allowed {k} {a} {ts} n) = rw (by_nothing_second k (sort_of (simple_of a)) (simple_of a) n) (join_all_nothing k ts n)
    step_keeps (step.other_not_allowed {k} {a} {b} {ts} n h) = among_nothing h n _
    step_keeps step.no_first_side = refl
    step_keeps (step.no_second_side {a}) = no_side (simple_of a)
    step_keeps step.no_except = refl
    step_keeps (step.two_empties {k}) = empties k
    step_keeps (step.first_empty {k} {b} n) = empty_side k (simple_of b) n
    step_keeps (step.second_empty {k} {a} n) = side_empty k (simple_of a) n
    step_keeps (step.sides_change {a} n) = sides (simple_of a)
    step_keeps step.one_or_more_empty = refl
    step_keeps (step.in_class {c} {d} {a} s) = ap (λ x. attribute_by (sort_of (simple_of a)) x (simple_of a)) (class_keeps s)
    step_keeps (step.in_attribute {g} {c} s) = ap (λ x. attribute_by (sort_of x) (nested c) x) (step_keeps s)
    step_keeps (step.in_list s) = ap (λ (x : Simple L). list_by (sort_of x) x) (step_keeps s)
    step_keeps (step.in_except {g} {d} s) = ap (λ (x : Simple L). except_by (sort_of x) d x) (step_keeps s)
    step_keeps (step.in_mixed s) = ap (λ (x : Simple L). join interleave x s_text) (step_keeps s)
    step_keeps (step.in_optional s) = ap (λ (x : Simple L). join choice x s_empty) (step_keeps s)
    step_keeps (step.in_zero_or_more s) = ap (λ (x : Simple L). join choice (some_of x) s_empty) (step_keeps s)
    step_keeps (step.in_one_or_more s) = ap (λ (x : Simple L). some_of x) (step_keeps s)
    step_keeps (step.in_first {g} {k} {a} {b} {c} {ts} s) = ap (λ (x : Simple L). join_all k (join k x (simple_of c)) ts) (step_keeps s)
    step_keeps (step.in_second {g} {k} {a} {b} {c} {ts} s) = ap (λ (x : Simple L). join_all k (join k (simple_of c) x) ts) (step_keeps s)
    step_keeps (step.in_others s) = among_keep s _ _

    among_keep : {g : RuleGroup} {ts us : Trees L} → StepAmong g ts us → (k : Connector) (s : Simple L) → join_all k s ts ≡ join_all k s us
    among_keep (step.this_member {g} {a} {b} {ts} d) k s = ap (λ (x : Simple L). join_all k (join k s x) ts) (step_keeps d)
    among_keep (step.later_member d) k s = among_keep d k _

  pub steps_keep : {a b : Tree L} → Steps AnyStep a b → simple_of a ≡ simple_of b
  steps_keep step.no_step = refl
  steps_keep (step.step_and s d) = step_keeps s.1 ∙ steps_keep d
