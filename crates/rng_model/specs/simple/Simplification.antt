-- Simplification steps: one application of one rule, anywhere in a tree, and what is reached when no step applies.
-- There are two groups of rules: those that write one kind of pattern by others (RELAX NG Specification, sections 4.12
-- to 4.15), and those that propagate notAllowed and empty (sections 4.20 and 4.21).
use Rattle.std.specs.Prelude.{◌≢◌, ℕ, List}
use Rattle.rng_model.specs.names.Names.{NameClass, any_except, ns_except, one_of, NameClasses, no_classes, class_and}
use Rattle.rng_model.specs.simple.Tree.{Datatype, Connector, choice, interleave, Tree, not_allowed, empty, text, attribute, list, data_of, data_except, mixed}
use Rattle.rng_model.specs.simple.Tree.{optional, zero_or_more, one_or_more, joined, Trees, no_trees, tree_and}

-- ---- name classes: steps anywhere in one, and what is reached when no step applies (section 4.12)

-- one step: three members or more are nested in twos from the left
mutual
  pub data ClassStep : NameClass → NameClass → Type 0 where
    nest_class : {c d e : NameClass} {cs : NameClasses} → ClassStep (one_of c d (class_and e cs)) (one_of (one_of c d no_classes) e cs)
    in_any_except : {c d : NameClass} → ClassStep c d → ClassStep (any_except c) (any_except d)
    in_ns_except : {u : List ℕ} {c d : NameClass} → ClassStep c d → ClassStep (ns_except u c) (ns_except u d)
    in_first_class : {c d e : NameClass} {cs : NameClasses} → ClassStep c d → ClassStep (one_of c e cs) (one_of d e cs)
    in_second_class : {c d e : NameClass} {cs : NameClasses} → ClassStep c d → ClassStep (one_of e c cs) (one_of e d cs)
    in_other_classes : {c d : NameClass} {cs ds : NameClasses} → ClassesStep cs ds → ClassStep (one_of c d cs) (one_of c d ds)

  -- one step in one of the members
  pub data ClassesStep : NameClasses → NameClasses → Type 0 where
    this_class : {c d : NameClass} {cs : NameClasses} → ClassStep c d → ClassesStep (class_and c cs) (class_and d cs)
    later_class : {c : NameClass} {cs ds : NameClasses} → ClassesStep cs ds → ClassesStep (class_and c cs) (class_and c ds)

-- any number of steps
pub data ClassSteps : NameClass → NameClass → Type 0 where
  no_class_step : {c : NameClass} → ClassSteps c c
  class_step_and : {c d e : NameClass} → ClassStep c d → ClassSteps d e → ClassSteps c e

-- d is reached from c by steps, and no step applies to d
pub record IsSimpleClassOf (c d : NameClass) : Type 0 where
  pub reached : ClassSteps c d
  pub simple : (e : NameClass) → ¬ (ClassStep d e)

-- ---- patterns

pub data RuleGroup : Type 0 where
  -- 4.12 to 4.15
  rewriting : RuleGroup
  -- 4.20 and 4.21
  propagation : RuleGroup

-- notAllowed is one of the trees
pub data HasNotAllowed {L : Type 0} : Trees L → Type 0 where
  this_one : {ts : Trees L} → HasNotAllowed (tree_and not_allowed ts)
  later_one : {t : Tree L} {ts : Trees L} → HasNotAllowed ts → HasNotAllowed (tree_and t ts)

-- one step of a group
mutual
  pub data Step {L : Type 0} : RuleGroup → Tree L → Tree L → Type 0 where
    -- 4.12: three members or more are nested in twos from the left
    nest : {k : Connector} {a b c : Tree L} {cs : Trees L} → Step rewriting (joined k a b (tree_and c cs)) (joined k (joined k a b no_trees) c cs)
    in_class : {c d : NameClass} {a : Tree L} → ClassStep c d → Step rewriting (attribute c a) (attribute d a)
    -- 4.13: mixed is an interleave with text
    mixed_is : {a : Tree L} → Step rewriting (mixed a) (joined interleave a text no_trees)
    -- 4.14: optional is a choice with empty
    optional_is : {a : Tree L} → Step rewriting (optional a) (joined choice a empty no_trees)
    -- 4.15: zeroOrMore is a choice of oneOrMore and empty
    zero_or_more_is : {a : Tree L} → Step rewriting (zero_or_more a) (joined choice (one_or_more a) empty no_trees)
    -- 4.20: a pattern with a notAllowed child is notAllowed, unless it is a choice
    attribute_not_allowed : {c : NameClass} → Step propagation (attribute c not_allowed) not_allowed
    list_not_allowed : Step propagation (list not_allowed) not_allowed
    one_or_more_not_allowed : Step propagation (one_or_more not_allowed) not_allowed
    first_not_allowed : {k : Connector} {b : Tree L} {ts : Trees L} → k ≢ choice → Step propagation (joined k not_allowed b ts) not_allowed
    second_not_allowed : {k : Connector} {a : Tree L} {ts : Trees L} → k ≢ choice → Step propagation (joined k a not_allowed ts) not_allowed
    other_not_allowed : {k : Connector} {a b : Tree L} {ts : Trees L} → k ≢ choice → HasNotAllowed ts
        → Step propagation (joined k a b ts) not_allowed
    -- 4.20: a choice with one notAllowed side is the other side; with two, it is notAllowed; a notAllowed except is
    -- removed
    no_first_side : {b : Tree L} → Step propagation (joined choice not_allowed b no_trees) b
    no_second_side : {a : Tree L} → Step propagation (joined choice a not_allowed no_trees) a
    no_except : {d : Datatype} → Step propagation (data_except d not_allowed) (data_of d)
    -- 4.21: two empties are empty
    two_empties : {k : Connector} → Step propagation (joined k empty empty no_trees) empty
    -- 4.21: a group or interleave with one empty side is the other side
    first_empty : {k : Connector} {b : Tree L} → k ≢ choice → Step propagation (joined k empty b no_trees) b
    second_empty : {k : Connector} {a : Tree L} → k ≢ choice → Step propagation (joined k a empty no_trees) a
    -- 4.21: a choice with empty as its second side, and not as its first, swaps its sides
    sides_change : {a : Tree L} → a ≢ empty → Step propagation (joined choice a empty no_trees) (joined choice empty a no_trees)
    -- 4.21: oneOrMore of empty is empty
    one_or_more_empty : Step propagation (one_or_more empty) empty
    -- a step inside the tree
    in_attribute : {g : RuleGroup} {c : NameClass} {a b : Tree L} → Step g a b → Step g (attribute c a) (attribute c b)
    in_list : {g : RuleGroup} {a b : Tree L} → Step g a b → Step g (list a) (list b)
    in_except : {g : RuleGroup} {d : Datatype} {a b : Tree L} → Step g a b → Step g (data_except d a) (data_except d b)
    in_mixed : {g : RuleGroup} {a b : Tree L} → Step g a b → Step g (mixed a) (mixed b)
    in_optional : {g : RuleGroup} {a b : Tree L} → Step g a b → Step g (optional a) (optional b)
    in_zero_or_more : {g : RuleGroup} {a b : Tree L} → Step g a b → Step g (zero_or_more a) (zero_or_more b)
    in_one_or_more : {g : RuleGroup} {a b : Tree L} → Step g a b → Step g (one_or_more a) (one_or_more b)
    in_first : {g : RuleGroup} {k : Connector} {a b c : Tree L} {ts : Trees L} → Step g a b → Step g (joined k a c ts) (joined k b c ts)
    in_second : {g : RuleGroup} {k : Connector} {a b c : Tree L} {ts : Trees L} → Step g a b → Step g (joined k c a ts) (joined k c b ts)
    in_others : {g : RuleGroup} {k : Connector} {a b : Tree L} {ts us : Trees L} → StepAmong g ts us → Step g (joined k a b ts) (joined k a b us)

  -- one step in one of the trees
  pub data StepAmong {L : Type 0} : RuleGroup → Trees L → Trees L → Type 0 where
    this_member : {g : RuleGroup} {a b : Tree L} {ts : Trees L} → Step g a b → StepAmong g (tree_and a ts) (tree_and b ts)
    later_member : {g : RuleGroup} {a : Tree L} {ts us : Trees L} → StepAmong g ts us → StepAmong g (tree_and a ts) (tree_and a us)

-- one step of either group
abbrev pub AnyStep : {L : Type 0} → Tree L → Tree L → Type 0
AnyStep a b = (g : RuleGroup) × Step g a b

-- any number of these steps
pub data Steps {L : Type 0} (IsStep : Tree L → Tree L → Type 0) : Tree L → Tree L → Type 0 where
  no_step : {a : Tree L} → Steps IsStep a a
  step_and : {a b c : Tree L} → IsStep a b → Steps IsStep b c → Steps IsStep a c

-- b is reached from a by these steps, and none applies to b
pub record IsLast {L : Type 0} (IsStep : Tree L → Tree L → Type 0) (a b : Tree L) : Type 0 where
  pub reached : Steps IsStep a b
  pub last : (c : Tree L) → ¬ (IsStep b c)

-- 4.12 to 4.15 are applied to a, and no other rule
abbrev pub IsRewritten : {L : Type 0} → Tree L → Tree L → Type 0
IsRewritten a b = IsLast (Step rewriting) a b

-- all rules are applied to a, in any order
abbrev pub IsSimpleFormOf : {L : Type 0} → Tree L → Tree L → Type 0
IsSimpleFormOf a b = IsLast AnyStep a b
