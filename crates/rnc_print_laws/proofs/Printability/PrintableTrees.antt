-- Trees with only printable parts: the steps of simplification and the joining of bodies keep them so.
use Rattle.std.proofs.Common.{◌≡◌, subst, ℕ, List, [], ◌∷◌, Some}
use Rattle.std.proofs.lemmas.Option.{same_Some, none-some}
use Rattle.rng_model.specs.simple.Tree.{Connector, Tree, not_allowed, empty, text, leaf, attribute, list, data_of, data_except, value, mixed, optional}
use Rattle.rng_model.specs.simple.Tree.{zero_or_more, one_or_more, joined, Trees, no_trees, tree_and, as_tree}
use Rattle.rng_model.specs.simple.Tree.{Simple, s_not_allowed, s_empty, s_text, s_leaf, s_attribute, s_list, s_data, s_data_except, s_value}
use Rattle.rng_model.specs.simple.Tree.{s_one_or_more, s_joined}
use Rattle.rng_model.specs.simple.Leaves.{renamed, LeafIn, LeafAmong}
use Rattle.rng_model.specs.simple.Leaves as at
use Rattle.rng_model.specs.schema.Schema.{nested, nested_from}
use Rattle.rng_model.specs.simple.Simplification as step
use Rattle.rng_model.specs.simple.Simplification.{RuleGroup, Step, StepAmong, AnyStep, Steps}
use Rattle.rnc_print_laws.specs.plain.Printable.{IsText, IsPrintableClass, IsPrintableType, IsPrintableTree}
use Rattle.rnc_print_laws.proofs.Printability.PrintableClasses.{step_printable}

module _ {L : Type 0} (P : L → Type 0) where
  -- its classes, datatypes and texts are printable, and so is each leaf
  abbrev mutual
    pub IsGoodTree : Tree L → Type 0
    IsGoodTree not_allowed = Unit {0}
    IsGoodTree empty = Unit {0}
    IsGoodTree text = Unit {0}
    IsGoodTree (leaf l) = P l
    IsGoodTree (attribute c a) = IsPrintableClass c × IsGoodTree a
    IsGoodTree (list a) = IsGoodTree a
    IsGoodTree (data_of d) = IsPrintableType d
    IsGoodTree (data_except d a) = IsPrintableType d × IsGoodTree a
    IsGoodTree (value d v) = IsPrintableType d × IsText v
    IsGoodTree (mixed a) = IsGoodTree a
    IsGoodTree (optional a) = IsGoodTree a
    IsGoodTree (zero_or_more a) = IsGoodTree a
    IsGoodTree (one_or_more a) = IsGoodTree a
    IsGoodTree (joined k a b ts) = IsGoodTree a × IsGoodTree b × AreGoodTrees ts

    pub AreGoodTrees : Trees L → Type 0
    AreGoodTrees no_trees = Unit {0}
    AreGoodTrees (tree_and a ts) = IsGoodTree a × AreGoodTrees ts

  mutual
    pub leaf_of : {l : L} {a : Tree L} → LeafIn l a → IsGoodTree a → P l
    leaf_of at.here h = h
    leaf_of (at.of_attribute i) h = leaf_of i h.1
    leaf_of (at.of_list i) h = leaf_of i h
    leaf_of (at.of_except i) h = leaf_of i h.1
    leaf_of (at.of_mixed i) h = leaf_of i h
    leaf_of (at.of_optional i) h = leaf_of i h
    leaf_of (at.of_zero_or_more i) h = leaf_of i h
    leaf_of (at.of_one_or_more i) h = leaf_of i h
    leaf_of (at.of_first i) h = leaf_of i h.0
    leaf_of (at.of_second i) h = leaf_of i h.1
    leaf_of (at.of_others i) h = leaf_among i h.2

    leaf_among : {l : L} {ts : Trees L} → LeafAmong l ts → AreGoodTrees ts → P l
    leaf_among (at.in_this i) h = leaf_of i h.0
    leaf_among (at.in_later i) h = leaf_among i h.1

  -- a step keeps this
  mutual
    step_good : {g : RuleGroup} {a b : Tree L} → Step g a b → IsGoodTree a → IsGoodTree b
    step_good step.nest h = ((h.0, h.1, tt), h.2.0, h.2.1)
    step_good (step.in_class s) h = (step_printable s h.0, h.1)
    step_good step.mixed_is h = (h, tt, tt)
    step_good step.optional_is h = (h, tt, tt)
    step_good step.zero_or_more_is h = (h, tt, tt)
    step_good step.attribute_not_allowed h = tt
    step_good step.list_not_allowed h = tt
    step_good step.one_or_more_not_allowed h = tt
    step_good (step.first_not_allowed n) h = tt
    step_good (step.second_not_allowed n) h = tt
    step_good (step.other_not_allowed n i) h = tt
    step_good step.no_first_side h = h.1
    step_good step.no_second_side h = h.0
    step_good step.no_except h = h.0
    step_good step.two_empties h = tt
    step_good (step.first_empty n) h = h.1
    step_good (step.second_empty n) h = h.0
    step_good (step.sides_change n) h = (tt, h.0, tt)
    step_good step.one_or_more_empty h = tt
    step_good (step.in_attribute s) h = (h.0, step_good s h.1)
    step_good (step.in_list s) h = step_good s h
    step_good (step.in_except s) h = (h.0, step_good s h.1)
    step_good (step.in_mixed s) h = step_good s h
    step_good (step.in_optional s) h = step_good s h
    step_good (step.in_zero_or_more s) h = step_good s h
    step_good (step.in_one_or_more s) h = step_good s h
    step_good (step.in_first s) h = (step_good s h.0, h.1, h.2)
    step_good (step.in_second s) h = (h.0, step_good s h.1, h.2)
    step_good (step.in_others s) h = (h.0, h.1, among_good s h.2)

    among_good : {g : RuleGroup} {ts us : Trees L} → StepAmong g ts us → AreGoodTrees ts → AreGoodTrees us
    among_good (step.this_member s) h = (step_good s h.0, h.1)
    among_good (step.later_member s) h = (h.0, among_good s h.1)

  pub steps_good : {a b : Tree L} → Steps AnyStep a b → IsGoodTree a → IsGoodTree b
  steps_good step.no_step h = h
  steps_good (step.step_and s more) h = steps_good more (step_good s.1 h)

  -- ---- the body of a definition, made of such trees

  abbrev pub AreAllGood : List (Tree L) → Type 0
  AreAllGood [] = Unit {0}
  AreAllGood (t ∷ ts) = IsGoodTree t × AreAllGood ts

  from_good : (k : Connector) (a : Tree L) (ts : List (Tree L)) → IsGoodTree a → AreAllGood ts → IsGoodTree (nested_from k a ts)
  from_good k a [] h hs = h
  from_good k a (b ∷ ts) h hs = from_good k (joined k a b no_trees) ts (h, hs.0, tt) hs.1

  pub nested_good : (k : Connector) (ts : List (Tree L)) (a : Tree L) → nested k ts ≡ Some a → AreAllGood ts → IsGoodTree a
  nested_good k [] a e hs = absurd (none-some _ e)
  nested_good k (t ∷ ts) a e hs = subst IsGoodTree (same_Some _ _ e) (from_good k t ts hs.0 hs.1)

  -- ---- trees of a numbered grammar

  pub simple_good : (element : ℕ → L) (p : Simple ℕ) → IsGoodTree (renamed element (as_tree p)) → IsPrintableTree p
  simple_good element s_not_allowed h = tt
  simple_good element s_empty h = tt
  simple_good element s_text h = tt
  simple_good element (s_leaf l) h = tt
  simple_good element (s_attribute c p) h = (h.0, simple_good element p h.1)
  simple_good element (s_list p) h = simple_good element p h
  simple_good element (s_data d) h = h
  simple_good element (s_data_except d p) h = (h.0, simple_good element p h.1)
  simple_good element (s_value d v) h = h
  simple_good element (s_one_or_more p) h = simple_good element p h
  simple_good element (s_joined k p q) h = (simple_good element p h.0, simple_good element q h.1)
