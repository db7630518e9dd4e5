-- The rules of 4.12 to 4.15 lead each tree to its form in twos, and to no other.
use Rattle.std.proofs.Common.{◌≡◌, ◌↔◌, subst, refl, ap, ◌∙◌, sym}
use Rattle.rng_model.specs.names.Names.{NameClass}
use Rattle.rng_model.specs.simple.Tree.{Datatype, Connector, choice, interleave}
use Rattle.rng_model.specs.simple.Tree.{Tree, not_allowed, empty, text, leaf, attribute, list, data_of, data_except, value, mixed, optional, zero_or_more}
use Rattle.rng_model.specs.simple.Tree.{one_or_more}
use Rattle.rng_model.specs.simple.Tree.{joined, Trees, no_trees, tree_and}
use Rattle.rng_model.specs.simple.Tree.{Simple, s_not_allowed, s_empty, s_text, s_leaf, s_attribute, s_list, s_data, s_data_except, s_value, s_one_or_more}
use Rattle.rng_model.specs.simple.Tree.{s_joined}
use Rattle.rng_model.specs.simple.Tree.{as_tree}
use Rattle.rng_model.specs.simple.Simplification.{ClassStep, ClassSteps, rewriting, Step, StepAmong, Steps, IsRewritten}
use Rattle.rng_model.specs.simple.Simplification as step
use Rattle.rng_simple.specs.plain.InTwos.{nested, in_twos, more_in_twos}
use Rattle.rng_simple.proofs.Trees.SimpleClass.{class_keeps, class_unchanged, class_normal, class_reached}

module _ {L : Type 0} where
  -- no rule of the group applies
  abbrev IsLastTree : Tree L → Type 0
  IsLastTree a = (b : Tree L) → Step rewriting a b → ⊥

  -- ---- a step keeps the tree in twos

  mutual
    step_keeps : {a b : Tree L} → Step rewriting a b → in_twos a ≡ in_twos b
    step_keeps step.nest = refl
    step_keeps (step.in_class {a = a} s) = ap (λ c. s_attribute c (in_twos a)) (class_keeps s)
    step_keeps step.mixed_is = refl
    step_keeps step.optional_is = refl
    step_keeps step.zero_or_more_is = refl
    step_keeps (step.in_attribute {c = c} s) = ap (s_attribute (nested c)) (step_keeps s)
    step_keeps (step.in_list s) = ap s_list (step_keeps s)
    step_keeps (step.in_except {d = d} s) = ap (s_data_except d) (step_keeps s)
    step_keeps (step.in_mixed s) = ap (λ (x : Simple L). s_joined interleave x s_text) (step_keeps s)
    step_keeps (step.in_optional s) = ap (λ (x : Simple L). s_joined choice x s_empty) (step_keeps s)
    step_keeps (step.in_zero_or_more s) = ap (λ (x : Simple L). s_joined choice (s_one_or_more x) s_empty) (step_keeps s)
    step_keeps (step.in_one_or_more s) = ap s_one_or_more (step_keeps s)
    step_keeps (step.in_first {k = k} {c = c} {ts = ts} s) = ap (λ (x : Simple L). more_in_twos k (s_joined k x (in_twos c)) ts) (step_keeps s)
    step_keeps (step.in_second {k = k} {c = c} {ts = ts} s) = ap (λ (x : Simple L). more_in_twos k (s_joined k (in_twos c) x) ts) (step_keeps s)
    step_keeps (step.in_others s) = among_keep s _ _

    among_keep : {ts us : Trees L} → StepAmong rewriting ts us → (k : Connector) (p : Simple L) → more_in_twos k p ts ≡ more_in_twos k p us
    among_keep (step.this_member {ts = ts} s) k p = ap (λ (x : Simple L). more_in_twos k (s_joined k p x) ts) (step_keeps s)
    among_keep (step.later_member s) k p = among_keep s k _

  steps_keep : {a b : Tree L} → Steps (Step rewriting) a b → in_twos a ≡ in_twos b
  steps_keep step.no_step = refl
  steps_keep (step.step_and s d) = step_keeps s ∙ steps_keep d

  -- ---- a tree in the simple syntax in which no rule applies is unchanged

  unchanged : (p : Simple L) → IsLastTree (as_tree p) → in_twos (as_tree p) ≡ p
  unchanged s_not_allowed n = refl
  unchanged s_empty n = refl
  unchanged s_text n = refl
  unchanged (s_leaf l) n = refl
  unchanged (s_attribute c p) n =
      let e = unchanged p (λ b s. n _ (step.in_attribute s)) in
      let f = class_unchanged c (λ d s. n _ (step.in_class s)) in
      rw (e, f) refl
  unchanged (s_list p) n = ap s_list (unchanged p (λ b s. n _ (step.in_list s)))
  unchanged (s_data d) n = refl
  unchanged (s_data_except d p) n = ap (s_data_except d) (unchanged p (λ b s. n _ (step.in_except s)))
  unchanged (s_value d v) n = refl
  unchanged (s_one_or_more p) n = ap s_one_or_more (unchanged p (λ b s. n _ (step.in_one_or_more s)))
  unchanged (s_joined k p q) n =
      let e = unchanged p (λ b s. n _ (step.in_first s)) in
      let f = unchanged q (λ b s. n _ (step.in_second s)) in
      rw (e, f) refl

  -- ---- no rule applies in a tree in twos

  joined_last : (k : Connector) (p q : Simple L) → IsLastTree (as_tree p) → IsLastTree (as_tree q) → IsLastTree (as_tree (s_joined k p q))
  joined_last k p q m n b (step.in_first s) = m _ s
  joined_last k p q m n b (step.in_second s) = n _ s
  joined_last k p q m n b (step.in_others s) = elim s [ ]

  repeated_last : (p : Simple L) → IsLastTree (as_tree p) → IsLastTree (as_tree (s_one_or_more p))
  repeated_last p n b (step.in_one_or_more s) = n _ s

  attribute_last : (c : NameClass) (p : Simple L) → ((d : NameClass) → ClassStep c d → ⊥) → IsLastTree (as_tree p)
      → IsLastTree (as_tree (s_attribute c p))
  attribute_last c p m n b (step.in_class s) = m _ s
  attribute_last c p m n b (step.in_attribute s) = n _ s

  list_last : (p : Simple L) → IsLastTree (as_tree p) → IsLastTree (as_tree (s_list p))
  list_last p n b (step.in_list s) = n _ s

  except_last : (d : Datatype) (p : Simple L) → IsLastTree (as_tree p) → IsLastTree (as_tree (s_data_except d p))
  except_last d p n b (step.in_except s) = n _ s

  empty_last : IsLastTree empty
  empty_last b s = elim s [ ]

  text_last : IsLastTree text
  text_last b s = elim s [ ]

  mutual
    last : (a : Tree L) → IsLastTree (as_tree (in_twos a))
    last not_allowed = λ b s. elim s [ ]
    last empty = empty_last
    last text = text_last
    last (leaf l) = λ b s. elim s [ ]
    last (attribute c a) = attribute_last (nested c) (in_twos a) (class_normal c) (last a)
    last (list a) = list_last (in_twos a) (last a)
    last (data_of d) = λ b s. elim s [ ]
    last (data_except d a) = except_last d (in_twos a) (last a)
    last (value d v) = λ b s. elim s [ ]
    last (mixed a) = joined_last interleave (in_twos a) s_text (last a) text_last
    last (optional a) = joined_last choice (in_twos a) s_empty (last a) empty_last
    last (zero_or_more a) = joined_last choice (s_one_or_more (in_twos a)) s_empty (repeated_last (in_twos a) (last a)) empty_last
    last (one_or_more a) = repeated_last (in_twos a) (last a)
    last (joined k a b ts) = more_last ts k (s_joined k (in_twos a) (in_twos b)) (joined_last k (in_twos a) (in_twos b) (last a) (last b))

    more_last : (ts : Trees L) (k : Connector) (p : Simple L) → IsLastTree (as_tree p) → IsLastTree (as_tree (more_in_twos k p ts))
    more_last no_trees k p n = n
    more_last (tree_and a ts) k p n = more_last ts k (s_joined k p (in_twos a)) (joined_last k p (in_twos a) n (last a))

  -- ---- the tree in twos is reached by steps

  after : {a b c : Tree L} → Steps (Step rewriting) a b → Steps (Step rewriting) b c → Steps (Step rewriting) a c
  after step.no_step e = e
  after (step.step_and s d) e = step.step_and s (after d e)

  -- steps inside a tree
  inside : (F : Tree L → Tree L) → ((a b : Tree L) → Step rewriting a b → Step rewriting (F a) (F b)) → {a b : Tree L} → Steps (Step rewriting) a b
      → Steps (Step rewriting) (F a) (F b)
  inside F f step.no_step = step.no_step
  inside F f (step.step_and s d) = step.step_and (f _ _ s) (inside F f d)

  of_class : (a : Tree L) {c d : NameClass} → ClassSteps c d → Steps (Step rewriting) (attribute c a) (attribute d a)
  of_class a step.no_class_step = step.no_step
  of_class a (step.class_step_and s d) = step.step_and (step.in_class s) (of_class a d)

  mutual
    reached : (a : Tree L) → Steps (Step rewriting) a (as_tree (in_twos a))
    reached not_allowed = step.no_step
    reached empty = step.no_step
    reached text = step.no_step
    reached (leaf l) = step.no_step
    reached (attribute c a) =
        after (of_class a (class_reached c)) (inside (attribute (nested c)) (λ x y s. step.in_attribute s) (reached a))
    reached (list a) = inside list (λ x y s. step.in_list s) (reached a)
    reached (data_of d) = step.no_step
    reached (data_except d a) = inside (data_except d) (λ x y s. step.in_except s) (reached a)
    reached (value d v) = step.no_step
    reached (mixed a) = step.step_and step.mixed_is (inside (λ x. joined interleave x text no_trees) (λ x y s. step.in_first s) (reached a))
    reached (optional a) = step.step_and step.optional_is (inside (λ x. joined choice x empty no_trees) (λ x y s. step.in_first s) (reached a))
    reached (zero_or_more a) =
        step.step_and step.zero_or_more_is
        (inside (λ x. joined choice (one_or_more x) empty no_trees) (λ x y s. step.in_first (step.in_one_or_more s)) (reached a))
    reached (one_or_more a) = inside one_or_more (λ x y s. step.in_one_or_more s) (reached a)
    reached (joined k a b ts) =
        after (inside (λ x. joined k x b ts) (λ x y s. step.in_first s) (reached a))
        (after (inside (λ x. joined k (as_tree (in_twos a)) x ts) (λ x y s. step.in_second s) (reached b)) (more_reached ts k (in_twos a) (in_twos b)))

    more_reached : (ts : Trees L) (k : Connector) (p q : Simple L)
        → Steps (Step rewriting) (joined k (as_tree p) (as_tree q) ts) (as_tree (more_in_twos k (s_joined k p q) ts))
    more_reached no_trees k p q = step.no_step
    more_reached (tree_and a ts) k p q =
        step.step_and step.nest
        (after (inside (λ x. joined k (joined k (as_tree p) (as_tree q) no_trees) x ts) (λ x y s. step.in_second s) (reached a))
        (more_reached ts k (s_joined k p q) (in_twos a)))

  -- ---- so 4.12 to 4.15 lead to the tree in twos

  pub is_rewritten : (a : Tree L) → IsRewritten a (as_tree (in_twos a))
  is_rewritten a = record { reached = reached a; last = last a }

  pub rewritten_is : (a : Tree L) (p : Simple L) → IsRewritten a (as_tree p) → p ≡ in_twos a
  rewritten_is a p r = sym (unchanged p r.last) ∙ sym (steps_keep r.reached)

  pub rewritten_exactly : (a : Tree L) (p : Simple L) → IsRewritten a (as_tree p) ↔ (p ≡ in_twos a)
  rewritten_exactly a p = (rewritten_is a p, λ e. subst (λ q. IsRewritten a (as_tree q)) (sym e) (is_rewritten a))
