-- Each name class has one simple form: its members nested in twos.
use Rattle.std.proofs.Common.{◌≡◌, ◌↔◌, subst, refl, ap, ◌∙◌, sym}
use Rattle.rng_model.specs.names.Names.{NameClass, any_name, any_except, ns_name, ns_except, name_is, one_of, NameClasses, no_classes, class_and}
use Rattle.rng_model.specs.simple.Simplification.{ClassStep, ClassesStep, ClassSteps, IsSimpleClassOf}
use Rattle.rng_model.specs.simple.Simplification as step
use Rattle.rng_simple.specs.plain.InTwos.{nested, nested_after}

-- a step keeps the nested class
mutual
  pub class_keeps : {c d : NameClass} → ClassStep c d → nested c ≡ nested d
  class_keeps step.nest_class = refl
  class_keeps (step.in_any_except s) = ap any_except (class_keeps s)
  class_keeps (step.in_ns_except {u} s) = ap (ns_except u) (class_keeps s)
  class_keeps (step.in_first_class {c} {d} {e} {cs} s) = ap (λ x. nested_after (one_of x (nested e) no_classes) cs) (class_keeps s)
  class_keeps (step.in_second_class {c} {d} {e} {cs} s) = ap (λ x. nested_after (one_of (nested e) x no_classes) cs) (class_keeps s)
  class_keeps (step.in_other_classes s) = classes_keep s _

  classes_keep : {cs ds : NameClasses} → ClassesStep cs ds → (e : NameClass) → nested_after e cs ≡ nested_after e ds
  classes_keep (step.this_class {c} {d} {cs} s) e = ap (λ x. nested_after (one_of e x no_classes) cs) (class_keeps s)
  classes_keep (step.later_class s) e = classes_keep s _

class_steps_keep : {c d : NameClass} → ClassSteps c d → nested c ≡ nested d
class_steps_keep step.no_class_step = refl
class_steps_keep (step.class_step_and s d) = class_keeps s ∙ class_steps_keep d

-- a class in which no rule applies is nested
mutual
  pub class_unchanged : (c : NameClass) → ((d : NameClass) → ClassStep c d → ⊥) → nested c ≡ c
  class_unchanged any_name n = refl
  class_unchanged (any_except c) n = ap any_except (class_unchanged c (λ d s. n _ (step.in_any_except s)))
  class_unchanged (ns_name u) n = refl
  class_unchanged (ns_except u c) n = ap (ns_except u) (class_unchanged c (λ d s. n _ (step.in_ns_except s)))
  class_unchanged (name_is x) n = refl
  class_unchanged (one_of c d no_classes) n =
      rw (class_unchanged c (λ e s. n _ (step.in_first_class s)), class_unchanged d (λ e s. n _ (step.in_second_class s))) refl
  class_unchanged (one_of c d (class_and e cs)) n = absurd (n _ step.nest_class)

-- no rule applies in a nested class
pair_normal : (c d : NameClass) → ((e : NameClass) → ClassStep c e → ⊥) → ((e : NameClass) → ClassStep d e → ⊥) → (e : NameClass)
    → ClassStep (one_of c d no_classes) e → ⊥
pair_normal c d m n e (step.in_first_class s) = m _ s
pair_normal c d m n e (step.in_second_class s) = n _ s
pair_normal c d m n e (step.in_other_classes s) = elim s [ ]

mutual
  pub class_normal : (c : NameClass) → (d : NameClass) → ClassStep (nested c) d → ⊥
  class_normal any_name d s = elim s [ ]
  class_normal (any_except c) d (step.in_any_except s) = class_normal c _ s
  class_normal (ns_name u) d s = elim s [ ]
  class_normal (ns_except u c) d (step.in_ns_except s) = class_normal c _ s
  class_normal (name_is x) d s = elim s [ ]
  class_normal (one_of c d cs) e s = after_normal cs (nested c) (nested d) (class_normal c) (class_normal d) e s

  after_normal : (cs : NameClasses) (c d : NameClass) → ((e : NameClass) → ClassStep c e → ⊥) → ((e : NameClass) → ClassStep d e → ⊥) → (e : NameClass)
      → ClassStep (nested_after (one_of c d no_classes) cs) e → ⊥
  after_normal no_classes c d m n e s = pair_normal c d m n e s
  after_normal (class_and f fs) c d m n e s = after_normal fs (one_of c d no_classes) (nested f) (pair_normal c d m n) (class_normal f) e s

class_then : {c d e : NameClass} → ClassSteps c d → ClassSteps d e → ClassSteps c e
class_then step.no_class_step e = e
class_then (step.class_step_and s d) e = step.class_step_and s (class_then d e)

class_once : {c d : NameClass} → ClassStep c d → ClassSteps c d
class_once s = step.class_step_and s step.no_class_step

-- steps inside a class
inside : (F : NameClass → NameClass) → ((c d : NameClass) → ClassStep c d → ClassStep (F c) (F d)) → {c d : NameClass} → ClassSteps c d → ClassSteps (F c) (F d)
inside F f step.no_class_step = step.no_class_step
inside F f (step.class_step_and s d) = step.class_step_and (f _ _ s) (inside F f d)

-- the nested class is reached by steps
mutual
  pub class_reached : (c : NameClass) → ClassSteps c (nested c)
  class_reached any_name = step.no_class_step
  class_reached (any_except c) = inside any_except (λ x y s. step.in_any_except s) (class_reached c)
  class_reached (ns_name u) = step.no_class_step
  class_reached (ns_except u c) = inside (ns_except u) (λ x y s. step.in_ns_except s) (class_reached c)
  class_reached (name_is x) = step.no_class_step
  class_reached (one_of c d cs) =
      class_then (inside (λ x. one_of x d cs) (λ x y s. step.in_first_class s) (class_reached c))
      (class_then (inside (λ x. one_of (nested c) x cs) (λ x y s. step.in_second_class s) (class_reached d))
      (after_reached cs (nested c) (nested d)))

  after_reached : (cs : NameClasses) (c d : NameClass) → ClassSteps (one_of c d cs) (nested_after (one_of c d no_classes) cs)
  after_reached no_classes c d = step.no_class_step
  after_reached (class_and e es) c d =
      step.class_step_and step.nest_class
      (class_then (inside (λ x. one_of (one_of c d no_classes) x es) (λ x y s. step.in_second_class s) (class_reached e))
      (after_reached es (one_of c d no_classes) (nested e)))

pub has_simple_class : (c : NameClass) → IsSimpleClassOf c (nested c)
has_simple_class c = record { reached = class_reached c; simple = class_normal c }

pub is_only_simple_class : (c d : NameClass) → IsSimpleClassOf c d → d ≡ nested c
is_only_simple_class c d f = sym (class_unchanged d f.simple) ∙ sym (class_steps_keep f.reached)

pub simple_class_exactly : (c d : NameClass) → IsSimpleClassOf c d ↔ (d ≡ nested c)
simple_class_exactly c d = (is_only_simple_class c d, λ e. subst (IsSimpleClassOf c) (sym e) (has_simple_class c))
