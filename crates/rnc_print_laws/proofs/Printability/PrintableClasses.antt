-- A step of simplification in a name class keeps its names, and the parentheses of its printed text.
use Rattle.std.proofs.Common.{◌≡◌, refl, sym, subst, ap, ℕ, ◌≤◌, max, ◌||◌, arith}
use Rattle.rng_model.specs.names.Names.{NameClass, NameClasses}
use Rattle.rng_model.specs.simple.Simplification as step
use Rattle.rng_model.specs.simple.Simplification.{ClassStep, ClassesStep, ClassSteps, IsSimpleClassOf}
use Rattle.rncv_model.specs.printed.Words.{is_choice, is_except}
use Rattle.rnc_model.specs.grammar.Sentence.{nesting_limit}
use Rattle.rnc_print_laws.specs.plain.Printable.{HasNames, HaveNames, one_more_if, parentheses, parentheses_among, IsPrintableClass}

-- ---- names

mutual
  step_names : {c d : NameClass} → ClassStep c d → HasNames c → HasNames d
  step_names step.nest_class h = ((h.0, h.1, tt), h.2.0, h.2.1)
  step_names (step.in_any_except s) h = step_names s h
  step_names (step.in_ns_except s) h = (h.0, step_names s h.1)
  step_names (step.in_first_class s) h = (step_names s h.0, h.1, h.2)
  step_names (step.in_second_class s) h = (h.0, step_names s h.1, h.2)
  step_names (step.in_other_classes s) h = (h.0, h.1, among_names s h.2)

  among_names : {cs ds : NameClasses} → ClassesStep cs ds → HaveNames cs → HaveNames ds
  among_names (step.this_class s) h = (step_names s h.0, h.1)
  among_names (step.later_class s) h = (h.0, among_names s h.1)

-- ---- parentheses

-- a choice stays a choice, and a class with an except keeps one
same_kind : {c d : NameClass} → ClassStep c d → (is_choice d ≡ is_choice c) × (is_except d ≡ is_except c)
same_kind step.nest_class = (refl, refl)
same_kind (step.in_any_except s) = (refl, refl)
same_kind (step.in_ns_except s) = (refl, refl)
same_kind (step.in_first_class s) = (refl, refl)
same_kind (step.in_second_class s) = (refl, refl)
same_kind (step.in_other_classes s) = (refl, refl)

nested_max : (a b c d : ℕ) → max (max a (max b 0)) (max c d) ≡ max a (max b (max c d))
nested_max a b c d = omega arith

-- the class has the same parentheses as a member or an except
enclosed : (c d : NameClass) → (is_choice d ≡ is_choice c) × (is_except d ≡ is_except c) → parentheses d ≡ parentheses c
    → one_more_if (is_choice d || is_except d) (parentheses d) ≡ one_more_if (is_choice c || is_except c) (parentheses c)
enclosed c d k e = rw (k.0, k.1, e) refl

enclosed_first : (c d : NameClass) → (is_choice d ≡ is_choice c) × (is_except d ≡ is_except c) → parentheses d ≡ parentheses c
    → one_more_if (is_except d) (parentheses d) ≡ one_more_if (is_except c) (parentheses c)
enclosed_first c d k e = rw (k.1, e) refl

mutual
  step_parentheses : {c d : NameClass} → ClassStep c d → parentheses d ≡ parentheses c
  step_parentheses (step.nest_class {c} {d} {e} {cs}) = nested_max (one_more_if (is_except c) (parentheses c))
      (one_more_if (is_choice d || is_except d) (parentheses d)) (one_more_if (is_choice e || is_except e) (parentheses e)) (parentheses_among cs)
  step_parentheses (step.in_any_except {c} {d} s) = enclosed c d (same_kind s) (step_parentheses s)
  step_parentheses (step.in_ns_except {u} {c} {d} s) = enclosed c d (same_kind s) (step_parentheses s)
  step_parentheses (step.in_first_class {c} {d} {e} {cs} s) =
      ap (λ (n : ℕ). max n (max (one_more_if (is_choice e || is_except e) (parentheses e)) (parentheses_among cs)))
      (enclosed_first c d (same_kind s) (step_parentheses s))
  step_parentheses (step.in_second_class {c} {d} {e} {cs} s) =
      ap (λ (n : ℕ). max (one_more_if (is_except e) (parentheses e)) (max n (parentheses_among cs))) (enclosed c d (same_kind s) (step_parentheses s))
  step_parentheses (step.in_other_classes {c} {d} {cs} {ds} s) =
      ap (λ (n : ℕ). max (one_more_if (is_except c) (parentheses c)) (max (one_more_if (is_choice d || is_except d) (parentheses d)) n))
      (among_parentheses s)

  among_parentheses : {cs ds : NameClasses} → ClassesStep cs ds → parentheses_among ds ≡ parentheses_among cs
  among_parentheses (step.this_class {c} {d} {cs} s) =
      ap (λ (n : ℕ). max n (parentheses_among cs)) (enclosed c d (same_kind s) (step_parentheses s))
  among_parentheses (step.later_class {c} s) =
      ap (λ (n : ℕ). max (one_more_if (is_choice c || is_except c) (parentheses c)) n) (among_parentheses s)

-- ---- printable classes

pub step_printable : {c d : NameClass} → ClassStep c d → IsPrintableClass c → IsPrintableClass d
step_printable s h = (step_names s h.0, subst (λ (n : ℕ). n ≤ nesting_limit) (sym (step_parentheses s)) h.1)

steps_printable : {c d : NameClass} → ClassSteps c d → IsPrintableClass c → IsPrintableClass d
steps_printable step.no_class_step h = h
steps_printable (step.class_step_and s more) h = steps_printable more (step_printable s h)

pub simple_printable : {c d : NameClass} → IsSimpleClassOf c d → IsPrintableClass c → IsPrintableClass d
simple_printable s h = steps_printable s.reached h
