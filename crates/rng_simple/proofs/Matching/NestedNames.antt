-- Nesting in twos keeps the names of a class.
use Rattle.std.proofs.Common.{◌⊎◌, inl, inr}
use Rattle.rng_model.specs.names.Names.{Name, NameClass, any_name, any_except, ns_name, ns_except, name_is, one_of, NameClasses, no_classes, class_and}
use Rattle.rng_model.specs.simple.Simplification.{ClassStep, ClassesStep}
use Rattle.rng_model.specs.simple.Simplification as step
use Rattle.rng_simple.specs.plain.InTwos.{nested, nested_after}
use Rattle.rng_model.specs.names.Names.{In, InSome}

pub shift : {A B C D : Type 0} → A ⊎ (B ⊎ (C ⊎ D)) → (A ⊎ (B ⊎ ⊥)) ⊎ (C ⊎ D)
shift (inl a) = inl (inl a)
shift (inr (inl b)) = inl (inr (inl b))
shift (inr (inr (inl c))) = inr (inl c)
shift (inr (inr (inr d))) = inr (inr d)

pub unshift : {A B C D : Type 0} → (A ⊎ (B ⊎ ⊥)) ⊎ (C ⊎ D) → A ⊎ (B ⊎ (C ⊎ D))
unshift (inl (inl a)) = inl a
unshift (inl (inr (inl b))) = inr (inl b)
unshift (inl (inr (inr z))) = absurd z
unshift (inr (inl c)) = inr (inr (inl c))
unshift (inr (inr d)) = inr (inr (inr d))

pub either : {A B C D : Type 0} → (A → C) → (B → D) → A ⊎ B → C ⊎ D
either f g (inl a) = inl (f a)
either f g (inr b) = inr (g b)

mutual
  pub class_in : (c d : NameClass) → ClassStep c d → (q : Name) → In c q → In d q
  class_in _ _ step.nest_class q h = shift h
  class_in _ _ (step.in_any_except s) q h = λ i. h (class_out _ _ s q i)
  class_in _ _ (step.in_ns_except s) q h = (h.0, λ i. h.1 (class_out _ _ s q i))
  class_in _ _ (step.in_first_class s) q h = either (class_in _ _ s q) (λ i. i) h
  class_in _ _ (step.in_second_class s) q h = either (λ i. i) (λ k. either (class_in _ _ s q) (λ i. i) k) h
  class_in _ _ (step.in_other_classes s) q h = either (λ i. i) (λ k. either (λ i. i) (some_in _ _ s q) k) h

  pub class_out : (c d : NameClass) → ClassStep c d → (q : Name) → In d q → In c q
  class_out _ _ step.nest_class q h = unshift h
  class_out _ _ (step.in_any_except s) q h = λ i. h (class_in _ _ s q i)
  class_out _ _ (step.in_ns_except s) q h = (h.0, λ i. h.1 (class_in _ _ s q i))
  class_out _ _ (step.in_first_class s) q h = either (class_out _ _ s q) (λ i. i) h
  class_out _ _ (step.in_second_class s) q h = either (λ i. i) (λ k. either (class_out _ _ s q) (λ i. i) k) h
  class_out _ _ (step.in_other_classes s) q h = either (λ i. i) (λ k. either (λ i. i) (some_out _ _ s q) k) h

  some_in : (cs ds : NameClasses) → ClassesStep cs ds → (q : Name) → InSome cs q → InSome ds q
  some_in _ _ (step.this_class s) q h = either (class_in _ _ s q) (λ i. i) h
  some_in _ _ (step.later_class s) q h = either (λ i. i) (some_in _ _ s q) h

  some_out : (cs ds : NameClasses) → ClassesStep cs ds → (q : Name) → InSome ds q → InSome cs q
  some_out _ _ (step.this_class s) q h = either (class_out _ _ s q) (λ i. i) h
  some_out _ _ (step.later_class s) q h = either (λ i. i) (some_out _ _ s q) h

joined_out : (c d : NameClass) (cs : NameClasses) (q : Name) → (In (nested c) q → In c q) → (In (nested d) q → In d q)
    → In (one_of (nested c) (nested d) no_classes) q ⊎ InSome cs q → In (one_of c d cs) q
joined_out c d cs q f g (inl (inl h)) = inl (f h)
joined_out c d cs q f g (inl (inr (inl h))) = inr (inl (g h))
joined_out c d cs q f g (inl (inr (inr h))) = absurd h
joined_out c d cs q f g (inr h) = inr (inr h)

front : {A B C D : Type 0} → (B → C) → (A ⊎ (B ⊎ ⊥)) ⊎ D → A ⊎ (C ⊎ D)
front f (inl (inl h)) = inl h
front f (inl (inr (inl h))) = inr (inl (f h))
front f (inl (inr (inr h))) = absurd h
front f (inr h) = inr (inr h)

mutual
  pub nested_in : (c : NameClass) (q : Name) → In c q → In (nested c) q
  nested_in any_name q h = h
  nested_in (any_except c) q h = λ i. h (nested_out c q i)
  nested_in (ns_name u) q h = h
  nested_in (ns_except u c) q h = (h.0, λ i. h.1 (nested_out c q i))
  nested_in (name_is n) q h = h
  nested_in (one_of c d cs) q (inl h) = after_in cs _ q (inl (inl (nested_in c q h)))
  nested_in (one_of c d cs) q (inr (inl h)) = after_in cs _ q (inl (inr (inl (nested_in d q h))))
  nested_in (one_of c d cs) q (inr (inr h)) = after_in cs _ q (inr h)

  after_in : (cs : NameClasses) (c : NameClass) (q : Name) → In c q ⊎ InSome cs q → In (nested_after c cs) q
  after_in no_classes c q (inl h) = h
  after_in no_classes c q (inr h) = absurd h
  after_in (class_and d ds) c q (inl h) = after_in ds _ q (inl (inl h))
  after_in (class_and d ds) c q (inr (inl h)) = after_in ds _ q (inl (inr (inl (nested_in d q h))))
  after_in (class_and d ds) c q (inr (inr h)) = after_in ds _ q (inr h)

  pub nested_out : (c : NameClass) (q : Name) → In (nested c) q → In c q
  nested_out any_name q h = h
  nested_out (any_except c) q h = λ i. h (nested_in c q i)
  nested_out (ns_name u) q h = h
  nested_out (ns_except u c) q h = (h.0, λ i. h.1 (nested_in c q i))
  nested_out (name_is n) q h = h
  nested_out (one_of c d cs) q h = joined_out c d cs q (nested_out c q) (nested_out d q) (after_out cs _ q h)

  after_out : (cs : NameClasses) (c : NameClass) (q : Name) → In (nested_after c cs) q → In c q ⊎ InSome cs q
  after_out no_classes c q h = inl h
  after_out (class_and d ds) c q h = front (nested_out d q) (after_out ds _ q h)
