-- One of a list has a property.
use Rattle.std.proofs.Common.{◌≡◌, ◌⊎◌, List, [], ◌∷◌, ◌++◌, map, Bool, true, false, cond, refl, subst, inl, inr}
use Rattle.std.specs.List.{list_any}
use Rattle.std.proofs.lemmas.Bool.{or_left, or_right, or_cases}
use Rattle.rng_model.specs.regexes.plain.LinearForms.{OneOf}

module _ {A : Type 0} (P : A → Type 0) where
  pub in_first : (xs ys : List A) → OneOf P xs → OneOf P (xs ++ ys)
  in_first [] ys h = absurd h
  in_first (x ∷ xs) ys (inl h) = inl h
  in_first (x ∷ xs) ys (inr h) = inr (in_first xs ys h)

  pub in_second : (xs ys : List A) → OneOf P ys → OneOf P (xs ++ ys)
  in_second [] ys h = h
  in_second (x ∷ xs) ys h = inr (in_second xs ys h)

  pub of_both : (xs ys : List A) → OneOf P (xs ++ ys) → OneOf P xs ⊎ OneOf P ys
  of_both [] ys h = inr h
  of_both (x ∷ xs) ys (inl h) = inl (inl h)
  of_both (x ∷ xs) ys (inr h) = elim (of_both xs ys h) [ inl a ↦ inl (inr a) | inr b ↦ inr b ]

  pub under_in : (b : Bool) (xs : List A) → b ≡ true → OneOf P xs → OneOf P (cond b xs [])
  under_in true xs e h = h
  under_in false xs e h = absurd (cc)

  pub under_out : (b : Bool) (xs : List A) → OneOf P (cond b xs []) → (b ≡ true) × OneOf P xs
  under_out true xs h = (refl, h)
  under_out false xs h = absurd h

  pub unless_in : (b : Bool) (xs : List A) → b ≡ false → OneOf P xs → OneOf P (cond b [] xs)
  unless_in false xs e h = h
  unless_in true xs e h = absurd (cc)

  pub unless_out : (b : Bool) (xs : List A) → OneOf P (cond b [] xs) → (b ≡ false) × OneOf P xs
  unless_out false xs h = (refl, h)
  unless_out true xs h = absurd h

  -- the first one is kept under a test
  pub kept_in : (b : Bool) (x : A) (xs : List A) → b ≡ true → P x → OneOf P (cond b (x ∷ xs) xs)
  kept_in true x xs e h = inl h
  kept_in false x xs e h = absurd (cc)

  pub passed_in : (b : Bool) (x : A) (xs : List A) → OneOf P xs → OneOf P (cond b (x ∷ xs) xs)
  passed_in true x xs h = inr h
  passed_in false x xs h = h

  pub kept_out : (b : Bool) (x : A) (xs : List A) → OneOf P (cond b (x ∷ xs) xs) → ((b ≡ true) × P x) ⊎ OneOf P xs
  kept_out true x xs (inl h) = inl (refl, h)
  kept_out true x xs (inr h) = inr h
  kept_out false x xs h = inr h

pub each_to : {A B : Type 0} (P : A → Type 0) (Q : B → Type 0) (f : A → B) (xs : List A) → ((x : A) → P x → Q (f x)) → OneOf P xs → OneOf Q (map f xs)
each_to P Q f [] g h = h
each_to P Q f (x ∷ xs) g (inl h) = inl (g x h)
each_to P Q f (x ∷ xs) g (inr h) = inr (each_to P Q f xs g h)

pub each_from : {A B : Type 0} (P : A → Type 0) (Q : B → Type 0) (f : A → B) (xs : List A) → ((x : A) → Q (f x) → P x) → OneOf Q (map f xs) → OneOf P xs
each_from P Q f [] g h = h
each_from P Q f (x ∷ xs) g (inl h) = inl (g x h)
each_from P Q f (x ∷ xs) g (inr h) = inr (each_from P Q f xs g h)

pub one_to : {A : Type 0} (P Q : A → Type 0) (xs : List A) → ((x : A) → P x → Q x) → OneOf P xs → OneOf Q xs
one_to P Q [] g h = h
one_to P Q (x ∷ xs) g (inl h) = inl (g x h)
one_to P Q (x ∷ xs) g (inr h) = inr (one_to P Q xs g h)

-- ---- a test

pub one_test_if : {A : Type 0} (test : A → Bool) (xs : List A) → OneOf (λ x. test x ≡ true) xs → list_any test xs ≡ true
one_test_if test [] h = absurd h
one_test_if test (x ∷ xs) (inl h) = or_left _ _ h
one_test_if test (x ∷ xs) (inr h) = or_right _ _ (one_test_if test xs h)

pub one_test_then : {A : Type 0} (test : A → Bool) (xs : List A) → list_any test xs ≡ true → OneOf (λ x. test x ≡ true) xs
one_test_then test [] e = absurd (cc)
one_test_then test (x ∷ xs) e = elim (or_cases (test x) (list_any test xs) e) [ inl h ↦ inl h | inr h ↦ inr (one_test_then test xs h) ]

-- ---- members

pub one_member : {A : Type 0} (P : A → Type 0) (xs : List A) → OneOf P xs → (x : A) × OneOf (λ y. x ≡ y) xs × P x
one_member P [] h = absurd h
one_member P (x ∷ xs) (inl h) = (x, inl refl, h)
one_member P (x ∷ xs) (inr h) = let m = one_member P xs h in (m.0, inr m.1, m.2)

pub member_one : {A : Type 0} (P : A → Type 0) (xs : List A) (x : A) → OneOf (λ y. x ≡ y) xs → P x → OneOf P xs
member_one P [] x m h = m
member_one P (y ∷ xs) x (inl e) h = inl (subst P e h)
member_one P (y ∷ xs) x (inr m) h = inr (member_one P xs x m h)

pub one_among : {A : Type 0} (P : A → Type 0) (xs ys : List A) → ((x : A) → OneOf (λ y. x ≡ y) xs → OneOf (λ y. x ≡ y) ys) → OneOf P xs → OneOf P ys
one_among P xs ys f h = let m = one_member P xs h in member_one P ys m.0 (f m.0 m.1) m.2
