-- Members of lists, and lists that are the same.
use Rattle.std.proofs.Common.{◌≡◌, ◌⊎◌, inl, inr, ap, ◌∙◌, zero, suc, List, [], ◌∷◌, map, get_or, All, Contains, arith}
use Rattle.std.specs.List.{AllByRecursion}
use Rattle.std.proofs.lemmas.List.{get_or-map, length-map}
use Rattle.std.proofs.lemmas.List.Elements.{Contains-get_or}
use Rattle.rng_model.specs.names.Lists.{Among, here, there}

pub not_in_none : {A : Type 0} {x : A} → Contains [] x → ⊥
not_in_none c = let h = c.1 in omega arith

pub one_only : {A : Type 0} (x y : A) → Contains (x ∷ []) y → x ≡ y
one_only x y (zero, lt, e) = e
one_only x y (suc k, lt, e) = absurd (omega (arith, lt))

pub first_or_later : {A : Type 0} (x : A) (xs : List A) (y : A) → Contains (x ∷ xs) y → (x ≡ y) ⊎ Contains xs y
first_or_later x xs y (zero, lt, e) = inl e
first_or_later x xs y (suc k, lt, e) = inr (k, omega (arith, lt), e)

pub contains_mapped : {A B : Type 0} (f : A → B) (xs : List A) (x : A) → Contains xs x → Contains (map f xs) (f x)
contains_mapped f xs x c = (c.0, omega (arith, c.1, length-map xs f), get_or-map f xs c.0 x (f x) c.1 ∙ ap f c.2)

pub all_from_members : {A : Type 0} (P : A → Type 0) (xs : List A) → ((x : A) → Contains xs x → P x) → All P xs
all_from_members P xs f = λ k d h. f (get_or xs k d) (Contains-get_or xs k d h)

pub all_among : {A : Type 0} (P : A → Type 0) {x : A} {xs : List A} → AllByRecursion P xs → Among x xs → P x
all_among P h here = h.0
all_among P h (there i) = all_among P h.1 i

pub among_mapped : {A B : Type 0} (f : A → B) {x : A} {xs : List A} → Among x xs → Among (f x) (map f xs)
among_mapped f here = here
among_mapped f (there a) = there (among_mapped f a)

-- ---- the same lists

pub same_first : {A : Type 0} {x y : A} {xs ys : List A} → x ∷ xs ≡ y ∷ ys → x ≡ y
same_first e = cc

pub same_rest : {A : Type 0} {x y : A} {xs ys : List A} → x ∷ xs ≡ y ∷ ys → xs ≡ ys
same_rest e = cc

pub one_or_none : {A : Type 0} {x : A} {xs : List A} → x ∷ xs ≡ [] → ⊥
one_or_none e = cc
