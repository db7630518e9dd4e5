-- What is at a place of a list.
use Rattle.std.proofs.Common.{◌≡◌, ◌⊎◌, inl, inr, refl, sym, ap, subst, ◌∙◌, ℕ, zero, suc, ◌+◌, ◌-◌, ◌<◌, ◌≤◌, List, [], ◌∷◌, ◌++◌, length, map, take, drop, arith}
use Rattle.std.proofs.Common.{get_or, slice_get, Some, None, All, Contains}
use Rattle.std.proofs.lemmas.List.{get_or-map, length-map, take_all, take_more}
use Rattle.std.proofs.lemmas.List.Elements.{All-contains}
use Rattle.std.proofs.lemmas.Option.{get_or_from_slice_get, none-some, same_Some, slice_get-get_or, slice_get_cases, slice_get_within}
use Rattle.rng_model.specs.names.Lists.{Among, here, there}

pub read_at : {A : Type 0} (xs : List A) (i : ℕ) (x y : A) → i < length xs → x ≡ get_or xs i x → x ≡ y → slice_get xs i ≡ Some y
read_at xs i x y h e f = slice_get-get_or xs i x h ∙ ap Some (sym e ∙ f)

-- ---- where a list ends

pub ends_before : {A : Type 0} (xs : List A) (i : ℕ) → slice_get xs i ≡ None → length xs ≤ i
ends_before [] i e = omega arith
ends_before (x ∷ xs) zero e = absurd (none-some x (sym e))
ends_before (x ∷ xs) (suc i) e = let l = ends_before xs i e in omega (arith, l)

pub at_end : {A : Type 0} (xs : List A) (x : A) → slice_get (xs ++ x ∷ []) (length xs) ≡ Some x
at_end [] x = refl
at_end (y ∷ xs) x = at_end xs x

pub at_place_of_end : {A : Type 0} (xs : List A) (x : A) (i : ℕ) → i ≡ length xs → slice_get (xs ++ x ∷ []) i ≡ Some x
at_place_of_end xs x i e = ap (slice_get (xs ++ x ∷ [])) e ∙ at_end xs x

pub none_at : {A : Type 0} (i : ℕ) (x : A) → slice_get [] i ≡ Some x → ⊥
none_at i x e = none-some x e

pub before_or_at_end : {A : Type 0} (xs : List A) (y z : A) (i : ℕ) → slice_get (xs ++ y ∷ []) i ≡ Some z
    → (slice_get xs i ≡ Some z) ⊎ ((i ≡ length xs) × (z ≡ y))
before_or_at_end [] y z zero e = inr (refl, sym (same_Some y z e))
before_or_at_end [] y z (suc i) e = absurd (none-some z e)
before_or_at_end (x ∷ xs) y z zero e = inl e
before_or_at_end (x ∷ xs) y z (suc i) e = elim (before_or_at_end xs y z i e) [ inl f ↦ inl f | inr f ↦ inr (ap suc f.0, f.1) ]

-- ---- the front of a longer list

pub in_front : {A : Type 0} (xs ys : List A) (i : ℕ) (x : A) → slice_get xs i ≡ Some x → slice_get (xs ++ ys) i ≡ Some x
in_front [] ys i x e = absurd (none-some x e)
in_front (z ∷ xs) ys zero x e = e
in_front (z ∷ xs) ys (suc i) x e = in_front xs ys i x e

pub front_stays : {A : Type 0} (xs ys : List A) (i : ℕ) → i < length xs → slice_get (xs ++ ys) i ≡ slice_get xs i
front_stays [] ys i lt = absurd (omega (arith, lt))
front_stays (x ∷ xs) ys zero lt = refl
front_stays (x ∷ xs) ys (suc i) lt = front_stays xs ys i (omega (arith, lt))

pub front_at : {A : Type 0} (xs ys : List A) (i : ℕ) (x : A) → slice_get (xs ++ ys) i ≡ Some x → i < length xs → slice_get xs i ≡ Some x
front_at xs ys i x e h = sym (front_stays xs ys i h) ∙ e

pub first_and_rest : {A : Type 0} (xs : List A) (x : A) → 1 ≤ length xs → x ≡ get_or xs 0 x → x ∷ take (length xs - 1) (drop 1 xs) ≡ xs
first_and_rest [] x h e = absurd (omega arith)
first_and_rest (y ∷ ys) x h e = let p : take (length (y ∷ ys) - 1) ys ≡ ys = take_all (length (y ∷ ys) - 1) ys (omega arith) in cc

pub one_more_mapped : {A B : Type 0} (f : A → B) (xs : List A) (i : ℕ) (x : A) → i < length xs → x ≡ get_or xs i x
    → take (i + 1) (map f xs) ≡ take i (map f xs) ++ f x ∷ []
one_more_mapped f xs i x h e =
    take_more (map f xs) i (f x) (omega (arith, h, length-map xs f)) ∙ ap (λ y. take i (map f xs) ++ y ∷ []) (get_or-map f xs i x (f x) h ∙ ap f (sym e))

-- ---- members

pub contains_at : {A : Type 0} (xs : List A) (i : ℕ) (x : A) → slice_get xs i ≡ Some x → Contains xs x
contains_at xs i x e = (i, slice_get_within xs i x e, get_or_from_slice_get xs i x x e)

pub some_at : {A : Type 0} (xs : List A) (x : A) → Contains xs x → (k : ℕ) × (k < length xs) × (slice_get xs k ≡ Some x)
some_at xs x c = elim (slice_get_cases xs c.0).1 [
  | inl f ↦ (c.0, c.1, f.2 ∙ ap Some (sym (get_or_from_slice_get xs c.0 f.0 x f.2) ∙ c.2))
  | inr f ↦ absurd (let h = c.1 in omega arith)
]

pub all_at : {A : Type 0} (P : A → Type 0) (xs : List A) (i : ℕ) (x : A) → All P xs → slice_get xs i ≡ Some x → P x
all_at P xs i x all e = All-contains P xs x all (contains_at xs i x e)

pub among_at : {A : Type 0} {x : A} {xs : List A} → Among x xs → (i : ℕ) × (slice_get xs i ≡ Some x)
among_at here = (0, refl)
among_at (there a) = let i = among_at a in (suc i.0, i.1)

pub at_among : {A : Type 0} (xs : List A) (i : ℕ) (x : A) → slice_get xs i ≡ Some x → Among x xs
at_among [] i x e = absurd (none-some x e)
at_among (y ∷ xs) zero x e = subst (λ z. Among x (z ∷ xs)) (sym (same_Some y x e)) here
at_among (y ∷ xs) (suc i) x e = there (at_among xs i x e)
