-- Lists and their members.
use Rattle.std.proofs.Common.{◌≡◌, refl, sym, subst, ap, ℕ, zero, suc, ◌≤◌, Bool, true, false, ◌||◌, List, [], ◌∷◌, ◌++◌, length, arith, ◌⊎◌, inl, inr, map}
use Rattle.std.proofs.Common.{get_or, ◌<◌}
use Rattle.std.specs.List.{list_any}
use Rattle.std.specs.Str.{bytes_eq}
use Rattle.std.proofs.lemmas.Slice.Eq.{bytes_eq-Decides}
use Rattle.std.proofs.lemmas.Bool.{or_left, or_right}
use Rattle.rng_model.specs.names.Lists.{Among, here, there, HasTwice, at_first, later}
use Rattle.rnc_model.specs.loading.SchemaFile.{FileName}

pub false_true : false ≡ true → ⊥
false_true h = cc

module _ {A : Type 0} where
  pub in_none : {x : A} → Among x [] → ⊥
  in_none p = elim p [ ]

  pub in_cons : {x m : A} {ns : List A} → Among x (m ∷ ns) → (x ≡ m) ⊎ Among x ns
  in_cons here = inl refl
  in_cons (there p) = inr p

  pub in_first : {x m : A} (ns : List A) → x ≡ m → Among x (m ∷ ns)
  in_first {x} ns e = subst (λ m. Among x (m ∷ ns)) e here

  pub in_left : {x : A} {ns : List A} → Among x ns → (ms : List A) → Among x (ns ++ ms)
  in_left here ms = here
  in_left (there p) ms = there (in_left p ms)

  pub in_right : {x : A} (ns : List A) {ms : List A} → Among x ms → Among x (ns ++ ms)
  in_right [] p = p
  in_right (n ∷ ns) p = there (in_right ns p)

  pub in_either : {x : A} (ns : List A) {ms : List A} → Among x (ns ++ ms) → Among x ns ⊎ Among x ms
  in_either [] p = inr p
  in_either (n ∷ ns) p = elim (in_cons p) [ inl e ↦ inl (in_first ns e) | inr q ↦ elim (in_either ns q) [ inl a ↦ inl (there a) | inr b ↦ inr b ] ]

  -- the members of a list with one more at its end
  pub in_more : {x y : A} (ns : List A) → Among x (ns ++ y ∷ []) → Among x ns ⊎ (x ≡ y)
  in_more ns p = elim (in_either ns p) [ inl a ↦ inl a | inr b ↦ elim (in_cons b) [ inl e ↦ inr e | inr c ↦ absurd (in_none c) ] ]

  pub in_place : (xs : List A) (i : ℕ) (x : A) → i < length xs → x ≡ get_or xs i x → Among x xs
  in_place [] i x l is = absurd (omega (arith, l))
  in_place (y ∷ ys) zero x l is = in_first ys is
  in_place (y ∷ ys) (suc i) x l is = there (in_place ys i x (omega (arith, l)) is)

  -- ---- lists without duplicates

  pub none_twice : HasTwice {A = A} [] → ⊥
  none_twice h = elim h [ ]

  pub twice_or : {x : A} {xs : List A} → HasTwice (x ∷ xs) → Among x xs ⊎ HasTwice xs
  twice_or (at_first a) = inl a
  twice_or (later h) = inr h

  twice_more : (ns : List A) (n : A) → HasTwice (ns ++ n ∷ []) → HasTwice ns ⊎ Among n ns
  twice_more [] n h = elim (twice_or h) [ inl a ↦ absurd (in_none a) | inr l ↦ absurd (none_twice l) ]
  twice_more (m ∷ ns) n h = elim (twice_or h) [
    | inl a ↦ elim (in_more ns a) [ inl b ↦ inl (at_first b) | inr e ↦ inr (in_first ns (sym e)) ]
    | inr l ↦ elim (twice_more ns n l) [ inl t ↦ inl (later t) | inr a ↦ inr (there a) ]
  ]

  pub differ_more : (ns : List A) (n : A) → ¬ (HasTwice ns) → ¬ (Among n ns) → ¬ (HasTwice (ns ++ n ∷ []))
  differ_more ns n d h t = elim (twice_more ns n t) [ inl a ↦ d a | inr b ↦ h b ]

  -- a member of the front is not a member of the rest
  pub differ_parts : {x : A} (ns : List A) {ms : List A} → ¬ (HasTwice (ns ++ ms)) → Among x ns → Among x ms → ⊥
  differ_parts [] d p q = in_none p
  differ_parts {x} (n ∷ ns) {ms} d p q = elim (in_cons p) [
    | inl e ↦ d (at_first (in_right ns (subst (λ y. Among y ms) e q)))
    | inr r ↦ differ_parts ns
        (λ t. d (later t)) r q
  ]

  pub differ_front : (ns ms : List A) → ¬ (HasTwice (ns ++ ms)) → ¬ (HasTwice ns)
  differ_front ns ms d t = d (twice_left t ms) where
    twice_left : {ns : List A} → HasTwice ns → (ms : List A) → HasTwice (ns ++ ms)
    twice_left (at_first a) ms = at_first (in_left a ms)
    twice_left (later t) ms = later (twice_left t ms)

  without : {x : A} {us : List A} → Among x us → (vs : List A) × (length us ≡ suc (length vs)) × ((y : A) → Among y us → (y ≡ x) ⊎ Among y vs)
  without (here {xs}) = (xs, refl, λ y p. in_cons p)
  without (there {y = m} {xs} p) =
      let w = without p in
      (m ∷ w.0, ap suc w.1, λ y q. elim (in_cons q) [ inl f ↦ inr (in_first w.0 f) | inr r ↦ elim (w.2 y r) [ inl g ↦ inl g | inr s ↦ inr (there s) ] ])

  -- distinct members of a list are no more than its length
  pub no_more : (xs us : List A) → ¬ (HasTwice xs) → ((y : A) → Among y xs → Among y us) → length xs ≤ length us
  no_more [] us d h = omega arith
  no_more (x ∷ xs) us d h =
      let w = without (h x here) in
      let i = no_more xs w.0 (λ t. d (later t)) (λ y p. elim (w.2 y (h y (there p))) [
        | inl e ↦ absurd (d (at_first (subst
            (λ z. Among z xs) e p)))
        | inr q ↦ q
      ]) in
      omega (arith, w.1, i)

pub from_map : {A B : Type 0} (f : A → B) {y : B} (xs : List A) → Among y (map f xs) → (x : A) × Among x xs × (y ≡ f x)
from_map f [] p = absurd (in_none p)
from_map f (x ∷ xs) p = elim (in_cons p) [ inl e ↦ (x, here, e) | inr q ↦ let r = from_map f xs q in (r.0, there r.1, r.2) ]

-- ---- the test of names

in_by : (n m : FileName) (ns : List FileName) (b : Bool) → bytes_eq n m ≡ b → (b || list_any (λ k. bytes_eq n k) ns) ≡ true → (list_any
    (λ k. bytes_eq n k) ns ≡ true → Among n ns)
    → Among n (m ∷ ns)
in_by n m ns true e h ih = in_first ns ((bytes_eq-Decides n m).0 e)
in_by n m ns false e h ih = there (ih h)

pub any_in : (n : FileName) (ns : List FileName) → list_any (λ m. bytes_eq n m) ns ≡ true → Among n ns
any_in n [] h = absurd (false_true h)
any_in n (m ∷ ns) h = in_by n m ns (bytes_eq n m) refl h (any_in n ns)

pub in_any : {n : FileName} {ns : List FileName} → Among n ns → list_any (λ m. bytes_eq n m) ns ≡ true
in_any {n} (here {xs}) = or_left (bytes_eq n n) (list_any (λ k. bytes_eq n k) xs) ((bytes_eq-Decides n n).1 refl)
in_any {n} (there {y} {xs} p) = or_right (bytes_eq n y) (list_any (λ k. bytes_eq n k) xs) (in_any p)
