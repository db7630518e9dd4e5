-- Look-ups in lists that change at one place.
use Rattle.std.proofs.Common.{◌≡◌, ◌⊎◌, inl, inr, ℕ, zero, suc, List, [], ◌∷◌, ◌++◌, length, refl, sym, ap, ◌∙◌, subst, arith, Option, Some, None, slice_get, slice_set, Contains}
use Rattle.std.specs.Option.{IfSome}
use Rattle.std.proofs.lemmas.Option.{same_Some, none-some}
use Rattle.std.proofs.lemmas.List.Elements.{Contains-push_cases}
use Rattle.smallvec.specs.SmallVec.{SmallVec}
use Rattle.rng_deriv_events.specs.declared.level_table.level.LevelNumber.{LevelNumber}
use Rattle.rng_deriv_events.specs.declared.level_table.step.End.{End}
use Rattle.rng_deriv_events.specs.views.LevelTable.{IsEndAt, IsKnownAt}

-- ---- after a write

pub set_cases : {A : Type 0} (xs : List A) (i j : ℕ) (y z : A) → slice_get (slice_set xs i y) j ≡ Some z
    → (slice_get xs j ≡ Some z) ⊎ ((j ≡ i) × (z ≡ y))
set_cases [] i j y z e = inl e
set_cases (x ∷ xs) zero zero y z e = inr (refl, sym (same_Some _ _ e))
set_cases (x ∷ xs) zero (suc j) y z e = inl e
set_cases (x ∷ xs) (suc i) zero y z e = inl e
set_cases (x ∷ xs) (suc i) (suc j) y z e = elim (set_cases xs i j y z e) [ inl f ↦ inl f | inr f ↦ inr (ap suc f.0, f.1) ]

-- ---- after a push

pub push_cases : {A : Type 0} (xs : List A) (y x : A) (i : ℕ) → slice_get (xs ++ y ∷ []) i ≡ Some x → (slice_get xs i ≡ Some x) ⊎ (y ≡ x)
push_cases [] y x zero e = inr (same_Some _ _ e)
push_cases [] y x (suc i) e = inl e
push_cases (z ∷ xs) y x zero e = inl e
push_cases (z ∷ xs) y x (suc i) e = push_cases xs y x i e

-- ---- levels that are known

pub known_none : (known more : List (Option LevelNumber)) (n : ℕ) (m : LevelNumber) → more ≡ known ++ None ∷ [] → IsKnownAt more n m → IsKnownAt known n m
known_none known more n m e h = elim (push_cases known None (Some m) n (subst (λ xs. slice_get xs n ≡ Some (Some m)) e h)) [
  | inl f ↦ f
  | inr f ↦ absurd (none-some m f)
]

pub known_set : (known : List (Option LevelNumber)) (number n : ℕ) (level m : LevelNumber) → IsKnownAt (slice_set known number (Some level)) n m
    → IsKnownAt known n m ⊎ ((n ≡ number) × (m ≡ level))
known_set known number n level m h = elim (set_cases known number n (Some level) (Some m) h) [
  | inl f ↦ inl f
  | inr f ↦ inr (f.0, same_Some m level f.1)
]

pub known_there : (known : List (Option LevelNumber)) (n : ℕ) (o : Option LevelNumber) → Some o ≡ slice_get known n → IfSome o (IsKnownAt known n)
known_there known n None e = tt
known_there known n (Some m) e = sym e

-- ---- ends that are known

pub ends_none : (ends more : List (SmallVec End)) (none : SmallVec End) (n : ℕ) (e : End) → none.items ≡ [] → more ≡ ends ++ none ∷ [] → IsEndAt more n e
    → IsEndAt ends n e
ends_none ends more none n e empty pushed (es, at, c) = elim (push_cases ends none es n (subst (λ xs. slice_get xs n ≡ Some es) pushed at)) [
  | inl f ↦ (es, f, c)
  | inr f ↦ let lt = c.1 in
      let long : length es.items ≡ length none.items = ap (λ (v : SmallVec End). length v.items) (sym f) in
      let nothing : length none.items ≡ 0 = ap length empty in
      absurd (omega (arith, lt, long, nothing))
]

pub ends_set : (ends : List (SmallVec End)) (number n : ℕ) (old new : SmallVec End) (end e : End) → slice_get ends number ≡ Some old
    → new.items ≡ old.items ++ end ∷ [] → IsEndAt (slice_set ends number new) n e → IsEndAt ends n e ⊎ ((n ≡ number) × (e ≡ end))
ends_set ends number n old new end e there pushed (es, at, c) = elim (set_cases ends number n new es at) [
  | inl f ↦ inl (es, f, c)
  | inr f ↦ elim (Contains-push_cases old.items end e (subst (λ xs. Contains xs e) pushed (subst (λ (v : SmallVec End). Contains v.items e) f.1 c))) [
    | inl d ↦ inl (old, ap (slice_get ends) f.0 ∙ there, d)
    | inr d ↦ inr (f.0, sym d)
  ]
]
