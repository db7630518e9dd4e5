-- The meaning of states that are built, and what they keep.
use Rattle.std.proofs.Common.{◌≡◌, ℕ, List, [], ◌∷◌, refl, Bool, true, false, cond, inl, inr, ◌⊎◌}
use Rattle.rng_model.specs.simple.Tree.{Simple, s_not_allowed}
use Rattle.rng_model.specs.matching.Document.{Item}
use Rattle.rng_model.specs.matching.GrammarMatching.{Reading}
use Rattle.rng_deriv_laws.specs.plain.Taking.{Takes}
use Rattle.rng_deriv_laws.specs.plain.Taking as t
use Rattle.rng_deriv_laws.specs.plain.Restricted.{IsRestricted}
use Rattle.rng_deriv_laws.specs.plain.Blanks.{has_element, without_blanks}
use Rattle.rng_deriv_laws.specs.plain.Derivatives.{is_not_allowed}
use Rattle.rng_deriv_laws.specs.plain.States.{State, never, finished, after, either, is_never, after_of, either_of, if_so, Holds, Contains, Begins}
use Rattle.rng_deriv_laws.specs.plain.States.{IsRestrictedState}
use Rattle.rng_deriv_laws.proofs.KeptRestrictions.{either_one}

pub none_taken : (g : Reading) (p : Simple ℕ) (ns : List Item) → is_not_allowed p ≡ true → Takes g p [] ns → ⊥
none_taken g s_not_allowed ns e d = elim d [ ]
none_taken g _ ns e d = cc

-- ---- a choice of states, for any meaning that `never` does not have

module _ (M : State → Type 0) (none : M never → ⊥) where
  first_of : (r s : State) → (M r → M (either r s)) → M r → M (cond (is_never s) r (either r s))
  first_of r never f h = h
  first_of r finished f h = f h
  first_of r (after p s) f h = f h
  first_of r (either s u) f h = f h

  pub either_left : (r s : State) → (M r → M (either r s)) → M r → M (either_of r s)
  either_left never s f h = absurd (none h)
  either_left finished s f h = first_of finished s f h
  either_left (after p r) s f h = first_of (after p r) s f h
  either_left (either r u) s f h = first_of (either r u) s f h

  second_of : (r s : State) → (M s → M (either r s)) → M s → M (cond (is_never s) r (either r s))
  second_of r never f h = absurd (none h)
  second_of r finished f h = f h
  second_of r (after p s) f h = f h
  second_of r (either s u) f h = f h

  pub either_right : (r s : State) → (M s → M (either r s)) → M s → M (either_of r s)
  either_right never s f h = h
  either_right finished s f h = second_of finished s f h
  either_right (after p r) s f h = second_of (after p r) s f h
  either_right (either r u) s f h = second_of (either r u) s f h

  of_either : (r s : State) → (M (either r s) → M r ⊎ M s) → M (cond (is_never s) r (either r s)) → M r ⊎ M s
  of_either r never f h = inl h
  of_either r finished f h = f h
  of_either r (after p s) f h = f h
  of_either r (either s u) f h = f h

  pub either_out : (r s : State) → (M (either r s) → M r ⊎ M s) → M (either_of r s) → M r ⊎ M s
  either_out never s f h = inr h
  either_out finished s f h = of_either finished s f h
  either_out (after p r) s f h = of_either (after p r) s f h
  either_out (either r u) s f h = of_either (either r u) s f h

both_tests : (M : State → Type 0) (b c : Bool) (r : State) → (b ≡ true → ⊥) → (c ≡ true → ⊥) → M r → M (cond b never (cond c never r))
both_tests M true c r f h m = absurd (f refl)
both_tests M false true r f h m = absurd (h refl)
both_tests M false false r f h m = m

of_tests : (M : State → Type 0) → (M never → ⊥) → (b c : Bool) (r : State) → M (cond b never (cond c never r)) → M r
of_tests M none true c r m = absurd (none m)
of_tests M none false true r m = absurd (none m)
of_tests M none false false r m = m

module _ (g : Reading) where
  -- ---- the meaning for levels

  pub holds_left : (r s : State) (ls : List (List Item)) → Holds g r ls → Holds g (either_of r s) ls
  holds_left r s ls h = either_left (λ r. Holds g r ls) (λ h. h) r s (λ k. inl k) h

  pub holds_right : (r s : State) (ls : List (List Item)) → Holds g s ls → Holds g (either_of r s) ls
  holds_right r s ls h = either_right (λ r. Holds g r ls) (λ h. h) r s (λ k. inr k) h

  pub holds_out : (r s : State) (ls : List (List Item)) → Holds g (either_of r s) ls → Holds g r ls ⊎ Holds g s ls
  holds_out r s ls h = either_out (λ r. Holds g r ls) (λ h. h) r s (λ k. k) h

  not_never : (r : State) (ls : List (List Item)) → Holds g r ls → is_never r ≡ true → ⊥
  not_never never ls h e = h
  not_never finished ls h e = cc
  not_never (after p r) ls h e = cc
  not_never (either r s) ls h e = cc

  pub holds_after : (p : Simple ℕ) (r : State) (ns : List Item) (ls : List (List Item)) → Takes g p [] ns → Holds g r ls → Holds g (after_of p r) (ns ∷ ls)
  holds_after p r ns ls d h =
      both_tests (λ r. Holds g r (ns ∷ ls)) (is_not_allowed p) (is_never r) (after p r) (λ e. none_taken g p ns e d) (not_never r ls h) (d, h)

  pub holds_after_out : (p : Simple ℕ) (r : State) (ns : List Item) (ls : List (List Item)) → Holds g (after_of p r) (ns ∷ ls) → Takes g p [] ns × Holds g r ls
  holds_after_out p r ns ls h = of_tests (λ r. Holds g r (ns ∷ ls)) (λ h. h) (is_not_allowed p) (is_never r) (after p r) h

  pub holds_after_none : (p : Simple ℕ) (r : State) → Holds g (after_of p r) [] → ⊥
  holds_after_none p r h = of_tests (λ r. Holds g r []) (λ h. h) (is_not_allowed p) (is_never r) (after p r) h

  pub so_in : (b : Bool) (r : State) (ls : List (List Item)) → b ≡ true → Holds g r ls → Holds g (if_so b r) ls
  so_in b r ls e h = rw e h

  pub so_out : (b : Bool) (r : State) (ls : List (List Item)) → Holds g (if_so b r) ls → (b ≡ true) × Holds g r ls
  so_out true r ls h = (refl, h)
  so_out false r ls h = absurd h

  -- ---- the meaning for the content of an element

  pub begins_left : (r s : State) (kids : List Item) (ls : List (List Item)) → Begins g r kids ls → Begins g (either_of r s) kids ls
  begins_left r s kids ls h = either_left (λ r. Begins g r kids ls) (λ h. h) r s (λ k. inl k) h

  pub begins_right : (r s : State) (kids : List Item) (ls : List (List Item)) → Begins g s kids ls → Begins g (either_of r s) kids ls
  begins_right r s kids ls h = either_right (λ r. Begins g r kids ls) (λ h. h) r s (λ k. inr k) h

  pub begins_either : (r s : State) (kids : List Item) (ls : List (List Item)) → Begins g (either_of r s) kids ls → Begins g r kids ls ⊎ Begins g s kids ls
  begins_either r s kids ls h = either_out (λ r. Begins g r kids ls) (λ h. h) r s (λ k. k) h

  pub none_contained : (b : Bool) (p : Simple ℕ) (kids : List Item) → is_not_allowed p ≡ true → Contains g b p kids → ⊥
  none_contained true p kids e d = none_taken g p (without_blanks kids) e d
  none_contained false p kids e (t.as_is d) = none_taken g p kids e d
  none_contained false p kids e (t.blank_text d b) = none_taken g p [] e d
  none_contained false p kids e (t.nothing_there d) = none_taken g p _ e d

  pub begins_after : (p : Simple ℕ) (r : State) (kids : List Item) (ls : List (List Item)) → Contains g (has_element kids) p kids → Holds g r ls
      → Begins g (after_of p r) kids ls
  begins_after p r kids ls d h =
      both_tests (λ r. Begins g r kids ls) (is_not_allowed p) (is_never r) (after p r) (λ e. none_contained (has_element kids) p kids e d)
      (not_never r ls h) (d, h)

  pub begins_after_out : (p : Simple ℕ) (r : State) (kids : List Item) (ls : List (List Item)) → Begins g (after_of p r) kids ls
      → Contains g (has_element kids) p kids × Holds g r ls
  begins_after_out p r kids ls h = of_tests (λ r. Begins g r kids ls) (λ h. h) (is_not_allowed p) (is_never r) (after p r) h

-- ---- the restrictions

pub either_of-restricted : (r s : State) → IsRestrictedState r → IsRestrictedState s → IsRestrictedState (either_of r s)
either_of-restricted r s h k = either_one IsRestrictedState (is_never r) s _ k (either_one IsRestrictedState (is_never s) r (either r s) h (h, k))

pub after_of-restricted : (p : Simple ℕ) (r : State) → IsRestricted p → IsRestrictedState r → IsRestrictedState (after_of p r)
after_of-restricted p r o h = either_one IsRestrictedState (is_not_allowed p) never _ tt
    (either_one IsRestrictedState (is_never r) never (after p r) tt (o, h))

pub if_so-restricted : (b : Bool) (r : State) → IsRestrictedState r → IsRestrictedState (if_so b r)
if_so-restricted b r h = either_one IsRestrictedState b r never h tt
