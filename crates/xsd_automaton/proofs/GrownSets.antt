-- Sets that are found one after the other.
use Rattle.std.proofs.Common.{◌≡◌, ◌≢◌, ◌∙◌, ◌<◌, ◌≤◌, ◌+◌, ℕ, List, [], ◌∷◌, ◌++◌, length, set, Result, Ok, Err, IfOk, OnOk}
use Rattle.std.proofs.Common.{refl, sym, ap, subst, get_or, inl, inr, arith}
use Rattle.std.proofs.lemmas.Bool.{cases_lt}
use Rattle.std.proofs.lemmas.List.{get_or_append_left, get_or_push, get_or-set_same, get_or-set_other, length-append}
use Rattle.xsd_regex.specs.plain.Positions.{Position}
use Rattle.xsd_automaton.specs.plain.Closures.{IsClosed, StepsTo}
use Rattle.xsd_automaton.specs.plain.Sets.{no_set, members_at, AreSets, IsLonger, HasTarget, AreTargets, IsNumbered}
use Rattle.xsd_automaton.specs.plain.Sets.{no_target, to_set, is_there, is_added, has_none}

-- ---- one more set

module _ (ps : List Position) (is : List ℕ) (sets more : List (List ℕ)) where
  members_pushed : more ≡ sets ++ is ∷ [] → members_at more (length sets) ≡ is
  members_pushed e = ap (λ l. members_at l (length sets)) e ∙ get_or_push sets is [] (length sets) refl

  -- what holds of each set, and of the one that is added
  each_pushed : (P : List ℕ → Type 0) → more ≡ sets ++ is ∷ [] → ((i : ℕ) → i < length sets → P (members_at sets i)) → P is
      → (i : ℕ) → i < length more → P (members_at more i)
  each_pushed P e each last i lt =
      elim (cases_lt i (length sets)) [
        | inl before ↦
            subst P (sym (ap (λ l. members_at l i) e ∙ get_or_append_left sets (is ∷ []) [] i before)) (each i before)
        | inr past ↦
            let one = length-append sets (is ∷ []) in
            let len = ap (λ l. length l) e in
            let at : i ≡ length sets = omega (arith, lt, past, one, len) in
            subst (λ n. P (members_at more n)) (sym at) (subst P (sym (members_pushed e)) last)
      ]

  pub numbered_sets : (t : ℕ) → AreSets ps sets → IsClosed ps is → length is ≤ 12289 → IsNumbered is sets more t → AreSets ps more
  numbered_sets t are closed short (is_there same lt e) = subst (AreSets ps) (sym same) are
  numbered_sets t are closed short (is_added e at few) = record {
    few = let one = length-append sets (is ∷ []) in let len = ap (λ l. length l) e in omega (arith, at, few, one, len);
    closed = each_pushed (IsClosed ps) e are.closed closed;
    short = each_pushed (λ l. length l ≤ 12289) e are.short short;
  }
  numbered_sets t are closed short (has_none same none) = subst (AreSets ps) (sym same) are

  pub numbered_target : (t c : ℕ) (from : List ℕ) → StepsTo ps c from is → IsNumbered is sets more t → HasTarget ps more from c t
  numbered_target t c from steps (is_there same lt e) =
      to_set (subst (λ l. t < length l) (sym same) lt) (subst (StepsTo ps c from) (sym (ap (λ l. members_at l t) same ∙ e)) steps)
  numbered_target t c from steps (is_added e at few) =
      let one = length-append sets (is ∷ []) in
      let len = ap (λ l. length l) e in
      to_set (omega (arith, at, one, len)) (subst (StepsTo ps c from) (sym (ap (members_at more) at ∙ members_pushed e)) steps)
  numbered_target t c from steps (has_none same none) = no_target none

-- ---- more sets

module _ (ps : List Position) (sets more : List (List ℕ)) (longer : IsLonger sets more) where
  pub longer_target : (from : List ℕ) (c t : ℕ) → HasTarget ps sets from c t → HasTarget ps more from c t
  longer_target from c t (no_target none) = no_target none
  longer_target from c t (to_set lt steps) =
      let many = longer.many in to_set (omega (arith, many, lt)) (subst (StepsTo ps c from) (sym (longer.same t lt)) steps)

pub longer_trans : (a b c : List (List ℕ)) → IsLonger a b → IsLonger b c → IsLonger a c
longer_trans a b c p q =
    let m = p.many in
    let n = q.many in
    record { many = omega (arith, m, n); same = λ i lt. q.same i (omega (arith, lt, m)) ∙ p.same i lt }

pub longer_self : (a : List (List ℕ)) → IsLonger a a
longer_self a = record { many = omega arith; same = λ i lt. refl }

-- ---- results

module _ {E : Type 0} where
  pub if_ok : (r : Result ℕ E) (P Q : ℕ → Type 0) → ((t : ℕ) → P t → Q t) → IfOk r P → IfOk r Q
  if_ok (Ok t) P Q f h = f t h
  if_ok (Err e) P Q f h = tt

  pub on_ok : (r : Result ℕ E) (P : ℕ → Type 0) (Q : Type 0) → ((t : ℕ) → P t → Q) → IfOk r P → OnOk r Q
  on_ok (Ok t) P Q f h = f t h
  on_ok (Err e) P Q f h = tt

-- ---- a row

module _ (ps : List Position) (from targets : List ℕ) (n t : ℕ) where
  -- the target of the next character
  pub more_targets : (sets : List (List ℕ)) (m : ℕ) → m ≡ n → n < length targets → AreTargets ps sets from n targets → HasTarget ps sets from n t
      → AreTargets ps sets from (n + 1) (set targets m t)
  more_targets sets m same within are has c lt =
      elim (cases_lt c n) [
        | inl before ↦
            let apart : c ≢ m = omega (arith, before, same) in
            subst (HasTarget ps sets from c) (sym (get_or-set_other targets m c t no_set apart)) (are c before)
        | inr past ↦
            let at : c ≡ m = omega (arith, lt, past, same) in
            let here : get_or (set targets m t) c no_set ≡ t =
            ap (λ k. get_or (set targets m t) k no_set) at ∙ get_or-set_same targets m t no_set (omega (arith, within, same)) in
            subst (HasTarget ps sets from c) (sym here) (subst (λ k. HasTarget ps sets from k t) (sym (at ∙ same)) has)
      ]

  pub longer_targets : (sets more : List (List ℕ)) → IsLonger sets more → AreTargets ps sets from n targets → AreTargets ps more from n targets
  longer_targets sets more longer are c lt = longer_target ps sets more longer from c (get_or targets c no_set) (are c lt)
