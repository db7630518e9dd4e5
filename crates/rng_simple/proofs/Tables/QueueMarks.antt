-- Marks on the numbers of a queue, when one more is set.
use Rattle.std.proofs.Common.{◌≡◌, inl, inr, refl, ap, sym, ◌∙◌, subst, ℕ, zero, suc, ◌+◌, ◌<◌, ◌≤◌, Bool, true, false, List, [], ◌∷◌, ◌++◌}
use Rattle.std.proofs.Common.{length, set, slice_get, Some, Contains, length-append, arith}
use Rattle.std.proofs.lemmas.Bool.{cases_eq}
use Rattle.std.proofs.lemmas.List.{get_or-set_same, get_or-set_other, length-set}
use Rattle.std.proofs.lemmas.List.Elements.{Contains-append_left}
use Rattle.std.proofs.lemmas.List.Elements.{Contains-push, Contains-push_cases}
use Rattle.std.proofs.lemmas.Option.{slice_get_within, slice_get-get_or, get_or_from_slice_get}
use Rattle.rng_model.proofs.Options.{one_value}
use Rattle.rng_model.proofs.Places.{before_or_at_end}
use Rattle.rng_simple.specs.plain.Worklist.{trues, AreDistinctNumbers, IsMarked}

true_is_not_false : true ≡ false → ⊥
true_is_not_false e = cc

pub trues_within : (marks : List Bool) → trues marks ≤ length marks
trues_within [] = omega arith
trues_within (true ∷ marks) = let h = trues_within marks in omega arith
trues_within (false ∷ marks) = let h = trues_within marks in omega arith

trues_more : (marks : List Bool) (k : ℕ) → slice_get marks k ≡ Some false → trues (set marks k true) ≡ trues marks + 1
trues_more [] k e = absurd (let h = slice_get_within [] k false e in omega arith)
trues_more (true ∷ marks) zero e = absurd (let z = e in cc)
trues_more (false ∷ marks) zero e = omega arith
trues_more (true ∷ marks) (suc k) e = let h = trues_more marks k e in omega arith
trues_more (false ∷ marks) (suc k) e = trues_more marks k e

-- ---- one more mark

contains_at : (xs : List ℕ) (i k : ℕ) → slice_get xs i ≡ Some k → Contains xs k
contains_at xs i k e = (i, slice_get_within xs i k e, get_or_from_slice_get xs i k k e)

module _ (marks : List Bool) (queue : List ℕ) (k : ℕ) (is : IsMarked marks queue) (new : slice_get marks k ≡ Some false) where
  not_there : Contains queue k → ⊥
  not_there c = true_is_not_false (one_value (is.seen k c) new)

  at_mark : (j : ℕ) → slice_get (set marks k true) j ≡ Some true → Contains (queue ++ k ∷ []) j
  at_mark j e =
      let inside : j < length marks = omega (arith, slice_get_within (set marks k true) j true e, length-set marks k true) in
      elim (cases_eq j k) [
        | inl q ↦ subst (Contains (queue ++ k ∷ [])) (sym q) (Contains-push queue k)
        | inr n ↦ Contains-append_left queue (k ∷ []) j (is.marked j
            (slice_get-get_or marks j true inside ∙ ap Some (sym (get_or-set_other marks k j true true n)
            ∙ get_or_from_slice_get (set marks k true) j true true e)))
      ]

  mark_at : (j : ℕ) → Contains (queue ++ k ∷ []) j → slice_get (set marks k true) j ≡ Some true
  mark_at j c = elim (Contains-push_cases queue k j c) [
    | inl h ↦
        let m = is.seen j h in
        let n : j ≡ k → ⊥ = λ q. not_there (subst (Contains queue) q h) in
        slice_get-get_or (set marks k true) j true (omega (arith, slice_get_within marks j true m, length-set marks k true))
        ∙ ap Some (get_or-set_other marks k j true true n ∙ get_or_from_slice_get marks j true true m)
    | inr q ↦
        let inside = slice_get_within marks k false new in
        ap (slice_get (set marks k true)) (sym q) ∙ slice_get-get_or (set marks k true) k true (omega (arith, length-set marks k true))
        ∙ ap Some (get_or-set_same marks k true true inside)
  ]

  once : AreDistinctNumbers (queue ++ k ∷ [])
  once i j n e f = elim (before_or_at_end queue k n i e) [
    | inl h ↦ elim (before_or_at_end queue k n j f) [
      | inl g ↦ is.distinct i j n h g
      | inr g ↦ absurd (not_there (subst (Contains queue) g.1 (contains_at queue i n h)))
    ]
    | inr h ↦ elim (before_or_at_end queue k n j f) [
      | inl g ↦ absurd (not_there (subst (Contains queue) h.1 (contains_at queue j n g)))
      | inr g ↦ h.0 ∙ sym g.0
    ]
  ]

  pub one_marked : IsMarked (set marks k true) (queue ++ k ∷ [])
  one_marked = record {
    marked = at_mark;
    seen = mark_at;
    count = omega (arith, trues_more marks k new, is.count, length-append queue (k ∷ []));
    distinct =
        once;
  }

-- ---- a mark that is not set

trues_same : (marks : List Bool) → trues (marks ++ false ∷ []) ≡ trues marks
trues_same [] = refl
trues_same (true ∷ marks) = let h = trues_same marks in omega arith
trues_same (false ∷ marks) = trues_same marks

pub none_more : (marks : List Bool) → IsMarked marks [] → IsMarked (marks ++ false ∷ []) []
none_more marks is = record {
  marked = λ k e. elim (before_or_at_end marks false true k e) [ inl h ↦ is.marked k h | inr h ↦ absurd (true_is_not_false h.1) ];
  seen = λ k c. absurd (let h = c.1 in omega arith);
  count = trues_same marks ∙ is.count;
  distinct = is.distinct;
}

pub none_at_first : IsMarked [] []
none_at_first = record {
  marked = λ k e. absurd (let h = slice_get_within [] k true e in omega arith);
  seen = λ k c. absurd (let h = c.1 in omega arith);
  count = refl;
  distinct = λ i j k e f. absurd (let h = slice_get_within [] i k e in omega arith);
}

pub queue_is_short : (marks : List Bool) (seen : List ℕ) → IsMarked marks seen → length seen ≤ length marks
queue_is_short marks seen is = omega (arith, is.count, trues_within marks)
