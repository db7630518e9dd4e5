-- Groups and interleaves cover others part by part, and an alternative that covers another one is enough for both.
use Rattle.std.proofs.Common.{◌≡◌, ◌⊎◌, ◌+◌, ◌<◌, ◌≤◌, ℕ, List, [], ◌∷◌, ◌++◌, Some, get_or, length, slice_get, slice_index_or, take, refl, subst, sym, ⊎_elim}
use Rattle.std.proofs.Common.{inl, inr, arith}
use Rattle.std.specs.List.{Contains, remove}
use Rattle.std.proofs.lemmas.List.{take_more}
use Rattle.std.proofs.lemmas.List.Elements.{Contains-append_cases, Contains-append_left, Contains-append_right}
use Rattle.rng_model.specs.simple.Tree.{Simple, s_empty}
use Rattle.rng_model.specs.matching.Document.{Attribute, Item}
use Rattle.rng_model.specs.simple.Table.{Table}
use Rattle.rng_model.proofs.OneSidedInterleavings.{left_alone, right_alone}
use Rattle.rng_model.specs.matching.GrammarMatching.{Reading}
use Rattle.rng_deriv_laws.specs.plain.Taking.{Takes}
use Rattle.rng_deriv_laws.specs.plain.Taking as taking
use Rattle.rng_deriv_laws.proofs.SamePatterns.{on_group, on_interleave}
use Rattle.rng_deriv_table.specs.views.Choices.{Covers}
use Rattle.rng_deriv_table.specs.views.Node.{Node}
use Rattle.rng_deriv_table.specs.views.Node as node
use Rattle.rng_deriv_table.specs.views.PatternTable.{IsPatternTable}
use Rattle.rng_deriv_table.specs.views.Trees.{choice_over, tree_of, tree_over}
use Rattle.rng_deriv_table.specs.declared.pattern.PatternNumber.{PatternNumber}
use Rattle.rng_deriv_table.proofs.Choices.{numbers, of_choice, only_one, takes_some}
use Rattle.rng_deriv_table.proofs.Trees.{tree_of-over_parts}

module _ (ns : List Node) (table : IsPatternTable ns) where
  over : (t : Table) (number : PatternNumber) (n : Node) → slice_get ns number.0 ≡ Some n → tree_of t ns number.0 ≡ tree_over t (tree_of t ns) n
  over t number n found = tree_of-over_parts t ns number.0 n (table.falls number.0 n found) found

  -- the empty pattern matches nothing more than a pattern that may be left out
  pub empty_covered : (outer inner : PatternNumber) → slice_get ns inner.0 ≡ Some node.empty
      → ((t : Table) (g : Reading) → Takes g (tree_of t ns outer.0) [] []) → Covers ns outer inner
  empty_covered outer inner part none = λ t g xs is d. only t g xs is (subst (λ (p : Simple ℕ). Takes g p xs is) (over t inner _ part) d) where
    only : (t : Table) (g : Reading) (xs : List Attribute) (is : List Item) → Takes g s_empty xs is → Takes g (tree_of t ns outer.0) xs is
    only t g xs is taking.empty_is = none t g

  pub choice_covers : (outer inner : PatternNumber) (ms : List PatternNumber) → slice_get ns outer.0 ≡ Some (node.choice (numbers ms)) → Contains ms inner
      → Covers ns outer inner
  choice_covers outer inner ms whole among = λ t g xs is d. subst (λ (p : Simple ℕ). Takes g p xs is) (sym (over t outer _ whole))
      ((takes_some g (tree_of t ns) ms (choice_over (tree_of t ns) (numbers ms)) (of_choice (tree_of t ns) ms) xs is).1 (inner, among, d))

  module _ (outer first second : PatternNumber) where
    pub group_covers : (inner front rest : PatternNumber) → slice_get ns outer.0 ≡ Some (node.group first.0 second.0)
        → slice_get ns inner.0 ≡ Some (node.group front.0 rest.0) → rest.0 ≡ second.0 → Covers ns first front → Covers ns outer inner
    group_covers inner front rest whole part same covers = λ t g xs is d.
        let behind : (xs : List Attribute) (is : List Item) → Takes g (tree_of t ns rest.0) xs is → Takes g (tree_of t ns second.0) xs is =
        λ xs is d. subst (λ n. Takes g (tree_of t ns n) xs is) same d in
        subst (λ (p : Simple ℕ). Takes g p xs is) (sym (over t outer _ whole))
        (on_group g (covers t g) behind xs is (subst (λ (p : Simple ℕ). Takes g p xs is) (over t inner _ part) d))

    -- if the first side may be left out
    pub second_side_covered : slice_get ns outer.0 ≡ Some (node.group first.0 second.0)
        → ((t : Table) (g : Reading) → Takes g (tree_of t ns first.0) [] []) → Covers ns outer second
    second_side_covered whole none = λ t g xs is d. subst (λ (p : Simple ℕ). Takes g p xs is) (sym (over t outer _ whole))
        (taking.grouped (none t g) d (right_alone xs) refl)

    module _ (whole : slice_get ns outer.0 ≡ Some (node.interleave first.0 second.0)) where
      pub interleave_covers : (inner one other : PatternNumber) → slice_get ns inner.0 ≡ Some (node.interleave one.0 other.0)
          → Covers ns first one → Covers ns second other → Covers ns outer inner
      interleave_covers inner one other part covers_one covers_other = λ t g xs is d.
          subst (λ (p : Simple ℕ). Takes g p xs is) (sym (over t outer _ whole))
          (on_interleave g (covers_one t g) (covers_other t g) xs is (subst (λ (p : Simple ℕ). Takes g p xs is) (over t inner _ part) d))

      -- if the second side may be left out
      pub first_covers : (inner : PatternNumber) → ((t : Table) (g : Reading) → Takes g (tree_of t ns second.0) [] [])
          → Covers ns first inner → Covers ns outer inner
      first_covers inner none covers = λ t g xs is d. subst (λ (p : Simple ℕ). Takes g p xs is) (sym (over t outer _ whole))
          (taking.interleaved (covers t g xs is d) (none t g) (left_alone xs) (left_alone is))

      -- if the first side may be left out
      pub second_covers : (inner : PatternNumber) → ((t : Table) (g : Reading) → Takes g (tree_of t ns first.0) [] [])
          → Covers ns second inner → Covers ns outer inner
      second_covers inner none covers = λ t g xs is d. subst (λ (p : Simple ℕ). Takes g p xs is) (sym (over t outer _ whole))
          (taking.interleaved (none t g) (covers t g xs is d) (right_alone xs) (right_alone is))

-- ---- fewer alternatives are enough

module _ (P : PatternNumber → Type 0) where
  abbrev Some_of : List PatternNumber → Type 0
  Some_of ms = (m : PatternNumber) × Contains ms m × P m

  -- what is enough for the first of them is enough, with the next one, for one more
  pub one_more : (left ms : List PatternNumber) (i : ℕ) (d : PatternNumber) → i < length ms → (Some_of (take i ms) → Some_of left)
      → Some_of (take (i + 1) ms) → Some_of (left ++ get_or ms i d ∷ [])
  one_more left ms i d inside enough h =
      let next = get_or ms i d ∷ [] in
      ⊎_elim (λ c. let l = enough (h.0, c, h.2) in (l.0, Contains-append_left left next l.0 l.1, l.2))
      (λ c. (h.0, Contains-append_right left next h.0 c, h.2))
      (Contains-append_cases (take i ms) next h.0 (subst (λ ns. Contains ns h.0) (take_more ms i d inside) h.1))

  pub of_two : (m n : PatternNumber) → Some_of (m ∷ n ∷ []) → P m ⊎ P n
  of_two m n h = ⊎_elim (λ c. inl (subst P (sym (only_one m h.0 c)) h.2)) (λ c. inr (subst P (sym (only_one n h.0 c)) h.2))
      (Contains-append_cases (m ∷ []) (n ∷ []) h.0 h.1)

  pub first_left : (d e : PatternNumber) (ms : List PatternNumber) → 2 ≤ length ms → length ms < 3
      → (P (slice_index_or ms 1 e) → P (slice_index_or ms 0 d)) → Some_of ms → Some_of (take 1 ms)
  first_left d e [] two below f h = absurd (omega (arith, two))
  first_left d e (m ∷ []) two below f h = absurd (omega (arith, two))
  first_left d e (m ∷ n ∷ []) two below f h = (m, (0, omega arith, refl), ⊎_elim (λ p. p) f (of_two m n h))
  first_left d e (m ∷ n ∷ o ∷ ms) two below f h = absurd (omega (arith, below))

  pub second_left : (d e : PatternNumber) (ms : List PatternNumber) → 2 ≤ length ms → length ms < 3
      → (P (slice_index_or ms 0 d) → P (slice_index_or ms 1 e)) → Some_of ms → Some_of (remove ms 0)
  second_left d e [] two below f h = absurd (omega (arith, two))
  second_left d e (m ∷ []) two below f h = absurd (omega (arith, two))
  second_left d e (m ∷ n ∷ []) two below f h = (n, (0, omega arith, refl), ⊎_elim f (λ p. p) (of_two m n h))
  second_left d e (m ∷ n ∷ o ∷ ms) two below f h = absurd (omega (arith, below))
