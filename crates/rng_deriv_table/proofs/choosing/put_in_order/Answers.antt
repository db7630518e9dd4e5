use Rattle.std.proofs.Common.{◌≡◌, ◌∙◌, ◌+◌, ◌<◌, arith, length, get_or, ap₂, ℕ, nat_cmp, nat_eq, Bool, true, false, cond, Decides, ap, map, refl}
use Rattle.std.proofs.Common.{sym, subst, Contains, List, [], ◌∷◌}
use Rattle.std.specs.Cmp.{decided}
use Rattle.std.specs.List.{dedup, dedup_from}
use Rattle.std.specs.List.Sorted.{IsSorted, IsSortedBy, IsStrictlyIncreasing}
use Rattle.std.specs.Ordering.{is_lt}
use Rattle.std.proofs.lemmas.Map.Keys.{IsStrictlyIncreasing-dedup}
use Rattle.std.proofs.lemmas.Bool.Decides.{Decides-eqb}
use Rattle.std.proofs.lemmas.List.{get_or-map, length-map}
use Rattle.std.proofs.lemmas.List.Filters.{dedup_is}
use Rattle.std.proofs.lemmas.List.Kept.{Contains-dedup, Contains-from_dedup}
use Rattle.std.proofs.lemmas.List.Sorted.{Contains-permutation, IsPermutation-sym}
use Rattle.rng_deriv_table.specs.declared.pattern.PatternNumber.{PatternNumber}
use Rattle.rng_deriv_table.specs.contracts.pattern.PatternNumberPartialEq.TheImpl as same
use Rattle.rng_deriv_table.proofs.choosing.put_in_order.Goals as goal

decides : (m n : PatternNumber) → Decides (same.ghosts.eq m n) (m ≡ n)
decides m n = (λ e. ap (λ k. record { 0 = k }) ((Decides-eqb m.0 n.0).0 e), λ e. (Decides-eqb m.0 n.0).1 (ap (λ (k : PatternNumber). k.0) e))

either_way : (b : Bool) (xs ys : List PatternNumber) (us vs : List ℕ) (m : PatternNumber) → map (λ (m : PatternNumber). m.0) xs ≡ us
    → map (λ (m : PatternNumber). m.0) ys ≡ vs → map (λ (m : PatternNumber). m.0) (cond b xs (m ∷ ys)) ≡ cond b us (m.0 ∷ vs)
either_way true xs ys us vs m e f = e
either_way false xs ys us vs m e f = ap (λ ws. m.0 ∷ ws) f

numbers_from : (m : PatternNumber) (ms : List PatternNumber)
    → map (λ (m : PatternNumber). m.0) (dedup_from same.ghosts.eq m ms) ≡ dedup_from nat_eq m.0 (map (λ (m : PatternNumber). m.0) ms)
numbers_from m [] = refl
numbers_from m (n ∷ ns) = either_way (nat_eq n.0 m.0) _ _ _ _ m (numbers_from m ns) (numbers_from n ns)

numbers_once : (ms : List PatternNumber) → map (λ (m : PatternNumber). m.0) (dedup same.ghosts.eq ms) ≡ dedup nat_eq (map (λ (m : PatternNumber). m.0) ms)
numbers_once [] = refl
numbers_once (m ∷ ms) = numbers_from m ms

numbers_sorted : (ms : List PatternNumber) → IsSortedBy (λ (m n : PatternNumber). is_lt (nat_cmp m.0 n.0)) ms
    → IsSorted nat_cmp (map (λ (m : PatternNumber). m.0) ms)
numbers_sorted ms h k d low inside =
    let long = length-map ms (λ (m : PatternNumber). m.0) in
    let e : PatternNumber = record { 0 = d } in
    let at : (i : ℕ) → i < length ms
    → get_or (map (λ (m : PatternNumber). m.0) ms) i d ≡ (get_or ms i e).0 = λ i l. get_or-map (λ (m : PatternNumber). m.0) ms i e d l in
    ap₂ (λ x y. is_lt (nat_cmp x y)) (at (k + 1) (omega (arith, long, inside))) (at k (omega (arith, long, inside))) ∙ h k e low (omega (arith, long, inside))

pub returns-clause-same : goal.returns-clause-same
returns-clause-same c = λ m.
    let before = c.args.numbers.now.items in
    let sorted = c.sort.new.self.items in
    let kept = dedup_is same.ghosts.eq sorted c.dedup.new.self.items c.dedup.ensures.filtered in
    let Has : List PatternNumber → Type 0 = λ ms. Contains ms m in (
      λ h. Contains-permutation sorted before m (IsPermutation-sym before sorted c.in_ok-sort.ensures.permutation)
          (Contains-from_dedup same.ghosts.eq sorted m (subst Has kept h)),
      λ h. subst Has (sym kept) (Contains-dedup (decided same.ghosts.eq decides) (λ x y e. (decides x y).0 e) sorted m
          (Contains-permutation before sorted m c.in_ok-sort.ensures.permutation h)),
    )

pub returns-clause-rising : goal.returns-clause-rising
returns-clause-rising c =
    let sorted = c.sort.new.self.items in
    let kept = dedup_is same.ghosts.eq sorted c.dedup.new.self.items c.dedup.ensures.filtered in
    subst (λ ms. IsStrictlyIncreasing (map (λ (m : PatternNumber). m.0) ms)) (sym kept)
    (subst IsStrictlyIncreasing (sym (numbers_once sorted))
    (IsStrictlyIncreasing-dedup (map (λ (m : PatternNumber). m.0) sorted) (numbers_sorted sorted c.in_ok-sort.ensures.sorted)))
