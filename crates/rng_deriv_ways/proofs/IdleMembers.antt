-- Members of a choice that contain none of the candidates, and so have no ways.
use Rattle.std.proofs.Common.{◌≡◌, ◌∙◌, ◌+◌, ◌-◌, ◌<◌, ◌≤◌, ℕ, All, zero, suc, ⊎_elim, List, [], ◌∷◌, ◌++◌, length, map, take, get_or, slice_get, Some, None, Option}
use Rattle.std.proofs.Common.{ap, sym, subst, arith, refl}
use Rattle.std.proofs.lemmas.Bool.{cases_lt}
use Rattle.std.proofs.lemmas.List.{get_or-map, length-map, map-append, take_all}
use Rattle.std.proofs.lemmas.Option.{get_or_from_slice_get, slice_get-get_or, slice_get_within}
use Rattle.std.proofs.Math.Seq.{take-suc}
use Rattle.rng_model.specs.simple.Table.{Table}
use Rattle.rng_model.specs.simple.Tree.{Simple}
use Rattle.rng_deriv_laws.proofs.SameWays.{choice_all}
use Rattle.rng_deriv_table.specs.views.Node.{Node, node_of}
use Rattle.rng_deriv_table.specs.views.Skips.{members_at, members_found}
use Rattle.rng_deriv_table.specs.declared.pattern.Pattern.{Pattern}
use Rattle.rng_deriv_table.specs.declared.pattern.Pattern.TheVariants as pattern
use Rattle.rng_deriv_table.specs.declared.pattern.PatternNumber.{PatternNumber}
use Rattle.rng_deriv_ways.specs.plain.Idle.{AreIdle, IsNext}
use Rattle.rng_deriv_ways.specs.plain.Kinds.{weight}
use Rattle.rng_deriv_ways.specs.plain.Takers.{AreCandidates}
use Rattle.rng_deriv_ways.specs.plain.Ways.{AreWaysOf}
use Rattle.rng_deriv_ways.specs.declared.way.Candidates.{Candidates}
use Rattle.rng_deriv_ways.specs.declared.way.Kind.{Kind}
use Rattle.rng_deriv_ways.specs.declared.way.LeafWay.{LeafWay}
use Rattle.rng_deriv_table.specs.views.PatternTable.{Longer}
use Rattle.rng_deriv_table.specs.views.Trees.{choice_over, tree_of}
use Rattle.rng_deriv_table.proofs.MemberSkips.{members_stay}
use Rattle.rng_deriv_table.proofs.Trees.{tree_stays}
use Rattle.rng_deriv_ways.proofs.NumberedWays.{appended_stand}
use Rattle.rng_deriv_ways.proofs.SideWeights.{member_less}
use Rattle.rng_deriv_ways.proofs.WaysOfSides.{member_made, none_more, side_law}

-- the members of a choice that was found
pub members_are : (ns : List Node) (n : ℕ) (p : Pattern) (members : _) → slice_get ns n ≡ Some (node_of p) → p ≡ pattern.Choice members
    → members_at ns n ≡ map (λ (m : PatternNumber). m.0) members.items
members_are ns n p members found is = ap members_found (found ∙ ap (λ p. Some (node_of p)) is)

-- the number of a member
pub member_is : (ms : List PatternNumber) (k m : ℕ) (d : PatternNumber) → slice_get (map (λ (m : PatternNumber). m.0) ms) k ≡ Some m → (get_or ms k d).0 ≡ m
member_is ms k m d at =
    let inside = slice_get_within (map (λ (m : PatternNumber). m.0) ms) k m at in
    let long = length-map ms (λ (m : PatternNumber). m.0) in
    sym (get_or-map (λ (m : PatternNumber). m.0) ms k d d.0 (omega (arith, inside, long))) ∙ get_or_from_slice_get (map (λ (m : PatternNumber). m.0) ms) k m d.0 at

module _ (ns : List Node) (c : Candidates) (ms : List ℕ) where
  -- none up to the place where it begins
  pub none_idle : (from : ℕ) → AreIdle ns c ms from from
  none_idle from k m low high at = absurd (omega (arith, low, high))

  pub idle_further : (from mid end : ℕ) → AreIdle ns c ms from mid → AreIdle ns c ms mid end → AreIdle ns c ms from end
  idle_further from mid end a b k m low high at = ⊎_elim (λ near. a k m low near at) (λ far. b k m far high at) (cases_lt k mid)

  pub idle_up_to : (from past : ℕ) → length ms ≤ past → AreIdle ns c ms from past → AreIdle ns c ms from (length ms)
  idle_up_to from past over a k m low high at = a k m low (omega (arith, over, high)) at

pub one_taken : (f : ℕ → Simple ℕ) (ms : List ℕ) (i d : ℕ) → i < length ms → map f (take i ms) ++ f (get_or ms i d) ∷ [] ≡ map f (take (i + 1) ms)
one_taken f ms i d inside =
    let next : i + 1 ≡ suc i = omega arith in
    sym (ap (map f) (ap (λ k. take k ms) next ∙ take-suc ms i d inside) ∙ map-append f (take i ms) (get_or ms i d ∷ []))

-- the ways of the first members are those of more, where the others have none
module _ (t : Table) (ns : List Node) (kind : Kind) (f : ℕ → Simple ℕ) (ms : List ℕ) (ways : List LeafWay) where
  pub idle_taken : (from count : ℕ) → from + count ≤ length ms
      → ((k m : ℕ) → from ≤ k → k < from + count → slice_get ms k ≡ Some m → AreWaysOf t ns kind (f m) [])
      → AreWaysOf t ns kind (choice_all (map f (take from ms))) ways → AreWaysOf t ns kind (choice_all (map f (take (from + count) ms))) ways
  idle_taken from zero inside none some = subst (λ k. AreWaysOf t ns kind (choice_all (map f (take k ms))) ways) (omega arith) some
  idle_taken from (suc count) inside none some =
      let last = from + count in
      let within : last < length ms = omega (arith, inside) in
      let before = idle_taken from count (omega (arith, inside)) (λ k m low high at. none k m low (omega (arith, high)) at) some in
      let own = none last (get_or ms last 0) (omega arith) (omega arith) (slice_get-get_or ms last 0 within) in
      let more = subst (λ ps. AreWaysOf t ns kind (choice_all ps) ways) (one_taken f ms last 0 within)
      (none_more t ns kind (map f (take last ms)) (f (get_or ms last 0)) ways before own) in
      subst (λ k. AreWaysOf t ns kind (choice_all (map f (take k ms))) ways) (omega arith) more

none_next : (ns : List Node) (c : Candidates) (ms : List ℕ) (from : ℕ) (o : Option (ℕ × PatternNumber)) → IsNext ns c ms from o
    → ((x : ℕ × PatternNumber) → o ≡ Some x → ⊥) → AreIdle ns c ms from (length ms)
none_next ns c ms from None h no_more = h
none_next ns c ms from (Some x) h no_more = absurd (no_more x refl)

-- a choice of a table, and members of it in a longer table
module _ (t : Table) (n0 before : List Node) (longer : Longer n0 before) (kind : Kind) (c : Candidates) (n : ℕ) (inside : n < length n0)
    (below : All (λ m. m < length n0) (members_at n0 n)) where
  member_below : (i m : ℕ) → slice_get (members_at n0 n) i ≡ Some m → m < length n0
  member_below i m at =
      let ms = members_at n0 n in
      subst (λ m. m < length n0) (get_or_from_slice_get ms i m 0 at) (below i 0 (slice_get_within ms i m at))

  pub next_below : (from : ℕ) (next : ℕ × PatternNumber) → IsNext before c (members_at before n) from (Some next) → next.1.0 < length n0
  next_below from next told = member_below told.0 next.1.0
      (subst (λ ms. slice_get ms told.0 ≡ Some next.1.0) (members_stay n0 before longer n inside) told.3)

  pub next_within : (from : ℕ) (next : ℕ × PatternNumber) → IsNext before c (members_at before n) from (Some next)
      → (from < next.0) × (next.0 ≤ length (members_at n0 n))
  next_within from next told =
      let at = subst (λ ms. slice_get ms told.0 ≡ Some next.1.0) (members_stay n0 before longer n inside) told.3 in
      let there = slice_get_within (members_at n0 n) told.0 next.1.0 at in
      let is = told.1 in
      let first = told.2 in
      (omega (arith, is, first), omega (arith, is, there))

  -- a member is smaller than the choice
  pub next_less : 2 ≤ length (members_at n0 n) → (from : ℕ) (next : ℕ × PatternNumber) → IsNext before c (members_at before n) from (Some next)
      → weight (tree_of t before next.1.0) < weight (choice_over (tree_of t n0) (members_at n0 n))
  next_less two from next told =
      let ms = members_at n0 n in
      let f = tree_of t n0 in
      let m = next.1.0 in
      let at = subst (λ ms. slice_get ms told.0 ≡ Some m) (members_stay n0 before longer n inside) told.3 in
      let there = slice_get_within ms told.0 m at in
      let stays = ap weight (tree_stays t n0 before m longer (member_below told.0 m at)) in
      let is = ap (λ k. weight (f k)) (get_or_from_slice_get ms told.0 m 0 at) in
      let less = member_less f ms told.0 0 there two in
      omega (arith, stays, is, less)

  module _ (right : AreCandidates t before kind c) (all : List LeafWay) where
    -- members without ways are passed over
    idle_prefix : (from end : ℕ) → from ≤ end → end ≤ length (members_at n0 n) → AreIdle before c (members_at before n) from end
        → AreWaysOf t before kind (choice_all (map (tree_of t n0) (take from (members_at n0 n)))) all
        → AreWaysOf t before kind (choice_all (map (tree_of t n0) (take end (members_at n0 n)))) all
    idle_prefix from end first within idle some =
        let ms = members_at n0 n in
        let f = tree_of t n0 in
        let reach : from + (end - from) ≡ end = omega (arith, first) in
        subst (λ k. AreWaysOf t before kind (choice_all (map f (take k ms))) all) reach
        (idle_taken t before kind f ms all from (end - from) (omega (arith, reach, within)) (λ k m low high at.
        let own = idle k m low (omega (arith, reach, high)) (subst (λ ms. slice_get ms k ≡ Some m) (sym (members_stay n0 before longer n inside)) at) t kind right in
        subst (λ p. AreWaysOf t before kind p []) (tree_stays t n0 before m longer (member_below k m at)) own) some)

    pub all_idle : (from : ℕ) → from ≤ length (members_at n0 n) → (o : Option (ℕ × PatternNumber)) → IsNext before c (members_at before n) from o
        → ((x : ℕ × PatternNumber) → o ≡ Some x → ⊥) → AreWaysOf t before kind (choice_all (map (tree_of t n0) (take from (members_at n0 n)))) all
        → AreWaysOf t before kind (choice_all (map (tree_of t n0) (members_at n0 n))) all
    all_idle from within o told no_more some =
        let ms = members_at n0 n in
        let count = length ms in
        let same_count = ap length (members_stay n0 before longer n inside) in
        let idle = subst (AreIdle before c (members_at before n) from) same_count (none_next before c (members_at before n) from o told no_more) in
        subst (λ ms. AreWaysOf t before kind (choice_all (map (tree_of t n0) ms)) all) (take_all count ms (omega arith))
        (idle_prefix from count within (omega arith) idle some)

    -- the ways of the next member are added
    pub next_taken : (after : List Node) → Longer before after → (from : ℕ) (next : ℕ × PatternNumber) → IsNext before c (members_at before n) from (Some next)
        → AreWaysOf t before kind (choice_all (map (tree_of t n0) (take from (members_at n0 n)))) all
        → (ways new : List LeafWay) → AreWaysOf t after kind (tree_of t before next.1.0) ways → new ≡ all ++ ways
        → AreWaysOf t after kind (choice_all (map (tree_of t n0) (take next.0 (members_at n0 n)))) new
    next_taken after more from next told some ways new own added =
        let ms = members_at n0 n in
        let f = tree_of t n0 in
        let i = told.0 in
        let m = next.1.0 in
        let at : slice_get ms i ≡ Some m = subst (λ ms. slice_get ms i ≡ Some m) (members_stay n0 before longer n inside) told.3 in
        let there = slice_get_within ms i m at in
        let prefix = idle_prefix from i told.2 (omega (arith, there)) told.4 some in
        let front = side_law t before after kind (choice_all (map f (take i ms))) all more prefix in
        let member = subst (λ p. AreWaysOf t after kind p ways) (tree_stays t n0 before m longer (member_below i m at)) own in
        let cut = subst (λ k. map f (take i ms) ++ f k ∷ [] ≡ map f (take (i + 1) ms)) (get_or_from_slice_get ms i m 0 at) (one_taken f ms i 0 there) in
        subst (λ k. AreWaysOf t after kind (choice_all (map f (take k ms))) new) (sym told.1)
        (subst (λ ps. AreWaysOf t after kind (choice_all ps) new) cut
        (member_made t after after kind (map f (take i ms)) (f m) ways all new front member
        (appended_stand after all ways new front.inside member.inside added)))
