-- The numbers of a queue have the mark of the round, when one more is set.
use Rattle.std.proofs.Common.{◌≡◌, ◌≢◌, inl, inr, refl, ap, sym, ◌∙◌, subst, ℕ, zero, suc, ◌+◌, ◌<◌, ◌≤◌, List, [], ◌∷◌, ◌++◌, length, set, take}
use Rattle.std.proofs.Common.{slice_get, Some, All, Contains, get_or, length-append, arith}
use Rattle.std.proofs.lemmas.Bool.{cases_eq}
use Rattle.std.proofs.lemmas.List.{take_more, take_all, get_or-set_same, get_or-set_other, length-set}
use Rattle.std.proofs.lemmas.List.Elements.{All-append, All-contains, All-same, Contains-append_left}
use Rattle.std.proofs.lemmas.List.Elements.{Contains-push, Contains-push_cases}
use Rattle.std.proofs.lemmas.Option.{slice_get_within, get_or_from_slice_get, slice_get-get_or}
use Rattle.rng_model.proofs.Options.{one_value}
use Rattle.rng_model.proofs.Members.{not_in_none, one_only, all_from_members}
use Rattle.rng_model.proofs.Places.{some_at, all_at}
use Rattle.rng_rules.specs.plain.NamesMeetReach.{Without, none, marked, unmarked, IsMarked}

-- ---- lists

-- one more element for which P holds
pub all_more : {A : Type 0} (P : A → Type 0) (xs : List A) (n : ℕ) (x : A) → n < length xs → x ≡ get_or xs n x → P x → All P (take n xs) → All P (take (n + 1) xs)
all_more P xs n x h e p all = All-same P (take (n + 1) xs) (take n xs ++ x ∷ []) (take_more xs n x h ∙ ap (λ y. take n xs ++ y ∷ []) (sym e))
    (All-append P (take n xs) (x ∷ []) all (all_from_members P (x ∷ []) (λ y c. subst P (one_only x y c) p)))

pub all_of : {A : Type 0} (P : A → Type 0) (xs : List A) (n : ℕ) → length xs ≤ n → All P (take n xs) → (x : A) → Contains xs x → P x
all_of P xs n h all x c = All-contains P xs x (All-same P xs (take n xs) (sym (take_all n xs h)) all) c

-- ---- marks

record OneLess (mark : ℕ) (ms : List ℕ) (n : ℕ) : Type 0 where
  pub rest : ℕ
  pub is : rest + 1 ≡ n
  pub left : Without mark ms rest

one_less : (mark m k : ℕ) (ms : List ℕ) (n : ℕ) → Without mark ms n → slice_get ms k ≡ Some m → m ≢ mark → OneLess mark (set ms k mark) n
one_less mark m k [] n w e new = absurd (let h = slice_get_within [] k m e in omega arith)
one_less mark m zero (p ∷ ms) n (marked same w) e new = absurd (new (one_value e refl ∙ same))
one_less mark m zero (p ∷ ms) n (unmarked {n = r} other w) e new = record { rest = r; is = refl; left = marked refl w }
one_less mark m (suc k) (p ∷ ms) n (marked same w) e new = let h = one_less mark m k ms n w e new in record { rest = h.rest; is = h.is; left = marked same h.left }
one_less mark m (suc k) (p ∷ ms) n (unmarked {n = r} other w) e new =
    let h = one_less mark m k ms r w e new in record { rest = h.rest + 1; is = ap (λ j. j + 1) h.is; left = unmarked other h.left }

without_all : (mark : ℕ) (ms : List ℕ) → ((k m : ℕ) → slice_get ms k ≡ Some m → m < mark) → Without mark ms (length ms)
without_all mark [] f = none
without_all mark (m ∷ ms) f =
    subst (Without mark (m ∷ ms)) (omega arith) (unmarked (λ e. let h = f 0 m refl in omega arith) (without_all mark ms (λ k z e. f (suc k) z e)))

pub nothing_marked : (round : ℕ) (marks : List ℕ) → All (λ m. m < round) marks → IsMarked round marks []
nothing_marked round marks small = record {
  marked = λ k e. absurd (let h = all_at (λ m. m < round) marks k round small e in omega arith);
  seen = λ k c. absurd (not_in_none c);
  greatest = λ k d h. let l = small k d h in omega arith;
  room = length marks;
  left = without_all round marks (λ k m e. all_at (λ m. m < round) marks k m small e);
  count = omega arith;
}

module _ (round : ℕ) (marks : List ℕ) (queue : List ℕ) (k m : ℕ) (is : IsMarked round marks queue) (at : slice_get marks k ≡ Some m) (new : m ≢ round) where
  not_in : Contains queue k → ⊥
  not_in c = new (one_value at (is.seen k c))

  at_mark : (j : ℕ) → slice_get (set marks k round) j ≡ Some round → Contains (queue ++ k ∷ []) j
  at_mark j e =
      let inside : j < length marks = omega (arith, slice_get_within (set marks k round) j round e, length-set marks k round) in
      elim (cases_eq j k) [
        | inl q ↦ subst (Contains (queue ++ k ∷ [])) (sym q) (Contains-push queue k)
        | inr n ↦ Contains-append_left queue (k ∷ []) j (is.marked j
            (slice_get-get_or marks j round inside ∙ ap Some (sym (get_or-set_other marks k j round round n)
            ∙ get_or_from_slice_get (set marks k round) j round round e)))
      ]

  mark_at : (j : ℕ) → Contains (queue ++ k ∷ []) j → slice_get (set marks k round) j ≡ Some round
  mark_at j c = elim (Contains-push_cases queue k j c) [
    | inl h ↦
        let s = is.seen j h in
        let n : j ≡ k → ⊥ = λ q. not_in (subst (Contains queue) q h) in
        slice_get-get_or (set marks k round) j round (omega (arith, slice_get_within marks j round s, length-set marks k round))
        ∙ ap Some (get_or-set_other marks k j round round n ∙ get_or_from_slice_get marks j round round s)
    | inr q ↦
        let inside = slice_get_within marks k m at in
        ap (slice_get (set marks k round)) (sym q) ∙ slice_get-get_or (set marks k round) k round (omega (arith, length-set marks k round))
        ∙ ap Some (get_or-set_same marks k round round inside)
  ]

  not_greater : (j z : ℕ) → slice_get (set marks k round) j ≡ Some z → z ≤ round
  not_greater j z e =
      let inside : j < length marks = omega (arith, slice_get_within (set marks k round) j z e, length-set marks k round) in
      elim (cases_eq j k) [
        | inl q ↦
            let same : z ≡ round = sym (get_or_from_slice_get (set marks k round) j z z e) ∙ ap (λ i. get_or (set marks k round) i z) q
            ∙ get_or-set_same marks k round z (slice_get_within marks k m at) in
            omega arith
        | inr n ↦ all_at (λ m. m ≤ round) marks j z is.greatest
            (slice_get-get_or marks j z inside ∙ ap Some (sym (get_or-set_other marks k j round z n)
            ∙ get_or_from_slice_get (set marks k round) j z z e))
      ]

  pub one_marked : IsMarked round (set marks k round) (queue ++ k ∷ [])
  one_marked =
      let less = one_less round m k marks is.room is.left at new in record {
        marked = at_mark;
        seen = mark_at;
        greatest = all_from_members (λ m. m ≤ round) (set marks k round) (λ z c. let i = some_at (set marks k round) z c in not_greater i.0 z i.2);
        room = less.rest;
        left = less.left;
        count = omega (arith, less.is, is.count, length-append queue (k ∷ []), length-set marks k round);
      }
