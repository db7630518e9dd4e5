-- Numbers of a table that grows.
use Rattle.std.proofs.Common.{◌≡◌, ℕ, ◌<◌, ◌+◌, List, [], ◌∷◌, ◌++◌, length, map, take, refl, sym, ap, ◌∙◌, subst, All, arith, slice_index_or, slice_set, drop}
use Rattle.std.proofs.Common.{◌-◌, append_assoc, Option, None}
use Rattle.std.specs.Option.{MatchOption, option_to_list}
use Rattle.std.proofs.lemmas.Option.{MatchOption-at_none}
use Rattle.std.proofs.lemmas.List.{length-append, length-set, get_or_append_left, take_at, take_more, append-nil}
use Rattle.std.proofs.lemmas.List.Elements.{All-weaker, All-take, All-push, AllZip-push, All-head, All-tail, All-nil, All-cons}
use Rattle.std.specs.List.{AllZip, refill}
use Rattle.rng_model.specs.simple.Tree.{Simple, s_not_allowed}
use Rattle.rng_model.specs.matching.GrammarMatching.{Reading}
use Rattle.rng_deriv_laws.specs.plain.Restricted.{IsRestricted}
use Rattle.rng_deriv_table.specs.declared.pattern.PatternNumber.{PatternNumber}
use Rattle.rng_deriv_events.specs.views.Numbers.{Longer, IsInside, tree_of, Adds, AddsEach}

-- an item that is set through a loan of the whole list
pub set_lent : {A : Type 0} (xs lent : List A) (i : ℕ) (y : A) → lent ≡ xs → refill (length xs) xs (slice_set lent i y) ≡ slice_set xs i y
set_lent xs lent i y same =
    take_at (slice_set lent i y) (drop (length (slice_set lent i y)) xs) (length xs) (length-set lent i y ∙ ap length same)
    ∙ ap (λ zs. slice_set zs i y) same

pub all_before : {A : Type 0} (P : A → Type 0) (xs : List A) (x : A) → All P (xs ++ x ∷ []) → All P xs
all_before P [] x all = All-nil P
all_before P (y ∷ xs) x all = All-cons P y xs (All-head P y (xs ++ x ∷ []) all) (all_before P xs x (All-tail P y (xs ++ x ∷ []) all))

pub longer_same : (ts : List (Simple ℕ)) → Longer ts ts
longer_same ts = ([], sym (append-nil ts))

pub longer_through : (a b c : List (Simple ℕ)) → Longer a b → Longer b c → Longer a c
longer_through a b c l m = (l.0 ++ m.0, m.1 ∙ ap (λ x. x ++ m.0) l.1 ∙ append_assoc a l.0 m.0)

pub tree_stays : (old new : List (Simple ℕ)) → Longer old new → (n : PatternNumber) → IsInside old n → tree_of new n ≡ tree_of old n
tree_stays old new l n i = ap (λ ts. tree_of ts n) l.1 ∙ get_or_append_left old l.0 s_not_allowed n.0 i.below

pub inside_stays : (old new : List (Simple ℕ)) → Longer old new → (n : PatternNumber) → IsInside old n → IsInside new n
inside_stays old new l n i = record {
  below = let b = i.below in let e = ap length l.1 in let long = length-append old l.0 in omega (arith, b, e, long);
  restricted = subst IsRestricted (sym (tree_stays old new l n i)) i.restricted;
}

pub all_inside_stay : (old new : List (Simple ℕ)) → Longer old new → (ns : List PatternNumber) → All (IsInside old) ns → All (IsInside new) ns
all_inside_stay old new l ns all = All-weaker (IsInside old) (IsInside new) (inside_stays old new l) ns all

pub trees_stay : (old new : List (Simple ℕ)) → Longer old new → (ns : List PatternNumber) → All (IsInside old) ns → map (tree_of new) ns ≡ map (tree_of old) ns
trees_stay old new l [] all = refl
trees_stay old new l (n ∷ ns) all =
    let first = tree_stays old new l n (All-head (IsInside old) n ns all) in
    let more = trees_stay old new l ns (All-tail (IsInside old) n ns all) in
    rw (first, more) refl

-- ---- one pattern after another

pub map_push : {A B : Type 0} (f : A → B) (xs : List A) (x : A) → map f (xs ++ x ∷ []) ≡ map f xs ++ f x ∷ []
map_push f [] x = refl
map_push f (y ∷ xs) x = ap (λ l. f y ∷ l) (map_push f xs x)

module _ (Is : Simple ℕ → Simple ℕ → Type 0) (old base new : List (Simple ℕ)) (ps qs : List PatternNumber) (p n : PatternNumber)
    (h : AddsEach Is old base ps qs) (inside : All (IsInside old) ps) (i : IsInside old p) (a : Adds (Is (tree_of base p)) base new n) where
  each_after : AllZip Is (map (tree_of new) (ps ++ p ∷ [])) (map (tree_of new) (qs ++ n ∷ []))
  each_after =
      let before = trees_stay base new a.longer ps (all_inside_stay old base h.longer ps inside) in
      let behind = trees_stay base new a.longer qs h.inside in
      let last = tree_stays base new a.longer p (inside_stays old base h.longer p i) in
      let one : AllZip Is (map (tree_of new) ps) (map (tree_of new) qs) =
      subst (λ xs. AllZip Is xs (map (tree_of new) qs)) (sym before) (subst (λ ys. AllZip Is (map (tree_of base) ps) ys) (sym behind) h.each) in
      let more = AllZip-push Is (map (tree_of new) ps) (map (tree_of new) qs) (tree_of new p) (tree_of new n) one
      (subst (λ t. Is t (tree_of new n)) (sym last) a.is) in
      subst (λ xs. AllZip Is xs (map (tree_of new) (qs ++ n ∷ []))) (sym (map_push (tree_of new) ps p))
      (subst (λ ys. AllZip Is (map (tree_of new) ps ++ tree_of new p ∷ []) ys) (sym (map_push (tree_of new) qs n)) more)

  pub each_more : AddsEach Is old new (ps ++ p ∷ []) (qs ++ n ∷ [])
  each_more = record {
    longer = longer_through old base new h.longer a.longer;
    inside = All-push (IsInside new) qs n (all_inside_stay base new a.longer qs h.inside) a.inside;
    each = each_after;
  }

pub no_pattern : (Is : Simple ℕ → Simple ℕ → Type 0) (ts : List (Simple ℕ)) → AddsEach Is ts ts [] []
no_pattern Is ts = record { longer = longer_same ts; inside = All-nil (IsInside ts); each = tt }

-- the only pattern of a list
pub only_one : (Is : Simple ℕ → Simple ℕ → Type 0) (old new : List (Simple ℕ)) (ps all : List PatternNumber) (d n : PatternNumber) → ps ≡ all
    → length ps ≡ 1 → All (IsInside old) all → Adds (Is (tree_of old (slice_index_or ps 0 d))) old new n → AddsEach Is old new all (n ∷ [])
only_one Is old new [] all d n same one inside a = absurd (omega (arith, one))
only_one Is old new (p ∷ []) all d n same one inside a =
    let i = All-head (IsInside old) p [] (subst (All (IsInside old)) (sym same) inside) in
    subst (λ ps. AddsEach Is old new ps (n ∷ [])) same (each_more Is old old new [] [] p n (no_pattern Is old) (All-nil (IsInside old)) i a)
only_one Is old new (p ∷ q ∷ ps) all d n same one inside a = absurd (omega (arith, one))

-- for a loop over the patterns
pub each_at : (Is : Reading → Simple ℕ → Simple ℕ → Type 0) (g h : Reading) (old base new : List (Simple ℕ)) (ps qs items : List PatternNumber) (i : ℕ)
    (d n : PatternNumber) → g ≡ h → AddsEach (Is h) old base (take i ps) qs → All (IsInside old) ps → i < length ps →
    Adds (Is g (tree_of base (slice_index_or ps i d))) base new n → items ≡ qs ++ n ∷ [] → AddsEach (Is h) old new (take (i + 1) ps) items
each_at Is g h old base new ps qs items i d n same first inside lt a e =
    subst (λ ps. AddsEach (Is h) old new ps items) (sym (take_more ps i d lt))
    (subst (λ qs. AddsEach (Is h) old new (take i ps ++ slice_index_or ps i d ∷ []) qs) (sym e)
    (each_more (Is h) old base new (take i ps) qs (slice_index_or ps i d) n first (All-take (IsInside old) i ps inside) (inside i d lt)
    (subst (λ g. Adds (Is g (tree_of base (slice_index_or ps i d))) base new n) same a)))

-- ---- a list from which nothing was taken, since it is empty

pub none_left : {A : Type 0} (r : Option A) (xs ys : List A) (n k : ℕ) (Q : A → Type 0) → r ≡ None → xs ≡ ys ++ option_to_list r → ys ≡ take (n - 1) xs
    → MatchOption r ((n ≡ 0) × (k ≡ 0)) Q → (xs ≡ []) × (ys ≡ [])
none_left r xs ys n k Q is items rest cases =
    let nothing = MatchOption-at_none ((n ≡ 0) × (k ≡ 0)) Q is cases in
    let none : ys ≡ [] = rest ∙ ap (λ n. take (n - 1) xs) nothing.0 in
    (items ∙ ap (λ r. ys ++ option_to_list r) is ∙ append-nil ys ∙ none, none)
