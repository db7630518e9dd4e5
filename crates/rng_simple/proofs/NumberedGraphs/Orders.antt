-- The first numbers of an order are an order, and include what the next one mentions.
use Rattle.std.proofs.Common.{◌≡◌, inl, inr, ap, sym, ◌∙◌, subst, ℕ, ◌<◌, List, [], ◌∷◌, length, take, get_or, Contains, length-append}
use Rattle.std.proofs.Common.{arith}
use Rattle.std.proofs.lemmas.Bool.{cases_lt}
use Rattle.std.proofs.lemmas.List.{take_all, take-append-le, get_or_append_left, get_or_push}
use Rattle.rng_simple.specs.plain.Graph.{IsOrderBy, no_numbers, and_number}

module _ {A : Type 0} (M : A → A → Type 0) where
  pub first_in_order : {xs : List A} → IsOrderBy M xs → (i : ℕ) → IsOrderBy M (take i xs)
  first_in_order no_numbers i = subst (IsOrderBy M) (sym (take_all i [] (omega arith))) no_numbers
  first_in_order (and_number {xs = xs} {ys = ys} x o f e) i = elim (cases_lt (length xs) i) [
    | inl h ↦
        let all : take i ys ≡ ys = take_all i ys (omega (arith, ap length e, length-append xs (x ∷ []))) in
        subst (IsOrderBy M) (sym all) (and_number x o f e)
    | inr h ↦ subst (IsOrderBy M) (sym (ap (take i) e ∙ take-append-le i xs (x ∷ []) h)) (first_in_order o i)
  ]

  pub mentions_earlier : {xs : List A} → IsOrderBy M xs → (i : ℕ) → i < length xs → (x y : A) → x ≡ get_or xs i x → M x y → Contains (take i xs) y
  mentions_earlier no_numbers i h x y at m = absurd (omega arith)
  mentions_earlier (and_number {xs = xs} {ys = ys} z o f e) i h x y at m = elim (cases_lt i (length xs)) [
    | inl k ↦
        let front : take i ys ≡ take i xs = ap (take i) e ∙ take-append-le i xs (z ∷ []) (omega arith) in
        let same : x ≡ get_or xs i x = at ∙ ap (λ zs. get_or zs i x) e ∙ get_or_append_left xs (z ∷ []) x i k in
        subst (λ zs. Contains zs y) (sym front) (mentions_earlier o i k x y same m)
    | inr k ↦
        let last : i ≡ length xs = omega (arith, ap length e, length-append xs (z ∷ [])) in
        let front : take i ys ≡ xs = ap (take i) e ∙ take-append-le i xs (z ∷ []) (omega arith) ∙ take_all i xs k in
        let same : x ≡ z = at ∙ ap (λ zs. get_or zs i x) e ∙ get_or_push xs z x i (sym last) in
        subst (λ zs. Contains zs y) (sym front) (f y (subst (λ w. M w y) same m))
  ]
