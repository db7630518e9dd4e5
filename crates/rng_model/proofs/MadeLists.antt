-- Lists that are made from another list, one element after another, until it has no more.
use Rattle.std.proofs.Common.{◌≡◌, inl, inr, sym, ap, ◌∙◌, ℕ, ◌<◌, ◌≤◌, ◌+◌, arith}
use Rattle.std.proofs.Common.{List, [], ◌∷◌, ◌++◌, None, Some, map, take, length, get_or, slice_get, length-append}
use Rattle.std.proofs.lemmas.Bool.{cases_lt}
use Rattle.std.proofs.lemmas.List.{get_or-map, length-map, take_all, take_more}
use Rattle.std.proofs.lemmas.Option.{get_or_from_slice_get, slice_get_cases, slice_get_within}

-- a position without an element is past the end
pub past_end : {A : Type 0} (xs : List A) (n : ℕ) → None ≡ slice_get xs n → length xs ≤ n
past_end xs n e = elim (cases_lt n (length xs)) [
  | inl h ↦ elim (slice_get_cases xs n).1 [ inl f ↦ absurd (let g = f.2 in cc) | inr f ↦ omega arith ]
  | inr h ↦ h
]

-- one more element, made from the next element of the other list
pub made_more : {A B : Type 0} (f : A → B) (xs : List A) (n : ℕ) (x : A) (ys zs : List B) → Some x ≡ slice_get xs n → n ≡ length ys → ys ≡ take n (map f xs)
    → zs ≡ ys ++ f x ∷ [] → zs ≡ take (length zs) (map f xs)
made_more f xs n x ys zs at long so_far more =
    let inside : n < length xs = slice_get_within xs n x (sym at) in
    let here : f x ≡ get_or (map f xs) n (f x) = sym (get_or-map f xs n x (f x) inside ∙ ap f (get_or_from_slice_get xs n x x (sym at))) in
    let longer : length zs ≡ n + 1 = omega (arith, ap length more, length-append ys (f x ∷ []), long) in
    more ∙ ap (λ y. ys ++ y ∷ []) here ∙ ap (λ ws. ws ++ get_or (map f xs) n (f x) ∷ []) so_far
    ∙ sym (take_more (map f xs) n (f x) (omega (arith, length-map xs f))) ∙ ap (λ k. take k (map f xs)) (sym longer)

pub made_all : {A B : Type 0} (f : A → B) (xs : List A) (n : ℕ) (ys : List B) → None ≡ slice_get xs n → n ≡ length ys → ys ≡ take (length ys) (map f xs)
    → ys ≡ map f xs
made_all f xs n ys at long so_far = so_far ∙ take_all (length ys) (map f xs) (omega (arith, past_end xs n at, length-map xs f))
