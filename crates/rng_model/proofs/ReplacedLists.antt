-- What is made of the last members of a list, and values beside the members.
use Rattle.std.proofs.Common.{◌≡◌, refl, ap, ap₂, sym, ◌∙◌, ℕ, ◌-◌, List, [], ◌∷◌, ◌++◌, map, length, take, drop, slice_index_or, arith}
use Rattle.std.proofs.Common.{length-append}
use Rattle.std.proofs.Math.Seq.{drop-append_seam, take-append_seam}
use Rattle.std.proofs.lemmas.List.{length-map, take-map, drop-map, length-drop, map_push, take_all}
use Rattle.rng_model.specs.views.ReplacedLists.{replaced}

-- exactly the members at the end
pub with_children : {A : Type 0} (n : ℕ) (make : List A → A) (ts us : List A) → n ≡ length us → replaced n make (ts ++ us) ≡ ts ++ make us ∷ []
with_children n make ts us e =
    let front : length (ts ++ us) - n ≡ length ts = omega (arith, length-append ts us, e) in
    ap₂ (λ xs ys. xs ++ make ys ∷ []) (ap (λ n. take n (ts ++ us)) front ∙ take-append_seam ts us)
    (ap (λ n. drop n (ts ++ us)) front ∙ drop-append_seam ts us)

module _ {A B : Type 0} (f : A → B) (n : ℕ) (xs : List A) (ys : List B) (same : ys ≡ map f xs) where
  front_is : length ys - n ≡ length xs - n
  front_is = ap (λ k. k - n) (ap length same ∙ length-map xs f)

  -- those of the last n
  pub last_seen : drop (length ys - n) ys ≡ map f (drop (length xs - n) xs)
  last_seen = ap₂ drop front_is same ∙ drop-map f (length xs - n) xs

  -- the last n replaced on both sides
  pub replaced_seen : (make : List A → A) (y : B) → y ≡ f (make (drop (length xs - n) xs)) → take (length ys - n) ys ++ y ∷ [] ≡ map f (replaced n make xs)
  replaced_seen make y e =
      ap₂ (λ bs b. bs ++ b ∷ []) (ap₂ take front_is same ∙ take-map f (length xs - n) xs) e
      ∙ sym (map_push f (take (length xs - n) xs) (make (drop (length xs - n) xs)))

-- `xs[n..]`
pub rest_from : {A : Type 0} (n m : ℕ) (xs ys : List A) → ys ≡ xs → m ≡ n → take (length ys - m) (drop m ys) ≡ drop n xs
rest_from n m xs ys e f = take_all (length ys - m) (drop m ys) (omega (arith, length-drop m ys)) ∙ ap₂ drop f e

-- the first value, or that of the default
pub first_seen : {A B : Type 0} (f : A → B) (xs : List A) (d : A) → slice_index_or (map f xs) 0 (f d) ≡ f (slice_index_or xs 0 d)
first_seen f [] d = refl
first_seen f (x ∷ xs) d = refl
